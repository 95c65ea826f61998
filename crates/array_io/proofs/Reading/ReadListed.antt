-- What the reads of a call give is the list's, and steps that keep the list, one row after another, keep it.
use Rattle.std.proofs.Common.{◌≡◌, inl, ℕ, ◌+◌, ◌<◌, true, false, List, refl, sym, ◌∙◌, subst, arith}
use Rattle.std.specs.Prelude.{Ok}
use Rattle.std.proofs.lemmas.Option.{none-some}
use Rattle.sector_model.specs.Bank.{IsTrueTo, Panel}
use Rattle.sector_model.specs.Moments.{here}
use Rattle.sector_model.specs.History.{Bytes, History}
use Rattle.sector_model.specs.Readable.{readable}
use Rattle.sector_model.proofs.Panels.{later_same}
use Rattle.sector_model.proofs.Readable.{readable_left}
use Rattle.sector_model.proofs.Reading.{read_none}
use Rattle.layout_map.specs.declared.geometry.Geometry.{Geometry}
use Rattle.layout_map.specs.Placement.{rows_of}
use Rattle.layout_map.specs.declared.sizes.TheConstants.{FIRST_ROW}
use Rattle.superblock.proofs.LeastSectors.{member_least}
use Rattle.superblock.specs.declared.table.Table.{Table}
use Rattle.superblock.specs.Cases.{HasWholeSectors}
use Rattle.degraded.specs.RowValue.{Rows, AreSound, logical_list, row_values, value}
use Rattle.degraded.proofs.Values.{length-value}
use Rattle.array_io.specs.Believed.ArrayCalls.{Answer}
use Rattle.array_io.specs.Steps.FormingRows.{IsListed, IsListedRow}
use Rattle.array_io.specs.Steps.ReadingOn.{Between, KeepsFrom, KeepsList, KeepsOn}
use Rattle.array_io.specs.Believed.Settled.{IsAllThere, rows_by}
use Rattle.array_io.specs.Believed.Views.{view_of}
use Rattle.array_io.proofs.Calls.CallSteps.{steps_both}
use Rattle.array_io.proofs.Calls.DeviceSteps.{goes_on_later}
use Rattle.array_io.proofs.Images.SameList.{HaveWholeValues}
use Rattle.array_io.proofs.Images.Spellings.{Spellings}
use Rattle.array_io.proofs.Reading.ListedRows.{listed_once, row_listed, value_in_row}
use Rattle.array_io.proofs.Reading.ReadCall.{sectors_of}
use Rattle.array_io.proofs.Reading.ReadSteps.{quiet_moments}
use Rattle.array_io.proofs.Rest.AtRestImages.{whole_left}
use Rattle.array_io.proofs.Rest.AtRestRows.{table_tells}
use Rattle.array_io.proofs.Writes.Writable.{writable_rests}

flags_differ : ¬ (true ≡ false)
flags_differ e = cc

-- no step keeps the list
pub keeps_none : Spellings → (honest : Type 0) (table : Table) (panel : Panel) (h : History) → (honest → IsTrueTo panel h)
    → KeepsOn honest table table panel panel h h (Ok tt)
keeps_none spellings honest table panel h true_to devices number = record {
  goes_on = goes_on_later panel panel h h table number (later_same panel);
  stays = record { table = inl refl; failure = λ fair goes slot of_set failed. absurd (flags_differ (sym failed.is_down ∙ failed.was_up)) };
  number = refl;
  moments = λ fair from at. quiet_moments spellings honest devices number table panel panel h h true_to true_to from at (read_none h) (λ d. refl);
  reached = λ fair ok from at. at;
  runs = λ fair. here (λ device down. down);
  carried = λ fair ok. inl record { table = refl; front = λ device at below. refl; down = λ device. refl };
  cause = λ refusal ended. absurd (cc);
}

-- sound rows of whole sectors that list V
record AreRowsFor (geometry : Geometry) (rows : Rows) (V : List Bytes) : Type 0 where
  pub listed : logical_list geometry rows ≡ V
  pub sound : AreSound rows (rows_of geometry.chunk geometry.stripes)
  pub whole : HaveWholeValues geometry rows

-- the values that a table counts on have 512 bytes
members_whole : (devices : ℕ) (table : Table) (h : History) → IsAllThere devices table h → HasWholeSectors (readable h)
    → HaveWholeValues table.geometry (rows_by table (readable h))
members_whole devices table h there whole row member below within = length-value (rows_by table (readable h)) row member
    (λ sector is. absurd (none-some sector is))
    (λ none counts.
    let live = ((table_tells devices table (readable h) there row member within).0 counts).live in
    let least = member_least table.geometry member within in
    whole member (FIRST_ROW + row) (omega (arith, below, least, live.long_enough)))

-- so are the rows of an array between the steps of a call that keeps the list
rows_between : Spellings → (panel : Panel) (devices number : ℕ) (from : KeepsFrom) (table : Table) (h : History) → panel.devices ≡ devices → IsTrueTo panel h
    → Between devices number from table h → AreRowsFor table.geometry (rows_by table (readable h)) from.logical
rows_between spellings panel devices number from table h same_devices true_to at =
    let sectors = sectors_of panel h true_to in
    let after = writable_rests spellings panel devices number from.base table from.lost from.logical h same_devices at sectors in
    record {
      listed = after.rests.listed;
      sound = after.rests.sound;
      whole = members_whole panel.devices table h after.rests.there (whole_left h (readable h) sectors (readable_left h));
    }

-- the value of a member, while the list stays, is the list's sector
pub value_listed : Spellings → (panel : Panel) (devices number : ℕ) (from : KeepsFrom) (table : Table) (h : History) (member row : ℕ) (to : Bytes)
    → member < table.geometry.members → row < rows_of table.geometry.chunk table.geometry.stripes → panel.devices ≡ devices → IsTrueTo panel h
    → Between devices number from table h → to ≡ value (rows_by table (readable h)) row member → IsListed table.geometry from.logical row member to
value_listed spellings panel devices number from table h member row to within below same_devices true_to at is = λ values listed.
    let rows = rows_by table (readable h) in
    let are = rows_between spellings panel devices number from table h same_devices true_to at in
    let here : IsListedRow table.geometry from.logical row (row_values rows row) =
    subst (λ (V : List Bytes). IsListedRow table.geometry V row (row_values rows row)) are.listed
    (row_listed table.geometry rows row refl (are.sound row below) (λ m inside. are.whole row m below inside)) in
    is ∙ sym (value_in_row rows row member within) ∙ listed_once table.geometry from.logical row below (row_values rows row) values here listed member within

module _ (honest : Type 0) (table mid_table : Table) (old_panel mid_panel : Panel) (old mid : History)
    (first : KeepsOn honest table mid_table old_panel mid_panel old mid (Ok tt)) where
  -- the set stays what it is
  pub same_set : mid_table.geometry ≡ table.geometry
  same_set = (first 0 0).goes_on.not_older.same_geometry

  pub between_then : honest → (number : ℕ) (from : KeepsFrom) → Between old_panel.devices number from table old
      → Between mid_panel.devices number from mid_table mid
  between_then fair number from at = subst (λ (n : ℕ). Between n number from mid_table mid) (sym (first 0 0).goes_on.later.devices)
      ((first old_panel.devices number).reached fair refl from at)

  module _ (still : Type 0) (more : honest → still) (new_table : Table) (new_panel : Panel) (new : History) where
    -- steps after steps
    pub keeps_both : (answer : Answer) → KeepsOn still mid_table new_table mid_panel new_panel mid new answer
        → KeepsOn honest table new_table old_panel new_panel old new answer
    keeps_both answer second devices number = steps_both honest still more (KeepsList devices) (Between devices number) (Between devices number)
        (Between devices number)
        (view_of old_panel old table number) (view_of mid_panel mid mid_table number) (view_of new_panel new new_table number) answer (first devices number)
        (second devices number)

    -- what was read last
    pub read_listed : Spellings → (honest → IsTrueTo new_panel new) → KeepsOn still mid_table new_table mid_panel new_panel mid new (Ok tt)
        → (member row : ℕ) (to : Bytes) → member < table.geometry.members → row < rows_of table.geometry.chunk table.geometry.stripes
        → to ≡ value (rows_by new_table (readable new)) row member
        → honest → (number : ℕ) (from : KeepsFrom) → Between old_panel.devices number from table old → IsListed table.geometry from.logical row member to
    read_listed spellings true_new second member row to within below is fair number from at =
        let steps = keeps_both (Ok tt) second in
        let same = (steps 0 0).goes_on.not_older.same_geometry in
        subst (λ (g : Geometry). IsListed g from.logical row member to) same
        (value_listed spellings new_panel old_panel.devices number from new_table new member row to
        (subst (λ (g : Geometry). member < g.members) (sym same) within) (subst (λ (g : Geometry). row < rows_of g.chunk g.stripes) (sym same) below)
        (steps 0 0).goes_on.later.devices (true_new fair) ((steps old_panel.devices number).reached fair refl from at) is)
