-- The last entry is loaded from the journal that has it, or that journal fails and is marked missing.
use Rattle.std.proofs.Common.{◌≡◌, ◌≢◌, ◌⊎◌, ℕ, ◌+◌, ◌<◌, Bool, true, false, List, length, Option, Some, None, Result, Ok, Err, sym, ◌∙◌, ap, subst}
use Rattle.std.specs.Prelude.{OnOk}
use Rattle.sector_model.specs.declared.refusal.Refusal.{Refusal}
use Rattle.sector_model.specs.declared.sector.Stop.{Stop}
use Rattle.sector_model.specs.declared.sector.Stop.TheVariants as stop
use Rattle.sector_model.specs.Bank.{IsCauseOf, IsLater, IsTrueTo, Panel}
use Rattle.sector_model.specs.History.{Bytes, History, is_down, sector_of, seen}
use Rattle.sector_model.specs.Reads.{HasRead}
use Rattle.sector_model.proofs.Reading.{seen_read}
use Rattle.layout_map.specs.declared.geometry.Geometry.{Geometry}
use Rattle.superblock.specs.declared.table.Table.{Table}
use Rattle.superblock.specs.NextTables.{IsMarked}
use Rattle.stripe_journal.specs.declared.entry.Entry.{Entry}
use Rattle.stripe_journal.specs.declared.seal.Seal.{Seal}
use Rattle.stripe_journal.specs.Entries.{IsEntryOf, body_of, body_start, sector_at}
use Rattle.stripe_journal.specs.Forms.{in_body, rank, rows_in}
use Rattle.array_io.specs.Believed.ArrayCalls.{Answer}
use Rattle.array_io.specs.Believed.Views.{ArrayView, HasItsSlots, view_of}
use Rattle.array_io.specs.Steps.Putting.{Copied, HoldsAll, IfSingleFailure, IsComing, IsPut}
use Rattle.array_io.specs.Steps.PuttingSteps.{Brings, EndsOrFailsSlot}
use Rattle.array_io.proofs.Calls.CallSteps.{steps_refused}
use Rattle.array_io.proofs.Images.Spellings.{Spellings}
use Rattle.recovery.specs.declared.latest.Latest.{Latest}
use Rattle.recovery.specs.Replaying.{AllHaveLast, BringsTo, IsFound, IsLatestBeside, IsLatestOf, IsLatestOn, IsLoaded, progress_of}
use Rattle.recovery.proofs.BringingTo.{brings_on, brings_then}
use Rattle.recovery.proofs.JournalReads.{beside_left, gone_then, latest_still, read_done, read_failed}
use Rattle.recovery.proofs.LatestEntry.{body_loaded, comes, none_to_put}
use Rattle.recovery.proofs.LatestFound.{beside_on}

module _ (spellings : Spellings) (honest : Type 0) (latest : Latest) (number : ℕ) (table : Table) (body : List Bytes) (of_set : IsLatestOf table latest)
    (old_panel mid_panel : Panel) (old mid : History)
    (later : IsLater old_panel mid_panel) (read : honest → HasRead old mid)
    (others : (other : ℕ) → honest → other ≢ latest.source → is_down mid other ≡ is_down old other)
    (true_old : honest → IsTrueTo old_panel old) (true_mid : honest → IsTrueTo mid_panel mid) where
  abbrev Was : ArrayView
  Was = view_of old_panel old table number

  abbrev Loads : ArrayView → Result Bool Refusal → Type 0
  Loads new result = BringsTo honest (IsLatestOn latest) (IsLoaded latest body) Was new result

  -- it is in memory
  module _ (entry : Entry) (body_is : body ≡ body_of table.geometry.members entry) (result : Result (Unit {0}) Stop) (done : Unit {0}) (ok : result ≡ Ok done)
      (its_entry : OnOk result (IsEntryOf table.geometry.members latest.seal.form entry))
      (loaded : (i member : ℕ) → honest → i < length (rows_in latest.seal.form) → member < table.geometry.members
      → in_body table.geometry.members latest.seal.form i member ≡ true
      → OnOk result (sector_at entry i member ≡ sector_of (seen old latest.source)
      (body_start latest.seal + rank table.geometry.members latest.seal.form i member)))
      (stay : (device : ℕ) → honest → OnOk result (is_down mid device ≡ is_down old device)) where
    on_ok : (fact : Type 0) → OnOk result fact → fact
    on_ok fact = subst (λ (r : Result (Unit {0}) Stop). OnOk r fact → fact) (sym ok) (λ is. is)

    pub load_done : Loads (view_of mid_panel mid table number) (Ok true)
    load_done = read_done spellings honest (IsLatestOn latest) (IsComing Copied latest.seal body (progress_of latest)) (λ from t h is. is.writes) latest.source
        number table old_panel mid_panel old mid
        of_set.source.counted later read others true_old true_mid (λ fair device. on_ok _ (stay device fair))
        (λ fair from loss is still. subst (λ (b : List Bytes). IsComing Copied latest.seal b (progress_of latest) from table mid)
        (sym (body_is ∙ body_loaded table.geometry.members entry (seen mid latest.source) latest.seal table.geometry.limits.members_most
        (on_ok _ its_entry)
        (λ i member inside within is. on_ok _ (loaded i member fair inside within is)
        ∙ ap (λ (disk : List Bytes). sector_of disk (body_start latest.seal + rank table.geometry.members latest.seal.form i member))
        (sym (seen_read (read fair) latest.source)))))
        (comes spellings from table mid loss latest of_set (latest_still latest from table old mid still.1 of_set.source is still.0)))

  -- its journal failed, and that was taken over
  module _ (why : Stop) (ends : IsCauseOf mid_panel why × ((why ≡ stop.Worn) ⊎ (why ≡ stop.Down latest.source))) (new_panel : Panel) (new_table : Table)
      (new : History)
      (still : Type 0) (more : honest → still) (true_new : honest → IsTrueTo new_panel new) (its_slots : HasItsSlots table old_panel) (answer : Answer)
      (taken : EndsOrFailsSlot still latest.source mid_panel new_panel table new_table mid new (Err why) answer) where
    failed : Brings honest (IsLatestOn latest) (AllHaveLast latest.beside) Was (view_of new_panel new new_table number) answer
    failed = read_failed spellings honest (IsLatestOn latest) (AllHaveLast latest.beside) (λ from t h is. is.writes) latest.source number table old_panel
        mid_panel old mid of_set.source.counted later
        read others true_old true_mid why ends new_panel new_table new answer still more true_new its_slots taken
        (λ ok from is over. beside_left latest from table new_table old new over.1
        (gone_then still latest.source mid_panel new_panel table new_table mid new why of_set.source.counted
        (subst (EndsOrFailsSlot still latest.source mid_panel new_panel table new_table mid new (Err why)) ok taken)) is over.0)

    pub load_failed : answer ≡ Ok tt → Loads (view_of new_panel new new_table number) (Ok false)
    load_failed ok = subst (Brings honest (IsLatestOn latest) (AllHaveLast latest.beside) Was (view_of new_panel new new_table number)) ok failed

    pub load_refused : (refusal : Refusal) → answer ≡ Err refusal → Loads (view_of new_panel new new_table number) (Err refusal)
    load_refused refusal is = steps_refused honest HoldsAll (IfSingleFailure (IsLatestOn latest)) (IfSingleFailure (AllHaveLast latest.beside)) _ Was
        (view_of new_panel new new_table number) refusal
        (subst (Brings honest (IsLatestOn latest) (AllHaveLast latest.beside) Was (view_of new_panel new new_table number)) is failed)

-- Its journal failed and is marked missing: the entry of the other journal is the last.
module _ (honest : Type 0) (latest : Latest) (old mid : ArrayView) (of_set : IsLatestOf old.table latest) (marked : IsMarked old.table latest.source mid.table)
    (first : Brings honest (IsLatestOn latest) (AllHaveLast latest.beside) old mid (Ok tt)) where
  -- it has none, and nothing is left to be put
  pub none_beside : Spellings → latest.beside ≡ None → (body : List Bytes) → BringsTo honest (IsLatestOn latest) (IsFound body) old mid (Ok None)
  none_beside spellings none body = brings_on honest (IsLatestOn latest) (AllHaveLast latest.beside) (IsPut 0) old mid
      (λ from all. none_to_put spellings from mid.table mid.history (subst (λ (l : Option Seal). AllHaveLast l from mid.table mid.history) none all)) first

  -- it is loaded from there
  pub load_beside : (still : Type 0) → (honest → still) → (new : ArrayView) (other : Latest) (entry : Entry) (result : Result (Option Latest) Refusal)
      → IsLatestBeside mid.table latest (Some other)
      → BringsTo still (IsLatestOn other) (IsFound (body_of mid.table.geometry.members entry)) mid new result
      → BringsTo honest (IsLatestOn latest) (IsFound (body_of old.table.geometry.members entry)) old new result
  load_beside still more new other entry result is loads =
      brings_then honest still more (IsLatestOn latest) (IsLatestOn other) (IsFound (body_of old.table.geometry.members entry)) old mid new result
      (brings_on honest (IsLatestOn latest) (AllHaveLast latest.beside) (IsLatestOn other) old mid
      (λ from all. beside_on old.table mid.table latest other of_set marked is from mid.history all) first)
      (subst (λ (g : Geometry). BringsTo still (IsLatestOn other) (IsFound (body_of g.members entry)) mid new result) marked.same_geometry loads)
