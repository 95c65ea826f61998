-- What an inspection of a set finds, as lines of text, and as a JSON value.
use Rattle.std.specs.Prelude.{◌≡◌, ℕ, zero, suc, ◌+◌, ◌-◌, nat_lt, if◌then◌else◌, List, ◌++◌, [], ◌∷◌, Option, Some, None, slice_index_or, codes, decimal}
use Rattle.hex.specs.Hex.{encode_lower}
use Rattle.serde_json.specs.Data.{Data, array, null, object, string}
use Rattle.serde_json.specs.View.{items_of}
use Rattle.layout_map.specs.declared.format.Format.{Format}
use Rattle.layout_map.specs.Placement.{extent_blocks, rows_of}
use Rattle.superblock.specs.declared.table.Table.{Table}
use Rattle.recovery.specs.declared.examination.Presence.{Presence}
use Rattle.recovery.specs.declared.examination.Presence.TheVariants as presence
use Rattle.recovery.specs.declared.examination.Standing.{Standing}
use Rattle.recovery.specs.declared.examination.Standing.TheVariants as standing
use Rattle.recovery.specs.declared.examination.Outlook.{Outlook}
use Rattle.recovery.specs.declared.examination.Outlook.TheVariants as outlook
use Rattle.recovery.specs.declared.examination.ExaminedSlot.{ExaminedSlot}
use Rattle.recovery.specs.declared.examination.Examined.{Examined}
use Rattle.recovery.specs.Examining.{unexamined}
use Rattle.volume_table.specs.declared.status.Status.{Status}
use Rattle.report.specs.Report.{at_left, at_right, left, members_of, role_word, set_lines, whole, with_format}

-- a status says of the set what its table says
pub record IsStatusOf (table : Table) (status : Status) : Type 0 where
  pub id : status.id ≡ table.id
  pub format : status.format ≡ table.geometry.format
  pub members : status.members ≡ table.geometry.members
  pub chunk : status.chunk ≡ table.geometry.chunk
  pub stripes : status.stripes ≡ table.geometry.stripes
  pub rows : status.rows ≡ rows_of table.geometry.chunk table.geometry.stripes
  pub generation : status.generation ≡ table.generation
  pub position : status.position ≡ table.position
  pub extent_blocks : status.extent_blocks
      ≡ extent_blocks table.geometry.format table.geometry.members table.geometry.chunk table.geometry.stripes
  pub states : status.states ≡ table.states

-- whether a slot's device is there
abbrev pub presence_word : Presence → List ℕ
presence_word presence.Absent = codes "absent"
presence_word presence.TooShort = codes "too short"
presence_word presence.There = codes "there"

-- what a slot's device is to the table
abbrev pub standing_text : Standing → List ℕ
standing_text standing.Live = codes "live"
standing_text (standing.Rebuilding position) = codes "rebuilding at " ++ decimal position
standing_text standing.CalledMissing = codes "called missing"
standing_text standing.NotThere = codes "not there"
standing_text standing.NoSuperblock = codes "no superblock"
standing_text standing.OlderGeneration = codes "older generation"
standing_text standing.LowerIncarnation = codes "lower incarnation"
standing_text standing.HigherIncarnation = codes "higher incarnation"

-- the number of a slot, and its role
abbrev pub place_text : ℕ → ℕ → List ℕ
place_text members slot = at_right 2 (decimal slot) ++ codes " " ++ at_left 8 (role_word members slot) ++ codes " "

-- whether its device is there, and its own generation and incarnation
abbrev pub own_text : ExaminedSlot → List ℕ
own_text examined =
    presence_word examined.presence ++ codes " generation " ++ decimal examined.generation ++ codes " incarnation " ++ decimal examined.incarnation

-- the number of a last entry, where one is known
abbrev pub entry_text : Option ℕ → List ℕ
entry_text None = []
entry_text (Some number) = codes " entry " ++ decimal number

-- of a slot that is a journal
abbrev pub last_in : (members slot : ℕ) → List (Option ℕ) → Option ℕ
last_in members slot last = if nat_lt slot members then None else slice_index_or last (slot - members) None

-- the line of a slot
abbrev pub examined_line : Examined → ℕ → List ℕ
examined_line examined slot =
    let members = examined.table.geometry.members in
    let found = slice_index_or examined.slots slot unexamined in
    place_text members slot ++ own_text found ++ entry_text (last_in members slot examined.last) ++ codes " " ++ standing_text found.standing ++ codes "\n"

-- the lines of the first slots, as many as the number says
abbrev pub examined_lines : Examined → ℕ → List ℕ
examined_lines examined zero = []
examined_lines examined (suc slot) = examined_lines examined slot ++ examined_line examined slot

-- what assembling would do
abbrev pub outlook_text : Outlook → List ℕ
outlook_text outlook.Complete = codes "would assemble: complete"
outlook_text (outlook.Missing slot) = codes "would assemble: slot " ++ decimal slot ++ codes " missing"
outlook_text (outlook.Rebuilding slot position) = codes "would assemble: slot " ++ decimal slot ++ codes " rebuilding at " ++ decimal position
outlook_text (outlook.WouldMark slot) = codes "would mark slot " ++ decimal slot ++ codes " missing"
outlook_text outlook.TwoLost = codes "refused 15 TwoLost"

-- the text of an inspection: the first lines of a status of its table, each slot, and the outlook
abbrev pub inspection_text : Status → Examined → List ℕ
inspection_text status examined =
    set_lines status ++ examined_lines examined (examined.table.geometry.members + 2) ++ outlook_text examined.outlook ++ codes "\n"

-- the number of a last entry, where one is known
abbrev pub entry_json : Option ℕ → Data
entry_json None = null
entry_json (Some number) = whole number

-- a slot as an object
abbrev pub inspection_slot_json : Examined → ℕ → Data
inspection_slot_json examined slot =
    let members = examined.table.geometry.members in
    let found = slice_index_or examined.slots slot unexamined in
    object (members_of (
    (codes "entry", entry_json (last_in members slot examined.last))
    ∷ (codes "generation", whole found.generation)
    ∷ (codes "incarnation", whole found.incarnation)
    ∷ (codes "presence", string (presence_word found.presence))
    ∷ (codes "role", string (role_word members slot))
    ∷ (codes "slot", whole slot)
    ∷ (codes "standing", string (standing_text found.standing))
    ∷ []))

-- the first slots, as many as the number says
abbrev pub inspection_slots_json : Examined → ℕ → List Data
inspection_slots_json examined zero = []
inspection_slots_json examined (suc slot) = inspection_slots_json examined slot ++ inspection_slot_json examined slot ∷ []

-- what an inspection says, with an array of the set's slots: each key and its value, the keys in order
abbrev pub inspection_pairs : Format → Status → Examined → List (List ℕ × Data)
inspection_pairs format status examined =
    (codes "chunk", whole status.chunk)
    ∷ with_format format (codes "extent_blocks", whole status.extent_blocks) (
    with_format format (codes "format", whole 2) (
    (codes "generation", whole status.generation)
    ∷ (codes "id", string (encode_lower status.id))
    ∷ (codes "left", whole (left status))
    ∷ (codes "members", whole status.members)
    ∷ (codes "outlook", string (outlook_text examined.outlook))
    ∷ (codes "position", whole status.position)
    ∷ (codes "rows", whole status.rows)
    ∷ (codes "slots", array (items_of (inspection_slots_json examined (examined.table.geometry.members + 2))))
    ∷ (codes "stripes", whole status.stripes)
    ∷ []))

-- an inspection as an object
abbrev pub inspection_json : Status → Examined → Data
inspection_json status examined = object (members_of (inspection_pairs status.format status examined))
