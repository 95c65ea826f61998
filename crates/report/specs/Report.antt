-- A set's status as lines of text, and as a JSON value.
use Rattle.std.specs.Prelude.{◌≡◌, ℕ, zero, suc, ◌+◌, ◌-◌, ◌<◌, nat_lt, if◌then◌else◌, List, [], ◌∷◌, ◌++◌, length, replicate, take, codes, decimal}
use Rattle.hex.specs.Hex.{encode_lower}
use Rattle.serde_json.specs.Data.{Data, number, unsigned, string, array, object, Members, no_members, member, put}
use Rattle.serde_json.specs.View.{items_of}
use Rattle.layout_map.specs.declared.format.Format.{Format}
use Rattle.layout_map.specs.declared.format.Format.TheVariants.{One, Two}
use Rattle.superblock.specs.declared.state.State.{State}
use Rattle.superblock.specs.declared.state.State.TheVariants.{Missing, InSync, Rebuilding}
use Rattle.superblock.specs.States.{has_rebuilding}
use Rattle.superblock.specs.Tables.{state_at, incarnation_at}
use Rattle.rebuild.specs.Rebuilding.{steps_left}
use Rattle.volume_table.specs.declared.status.Status.{Status}

-- the word of a state
abbrev pub state_word : State → List ℕ
state_word Missing = codes "missing"
state_word InSync = codes "in-sync"
state_word Rebuilding = codes "rebuilding"

-- the word of a slot's role: the slots below the number of members are members
abbrev pub role_word : ℕ → ℕ → List ℕ
role_word members slot = if nat_lt slot members then codes "member" else codes "journal"

-- a text at the left of so many places, with spaces after it
unfoldable pub at_left : ℕ → List ℕ → List ℕ
at_left places text = text ++ replicate (places - length text) 32

-- a text at the right of so many places, with spaces before it
unfoldable pub at_right : ℕ → List ℕ → List ℕ
at_right places text = replicate (places - length text) 32 ++ text

-- the set's id, in lower case digits
abbrev pub set_line : Status → List ℕ
set_line status = codes "set " ++ encode_lower status.id ++ codes "\n"

-- the set's format, which is not said of format 1
abbrev pub format_text : Format → List ℕ
format_text One = []
format_text Two = codes " format 2"

-- the set's shape
abbrev pub shape_line : Status → List ℕ
shape_line status =
    codes "members " ++ decimal status.members ++ codes " chunk " ++ decimal status.chunk
    ++ codes " stripes " ++ decimal status.stripes ++ codes " rows " ++ decimal status.rows
    ++ format_text status.format ++ codes "\n"

-- this slot is rebuilding
pub record IsRebuildingSlot (status : Status) (slot : ℕ) : Type 0 where
  pub of_set : slot < status.members + 2
  pub state : state_at status.states slot ≡ Rebuilding

-- how many steps of a rebuild are left: none where no slot is rebuilding
abbrev pub left : Status → ℕ
left status =
    if has_rebuilding (take (status.members + 2) status.states) then steps_left status.format status.position status.rows else 0

-- the number of its table, how far a rebuild came, and how many of its steps are left
abbrev pub table_line : Status → List ℕ
table_line status =
    codes "generation " ++ decimal status.generation ++ codes " position " ++ decimal status.position
    ++ codes " left " ++ decimal (left status) ++ codes "\n"

-- how much of it is in use, and the version of the table of volumes
abbrev pub use_line : Status → List ℕ
use_line status =
    codes "extents " ++ decimal status.extents ++ codes " free " ++ decimal status.free
    ++ codes " volumes " ++ decimal status.volumes ++ codes " table " ++ decimal status.version ++ codes "\n"

-- its id, its shape and its table
abbrev pub set_lines : Status → List ℕ
set_lines status = set_line status ++ shape_line status ++ table_line status

-- the lines of the set as a whole
abbrev pub head_lines : Status → List ℕ
head_lines status = set_lines status ++ use_line status

-- the line of a slot: its number, its role, its state and its incarnation
abbrev pub slot_line : Status → ℕ → List ℕ
slot_line status slot =
    at_right 2 (decimal slot) ++ codes " " ++ at_left 8 (role_word status.members slot)
    ++ codes " " ++ at_left 10 (state_word (state_at status.states slot))
    ++ codes " " ++ decimal (incarnation_at status.incarnations slot) ++ codes "\n"

-- the lines of the first slots, as many as the number says
abbrev pub slot_lines : Status → ℕ → List ℕ
slot_lines status zero = []
slot_lines status (suc slot) = slot_lines status slot ++ slot_line status slot

-- the status as text: the set as a whole, and then each slot, members and two journals
abbrev pub status_text : Status → List ℕ
status_text status = head_lines status ++ slot_lines status (status.members + 2)

-- a whole number
abbrev pub whole : ℕ → Data
whole n = number (unsigned n)

-- an object's members, each a key and its value
abbrev pub members_of : List (List ℕ × Data) → Members
members_of [] = no_members
members_of (pair ∷ pairs) = member pair.0 pair.1 (members_of pairs)

-- a slot as an object
abbrev pub slot_json : Status → ℕ → Data
slot_json status slot = object (members_of (
    (codes "incarnation", whole (incarnation_at status.incarnations slot))
    ∷ (codes "role", string (role_word status.members slot))
    ∷ (codes "slot", whole slot)
    ∷ (codes "state", string (state_word (state_at status.states slot)))
    ∷ []))

-- the first slots, as many as the number says
abbrev pub slots_json : Status → ℕ → List Data
slots_json status zero = []
slots_json status (suc slot) = slots_json status slot ++ slot_json status slot ∷ []

-- one more key and its value, which an object of a set of format 1 has not
abbrev pub with_format : Format → List ℕ × Data → List (List ℕ × Data) → List (List ℕ × Data)
with_format One pair pairs = pairs
with_format Two pair pairs = pair ∷ pairs

-- the keys that an object of a set of format 1 has not, put into one
abbrev pub format_put : Format → (extent_blocks : ℕ) → Members → Members
format_put One extent_blocks done = done
format_put Two extent_blocks done = put (codes "format") (whole 2) (put (codes "extent_blocks") (whole extent_blocks) done)

-- what a status says, with an array of its slots: each key and its value, the keys in order
abbrev pub status_pairs : Format → Status → List (List ℕ × Data)
status_pairs format status =
    (codes "chunk", whole status.chunk)
    ∷ with_format format (codes "extent_blocks", whole status.extent_blocks) (
    (codes "extents", whole status.extents)
    ∷ with_format format (codes "format", whole 2) (
    (codes "free", whole status.free)
    ∷ (codes "generation", whole status.generation)
    ∷ (codes "id", string (encode_lower status.id))
    ∷ (codes "left", whole (left status))
    ∷ (codes "members", whole status.members)
    ∷ (codes "position", whole status.position)
    ∷ (codes "rows", whole status.rows)
    ∷ (codes "slots", array (items_of (slots_json status (status.members + 2))))
    ∷ (codes "stripes", whole status.stripes)
    ∷ (codes "table", whole status.version)
    ∷ (codes "volumes", whole status.volumes)
    ∷ []))

-- the status as an object
abbrev pub status_json : Status → Data
status_json status = object (members_of (status_pairs status.format status))
