-- Statuses of one table say the same of its set.
use Rattle.std.proofs.Common.{◌≡◌, ℕ, ◌+◌, List, ◌++◌, [], ◌∷◌, take, codes, decimal, refl, sym, ◌∙◌}
use Rattle.std.specs.Prelude.{if◌then◌else◌}
use Rattle.hex.specs.Hex.{encode_lower}
use Rattle.serde_json.specs.Data.{Data, array, object, string}
use Rattle.serde_json.specs.View.{items_of}
use Rattle.layout_map.specs.declared.format.Format.{Format}
use Rattle.superblock.specs.declared.state.State.{State}
use Rattle.superblock.specs.declared.table.Table.{Table}
use Rattle.superblock.specs.States.{has_rebuilding}
use Rattle.rebuild.specs.Rebuilding.{steps_left}
use Rattle.recovery.specs.declared.examination.Examined.{Examined}
use Rattle.volume_table.specs.declared.status.Status.{Status}
use Rattle.report.specs.Inspections.{IsStatusOf, inspection_json, inspection_slots_json, outlook_text}
use Rattle.report.specs.Report.{format_text, members_of, set_lines, whole, with_format}

-- how many steps are left, by what a status says
left_by : Format → (members rows position : ℕ) → List State → ℕ
left_by format members rows position states =
    if has_rebuilding (take (members + 2) states) then steps_left format position rows else 0

-- the lines of a set, by what a status says
lines_by : Format → (id : List ℕ) (members chunk stripes rows generation position left : ℕ) → List ℕ
lines_by format id members chunk stripes rows generation position left =
    (codes "set " ++ encode_lower id ++ codes "\n")
    ++ (codes "members " ++ decimal members ++ codes " chunk " ++ decimal chunk ++ codes " stripes " ++ decimal stripes ++ codes " rows " ++ decimal rows
    ++ format_text format ++ codes "\n")
    ++ (codes "generation " ++ decimal generation ++ codes " position " ++ decimal position ++ codes " left " ++ decimal left ++ codes "\n")

-- and its object
json_by : Format → Examined → (id : List ℕ) (members chunk stripes rows generation position extent_blocks left : ℕ) → Data
json_by format examined id members chunk stripes rows generation position extent_blocks left = object (members_of (
    (codes "chunk", whole chunk)
    ∷ with_format format (codes "extent_blocks", whole extent_blocks) (
    with_format format (codes "format", whole 2) (
    (codes "generation", whole generation)
    ∷ (codes "id", string (encode_lower id))
    ∷ (codes "left", whole left)
    ∷ (codes "members", whole members)
    ∷ (codes "outlook", string (outlook_text examined.outlook))
    ∷ (codes "position", whole position)
    ∷ (codes "rows", whole rows)
    ∷ (codes "slots", array (items_of (inspection_slots_json examined (examined.table.geometry.members + 2))))
    ∷ (codes "stripes", whole stripes)
    ∷ []))))

abbrev left_in : Status → ℕ
left_in status = left_by status.format status.members status.rows status.position status.states

said_lines : (status : Status)
    → set_lines status ≡ lines_by status.format status.id status.members status.chunk status.stripes status.rows status.generation status.position
    (left_in status)
unfolding lines_by left_by
said_lines status = refl

said_json : (examined : Examined) (status : Status)
    → inspection_json status examined ≡ json_by status.format examined status.id status.members status.chunk status.stripes status.rows status.generation
    status.position status.extent_blocks (left_in status)
unfolding json_by left_by
said_json examined status = refl

module _ (table : Table) (one other : Status) (first : IsStatusOf table one) (second : IsStatusOf table other) where
  same_id : one.id ≡ other.id
  same_id = first.id ∙ sym second.id

  same_format : one.format ≡ other.format
  same_format = first.format ∙ sym second.format

  same_members : one.members ≡ other.members
  same_members = first.members ∙ sym second.members

  same_chunk : one.chunk ≡ other.chunk
  same_chunk = first.chunk ∙ sym second.chunk

  same_stripes : one.stripes ≡ other.stripes
  same_stripes = first.stripes ∙ sym second.stripes

  same_rows : one.rows ≡ other.rows
  same_rows = first.rows ∙ sym second.rows

  same_generation : one.generation ≡ other.generation
  same_generation = first.generation ∙ sym second.generation

  same_position : one.position ≡ other.position
  same_position = first.position ∙ sym second.position

  same_blocks : one.extent_blocks ≡ other.extent_blocks
  same_blocks = first.extent_blocks ∙ sym second.extent_blocks

  same_states : one.states ≡ other.states
  same_states = first.states ∙ sym second.states

  pub same_lines : set_lines one ≡ set_lines other
  same_lines = said_lines one
      ∙ cc (same_format, same_id, same_members, same_chunk, same_stripes, same_rows, same_generation, same_position, same_states)
      ∙ sym (said_lines other)

  pub same_json : (examined : Examined) → inspection_json one examined ≡ inspection_json other examined
  same_json examined = said_json examined one
      ∙ cc (same_format, same_id, same_members, same_chunk, same_stripes, same_rows, same_generation, same_position, same_blocks, same_states)
      ∙ sym (said_json examined other)
