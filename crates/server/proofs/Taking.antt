-- A write is taken: its parts wait, or it is refused.
use Rattle.std.proofs.Common.{◌≡◌, ℕ, ◌+◌, ◌≤◌, List, [], ◌∷◌, ◌++◌, length, map, refl, sym, ◌∙◌, ap, subst, Option, Some, None, Result, Ok, Err}
use Rattle.std.proofs.lemmas.List.{map-append}
use Rattle.sector_model.specs.declared.refusal.Refusal.{Refusal}
use Rattle.layout_map.specs.declared.geometry.Geometry.{Geometry}
use Rattle.batch.specs.Places.{Given}
use Rattle.extents.specs.SetExtents.{extents_in}
use Rattle.extents.specs.declared.extent_layout.ExtentLayout.{ExtentLayout}
use Rattle.extents.specs.declared.volume_table.VolumeTable.{VolumeTable}
use Rattle.requests.specs.Demands.{WriteBlocks}
use Rattle.scrub.specs.Scrubbing.{Report}
use Rattle.set_commands.specs.Run.{Streams, streams}
use Rattle.volume_table.specs.Admission.{HasBlocksAt, ShowsBy}
use Rattle.volume_table.specs.StagedParts.{AdmitsBlocks, RefusesBlocks}
use Rattle.volume_table.specs.Stands.{StoreView}
use Rattle.volume_table.specs.StoreCalls.{extents_for_store}
use Rattle.volume_table.specs.VolumeStep.{Command}
use Rattle.volume_table.specs.Volumes.{Block}
use Rattle.server.proofs.Coming.{come_refused, come_taken}
use Rattle.server.specs.Answers.{Told, TellsDone, TellsRefusal}
use Rattle.server.specs.Ends.{HasCome, StagesSome, replies_of, reply_to_write, state_of}
use Rattle.server.specs.Serving.{AreParts, IsRequest, IsWrite, Line, spelled}
use Rattle.server.specs.declared.counts.TheConstants.{MOST_WRITTEN_AT_ONCE}

-- what was admitted is so still, by the same table of a set of the same shape
pub admits_still : (old new : StoreView) (name : List ℕ) (at count number : ℕ) → new.keeps ≡ old.keeps → new.array.table.geometry ≡ old.array.table.geometry
    → new.ended ≡ None → AdmitsBlocks old name at count number → AdmitsBlocks new name at count number
admits_still old new name at count number same shape going admits = record {
  going = going;
  has = subst (λ (t : VolumeTable). ∥ HasBlocksAt t.records name number at count ∥₁) (sym same) admits.has;
  decides = λ logical volumes by. admits.decides logical volumes
      (subst (λ (e : ExtentLayout). ShowsBy e old.keeps logical volumes) (ap (λ (s : Geometry). extents_in s) shape)
      (subst (λ (t : VolumeTable). ShowsBy (extents_for_store new) t logical volumes) same by));
}

replies_more : (replies : List (Option Refusal)) (reply : Option Refusal) → replies_of (replies ++ reply ∷ []) ≡ replies_of replies ++ reply_to_write reply ∷ []
replies_more replies reply = map-append reply_to_write replies (reply ∷ [])

module _ (honest : Type 0) (start : StoreView) (was : Streams) (left : ℕ) (line : Line) (is : Streams) (waits : Given) (replies after : List (Option Refusal))
    (so_far : Report) (name : List ℕ) (at count : ℕ) (blocks : List Block) (request : IsRequest line (WriteBlocks name at count)) (least : 1 ≤ count)
    (most : count ≤ MOST_WRITTEN_AT_ONCE) where
  -- all its parts wait
  pub write_taken : (old new : StoreView) (number : ℕ) → line.blocks ≡ blocks → length blocks ≡ count → after ≡ replies ++ None ∷ []
      → new.keeps ≡ old.keeps → new.array.table.geometry ≡ old.array.table.geometry → new.ended ≡ None → AdmitsBlocks old name at count number
      → StagesSome honest start was (left + 1) (spelled line) name at (length blocks) blocks (state_of new is waits (replies_of replies) so_far)
      → HasCome honest start was [] left [] (state_of new is waits (replies_of after) so_far)
  write_taken old new number same as_many replied kept shape going admits staged =
      subst (λ (r : List Told). HasCome honest start was [] left [] (state_of new is waits r so_far)) (sym (ap replies_of replied ∙ replies_more replies None))
      (come_taken honest start was staged.0 left line new is waits (replies_of replies) so_far
      record {
        name = name;
        at = at;
        count = count;
        number = number;
        request = request;
        least = least;
        most = most;
        admitted = admits_still old new name at count number kept shape going admits;
        are = subst (λ (l : List Block). AreParts name at (at + count) l staged.0) (sym same)
            (subst (λ (n : ℕ). AreParts name at (at + n) blocks staged.0) as_many staged.1);
      } staged.2)

  pub write_refused : (store : StoreView) (refusal : Refusal) → after ≡ replies ++ Some refusal ∷ [] → RefusesBlocks store name at count refusal
      → HasCome honest start was [] (left + 1) (spelled line) (state_of store is waits (replies_of replies) so_far)
      → HasCome honest start was [] left [] (state_of store is waits (replies_of after) so_far)
  write_refused store refusal replied refuses come =
      subst (λ (r : List Told). HasCome honest start was [] left [] (state_of store is waits r so_far))
      (sym (ap replies_of replied ∙ replies_more replies (Some refusal)))
      (come_refused honest start was left line refusal store is waits (replies_of replies) so_far
      record { name = name; at = at; count = count; request = request; least = least; most = most; refuses = refuses } come)
