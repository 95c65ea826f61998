-- How each kind of request is served.
use Rattle.std.specs.Prelude.{◌≡◌, ℕ}
use Rattle.requests.specs.Demands.{Demand, ReplaceSlot, ScrubRows, Together as TogetherDemand, WriteBlocks}
use Rattle.volume_table.specs.Stands.{StoreView}
use Rattle.server.specs.Answers.{IsAnswered, IsMissingSlot, slot_of}
use Rattle.server.specs.Ends.{HasBadCount}
use Rattle.server.specs.declared.kinds.Kind.{Kind}
use Rattle.server.specs.declared.kinds.Kind.TheVariants.{Together, Write, Scrub, Ends, Answered}

-- a demand is of this kind, over a store
abbrev pub IsOfKind : StoreView → Demand → Kind → Type 0
IsOfKind store demand (Together count) = demand ≡ TogetherDemand count
IsOfKind store demand (Write stretch) = demand ≡ WriteBlocks stretch.name.now stretch.at stretch.count
IsOfKind store demand (Scrub rows) = demand ≡ ScrubRows rows
IsOfKind store demand (Ends slot) =
    (number : ℕ) × (demand ≡ ReplaceSlot number) × (slot ≡ slot_of number) × IsMissingSlot store.array.table slot
IsOfKind store demand Answered = ¬ HasBadCount demand → IsAnswered store demand
