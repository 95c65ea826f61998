-- The newest superblock of an image in memory, and whether a slot of it is live.
use Rattle.std.proofs.Common.{◌≡◌, ◌≢◌, ◌↔◌, ℕ, ◌+◌, ◌≤◌, List, length, refl, subst, sym, arith, Option, Some, None}
use Rattle.std.specs.Prelude.{IfSome, IsNone, IsTrue, nat_eq, slice_get, slice_index_or}
use Rattle.std.proofs.lemmas.Bool.Decides.{nat_tests}
use Rattle.sector_model.specs.History.{disk_of}
use Rattle.sector_model.specs.Memory.{Disk, sectors_in, slot_in, slots_of}
use Rattle.superblock.specs.declared.state.State.TheVariants.{Missing}
use Rattle.superblock.specs.declared.table.Superblock.{Superblock}
use Rattle.superblock.specs.declared.table.Table.{Table}
use Rattle.superblock.specs.Counted.{Content, Counts, HasIncarnation, IsLive, least_sectors}
use Rattle.superblock.specs.Newest.{CountsNone, IsNewest, SlotCountsNone, newer_of}
use Rattle.superblock.specs.Tables.{incarnation_at, state_at}
use Rattle.superblock.proofs.Newest.{CountedAt, IsBestTo, NewestOf, best_step, newest_of_two, one_incarnation}

-- what a search for one says
pub counted_at : (id : List ℕ) (devices slot : ℕ) (content : Content) (place : ℕ) (found : Option Superblock)
    → IfSome found (λ s. Counts id devices slot content place s) → (IsNone found → CountsNone id devices slot content place)
    → CountedAt id devices slot content place found
counted_at id devices slot content place None some none = none refl
counted_at id devices slot content place (Some s) some none = some

pub newest_of : (id : List ℕ) (devices slot : ℕ) (content : Content) (found : Option Superblock)
    → IfSome found (λ s. IsNewest id devices slot content s) → (IsNone found → SlotCountsNone id devices slot content)
    → NewestOf id devices slot content found
newest_of id devices slot content None some none = none refl
newest_of id devices slot content (Some s) some none = some

some_newest : (id : List ℕ) (devices slot : ℕ) (content : Content) (found : Option Superblock) → NewestOf id devices slot content found
    → IfSome found (λ s. IsNewest id devices slot content s)
some_newest id devices slot content None is = tt
some_newest id devices slot content (Some s) is = is

none_newest : (id : List ℕ) (devices slot : ℕ) (content : Content) (found : Option Superblock) → NewestOf id devices slot content found
    → IsNone found → SlotCountsNone id devices slot content
none_newest id devices slot content None is none = is
none_newest id devices slot content (Some s) is none = absurd cc

pub newest_is : (id : List ℕ) (devices slot : ℕ) (content : Content) (even odd found : Option Superblock)
    → IfSome even (λ s. Counts id devices slot content 0 s) → (IsNone even → CountsNone id devices slot content 0)
    → IfSome odd (λ s. Counts id devices slot content 1 s) → (IsNone odd → CountsNone id devices slot content 1)
    → found ≡ newer_of even odd → IfSome found (λ s. IsNewest id devices slot content s)
newest_is id devices slot content even odd found some_even none_even some_odd none_odd is = some_newest id devices slot content found
    (subst (λ (o : Option Superblock). NewestOf id devices slot content o) (sym is) (newest_of_two id devices slot content even odd
    (counted_at id devices slot content 0 even some_even none_even) (counted_at id devices slot content 1 odd some_odd none_odd)))

pub newest_none : (id : List ℕ) (devices slot : ℕ) (content : Content) (even odd found : Option Superblock)
    → IfSome even (λ s. Counts id devices slot content 0 s) → (IsNone even → CountsNone id devices slot content 0)
    → IfSome odd (λ s. Counts id devices slot content 1 s) → (IsNone odd → CountsNone id devices slot content 1)
    → found ≡ newer_of even odd → IsNone found → SlotCountsNone id devices slot content
newest_none id devices slot content even odd found some_even none_even some_odd none_odd is = none_newest id devices slot content found
    (subst (λ (o : Option Superblock). NewestOf id devices slot content o) (sym is) (newest_of_two id devices slot content even odd
    (counted_at id devices slot content 0 even some_even none_even) (counted_at id devices slot content 1 odd some_odd none_odd)))

pub incarnation_iff : (id : List ℕ) (devices slot : ℕ) (content : Content) (own : ℕ) (incarnations : List ℕ) → HasIncarnation id devices slot content own
    → IsTrue (nat_eq own (slice_index_or incarnations slot 0)) ↔ HasIncarnation id devices slot content (incarnation_at incarnations slot)
incarnation_iff id devices slot content own incarnations has = (
  (λ same. let is : own ≡ incarnation_at incarnations slot = grind (arith, nat_tests, same) in
      subst (λ (i : ℕ). HasIncarnation id devices slot content i) is has),
  (λ other. let is = one_incarnation id devices slot content own (incarnation_at incarnations slot) has other in grind (arith, nat_tests, is)),
)

-- the last of three tests decides
pub live_iff : (devices : ℕ) (table : Table) (slot : ℕ) (content : Content) (Same : Type 0)
    → least_sectors table.geometry slot ≤ length (disk_of content) → state_at table.states slot ≢ Missing
    → Same ↔ HasIncarnation table.id devices slot content (incarnation_at table.incarnations slot)
    → Same ↔ IsLive devices table slot content
live_iff devices table slot content Same long there same = (
  (λ is. record { long_enough = long; not_missing = there; incarnation = same.0 is }),
  (λ live. same.1 live.incarnation),
)

-- one more slot of the image
pub image_step : (id : List ℕ) (devices count n : ℕ) (items : List (Option Disk)) (content : Option Disk) (best next after : Option Superblock)
    → count ≡ devices → slice_get items n ≡ Some content → IsBestTo id devices (slots_of items) n best
    → IfSome next (λ s. IsNewest id count n (sectors_in content) s) → (IsNone next → SlotCountsNone id count n (sectors_in content))
    → after ≡ newer_of best next → IsBestTo id devices (slots_of items) (n + 1) after
image_step id devices count n items content best next after same there below some none is =
    let found = subst (λ (d : ℕ). NewestOf id d n (sectors_in content) next) same (newest_of id count n (sectors_in content) next some none) in
    let here = subst (λ (o : Option (Option Disk)). NewestOf id devices n (slot_in o) next) (sym there) found in
    subst (λ (o : Option Superblock). IsBestTo id devices (slots_of items) (n + 1) o) (sym is) (best_step id devices (slots_of items) n best next below here)
