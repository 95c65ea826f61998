-- Blocks of a volume are made zero, some at a time.
use Rattle.std.proofs.Common.{◌≡◌, ◌⊎◌, inl, inr, ℕ, ◌+◌, ◌-◌, ◌*◌, ◌/◌, ◌%◌, ◌<◌, ◌≤◌, Bool, false, List, [], length, get_or, replicate, Option, Some, None}
use Rattle.std.proofs.Common.{refl, sym, ◌∙◌}
use Rattle.std.proofs.Common.{ap, subst, arith}
use Rattle.std.specs.Prelude.{Ok, Err}
use Rattle.std.proofs.lemmas.Bool.{cases_eq, cases_lt}
use Rattle.std.proofs.lemmas.List.{get_or-replicate, length-replicate}
use Rattle.std.proofs.lemmas.Nat.{div-add-mod', div-mul-add, mod-mul-add, mod_below}
use Rattle.std.proofs.lemmas.Option.{none-some}
use Rattle.sector_model.specs.declared.refusal.Refusal.{Refusal}
use Rattle.sector_model.specs.Bank.{IsTrueTo}
use Rattle.array_io.specs.Believed.ArrayCalls.{Answer}
use Rattle.array_io.specs.Believed.Views.{ArrayView}
use Rattle.extents.specs.declared.extent_layout.ExtentLayout.{ExtentLayout}
use Rattle.extents.specs.ExtentMaps.{place_of, sector_of_block}
use Rattle.extents.specs.declared.owned.Owned.{Owned}
use Rattle.std.proofs.lemmas.Bool.{true≢false}
use Rattle.volume_table.specs.Stretches.{IsDirtyBlock, IsStretch}
use Rattle.extents.specs.Owners.{IsAt, owner_of}
use Rattle.volume_table.specs.Volumes.{Block, zero_block}
use Rattle.volume_table.specs.ListChanges.{ChangesList, IsSameOr}
use Rattle.volume_table.specs.StoreChanges.{IsOfBlocks, IsPartlyZero, IsWrittenAt, IsZeroed}
use Rattle.volume_table.proofs.ListChanges.{changes_both, changes_more, changes_none, changes_refused}

same_owned : (a b : Owned) → Some a ≡ Some b → a ≡ b
same_owned a b both = cc

-- whether a sector has one of these blocks
module _ (extents : ExtentLayout) (owners : List (Option Owned)) (number first last sector : ℕ) where
  abbrev within : ℕ
  within = sector - extents.first

  abbrev place : ℕ
  place = within / extents.blocks

  some_blocks : 0 < extents.blocks
  some_blocks = omega (arith, extents.limits.some)

  -- the sector's extent, and the block's number in it
  parts_of : (is : IsOfBlocks extents owners number first last sector) → (is.extent ≡ place) × (is.block % extents.blocks ≡ within % extents.blocks)
  parts_of is =
      let its : within ≡ is.extent * extents.blocks + is.block % extents.blocks = omega (arith, is.is) in
      let below = mod_below is.block extents.blocks some_blocks in (
        sym (ap (λ (n : ℕ). n / extents.blocks) its ∙ div-mul-add is.extent extents.blocks (is.block % extents.blocks) below),
        sym (ap (λ (n : ℕ). n % extents.blocks) its ∙ mod-mul-add is.extent extents.blocks (is.block % extents.blocks) below),
      )

  owned_is : (owned : Owned) → owner_of owners place ≡ Some owned → (is : IsOfBlocks extents owners number first last sector)
      → owned ≡ record { volume = number; place = place_of extents is.block }
  owned_is owned at is = same_owned owned (record { volume = number; place = place_of extents is.block })
      (sym at ∙ ap (owner_of owners) (sym (parts_of is).0) ∙ is.at)

  -- the block of that number in an owned extent
  abbrev block_in : Owned → ℕ
  block_in owned = owned.place * extents.blocks + within % extents.blocks

  block_is : (owned : Owned) → owner_of owners place ≡ Some owned → (is : IsOfBlocks extents owners number first last sector) → block_in owned ≡ is.block
  block_is owned at is =
      ap (λ (p : ℕ). p * extents.blocks + within % extents.blocks) (ap (λ (o : Owned). o.place) (owned_is owned at is))
      ∙ ap (λ (n : ℕ). is.block / extents.blocks * extents.blocks + n) (sym (parts_of is).1) ∙ div-add-mod' is.block extents.blocks

  by_owned : (above : extents.first ≤ sector) (owned : Owned) → owner_of owners place ≡ Some owned
      → IsOfBlocks extents owners number first last sector ⊎ ¬ IsOfBlocks extents owners number first last sector
  by_owned above owned at = elim (cases_eq owned.volume number) [
    | inr other ↦ inr (λ is. other (ap (λ (o : Owned). o.volume) (owned_is owned at is)))
    | inl same ↦
        let block : ℕ = block_in owned in
        let below = mod_below within extents.blocks some_blocks in
        let its_place : owned.place ≡ place_of extents block = sym (div-mul-add owned.place extents.blocks (within % extents.blocks) below) in
        let its_number : block % extents.blocks ≡ within % extents.blocks = mod-mul-add owned.place extents.blocks (within % extents.blocks) below in
        elim (cases_lt block first) [
          | inl before ↦ inr (λ is. omega (arith, before, block_is owned at is, is.least))
          | inr least ↦ elim (cases_lt block last) [
            | inr beyond ↦ inr (λ is. omega (arith, beyond, block_is owned at is, is.most))
            | inl most ↦ inl record {
              block = block;
              extent = place;
              least = least;
              most = most;
              at = subst (λ (p : ℕ). IsAt owners place number p) its_place (subst (λ (v : ℕ). IsAt owners place v owned.place) same at);
              is = omega (arith, above, its_number, div-add-mod' within extents.blocks);
            }
          ]
        ]
  ]

  by_owner : (above : extents.first ≤ sector) (owner : Option Owned) → owner_of owners place ≡ owner
      → IsOfBlocks extents owners number first last sector ⊎ ¬ IsOfBlocks extents owners number first last sector
  by_owner above None free = inr (λ is. none-some _ (sym free ∙ ap (owner_of owners) (sym (parts_of is).0) ∙ is.at))
  by_owner above (Some owned) at = by_owned above owned at

  pub of_blocks_or_not : IsOfBlocks extents owners number first last sector ⊎ ¬ IsOfBlocks extents owners number first last sector
  of_blocks_or_not = elim (cases_lt sector extents.first) [
    | inl below ↦ inr (λ is. omega (arith, is.is, below))
    | inr above ↦ by_owner above (owner_of owners place) refl
  ]

-- blocks that are all zero
abbrev pub AreZero : List Block → ℕ → Type 0
AreZero blocks count = blocks ≡ replicate count zero_block

-- zeros were written after those that are zero already
module _ (extents : ExtentLayout) (dirty : List Bool) (owners : List (Option Owned)) (number first at count : ℕ) (blocks V U W : List Block)
    (zeros : AreZero blocks count)
    (zeroed : IsZeroed extents dirty owners number first at V U) (written : IsWrittenAt extents owners number at blocks U W) where
  as_many : length blocks ≡ count
  as_many = ap length zeros ∙ length-replicate {A = Block} count zero_block

  zero_here : (sector : ℕ) → IsOfBlocks extents owners number at (at + count) sector → get_or W sector [] ≡ zero_block
  zero_here sector is =
      let j : ℕ = is.block - at in
      let below : j < count = omega (arith, is.least, is.most) in
      let block_is : at + j ≡ is.block = omega (arith, is.least) in
      ap (λ (s : ℕ). get_or W s []) (is.is ∙ ap (λ (b : ℕ). sector_of_block extents is.extent b) (sym block_is))
      ∙ written.written.inside j is.extent (omega (arith, below, as_many))
      (subst (λ (b : ℕ). IsAt owners is.extent number (place_of extents b)) (sym block_is) is.at)
      ∙ ap (λ (bs : List Block). get_or bs j []) zeros ∙ get_or-replicate {A = Block} count j zero_block [] below

  same_elsewhere : (sector : ℕ) → ¬ IsOfBlocks extents owners number at (at + count) sector → get_or W sector [] ≡ get_or U sector []
  same_elsewhere sector none = written.written.outside sector (λ j extent below is_at is. none record {
    block = at + j;
    extent = extent;
    least = omega arith;
    most = omega (arith, below, as_many);
    at = is_at;
    is = is;
  })

  pub partly_more : (last : ℕ) → at + count ≤ last → first ≤ at → IsPartlyZero extents owners number first last V W
  partly_more last within order = record {
    as_long = written.as_long ∙ zeroed.partly.as_long;
    each = λ sector. elim (of_blocks_or_not extents owners number at (at + count) sector) [
      | inl is ↦ inr (
        zero_here sector is,
        record {
          block = is.block;
          extent = is.extent;
          least = omega (arith, is.least, order);
          most =
              omega (arith, is.most, within);
          at = is.at;
          is = is.is;
        },
      )
      | inr none ↦ elim (zeroed.partly.each sector) [
        | inl same ↦ inl (same_elsewhere sector none ∙ same)
        | inr is ↦ inr (
          same_elsewhere sector none ∙ is.0,
          record { block = is.1.block; extent = is.1.extent; least = is.1.least; most = omega (arith, is.1.most, within); at = is.1.at; is = is.1.is },
        )
      ]
    ];
  }

  pub zeroed_more : first ≤ at → IsZeroed extents dirty owners number first (at + count) V W
  zeroed_more order = record {
    partly = partly_more (at + count) (omega arith) order;
    zero = λ sector is is_dirty_extent. elim (of_blocks_or_not extents owners number at (at + count) sector) [
      | inl here ↦ zero_here sector here
      | inr none ↦ same_elsewhere sector none ∙ zeroed.zero sector (record {
        block = is.block;
        extent = is.extent;
        least = is.least;
        most = elim (cases_lt is.block at) [
          | inl below ↦ below
          | inr past ↦ absurd (none record { block = is.block; extent = is.extent; least = past; most = is.most; at = is.at; is = is.is })
        ];
        at = is.at;
        is = is.is;
      }) is_dirty_extent
    ];
  }

-- what is zero up to some block is partly zero up to a later one
partly_later : {extents : ExtentLayout} (owners : List (Option Owned)) (number first at last : ℕ) (V U : List Block) → at ≤ last
    → IsPartlyZero extents owners number first at V U
    → IsPartlyZero extents owners number first last V U
partly_later {extents} owners number first at last V U within partly = record {
  as_long = partly.as_long;
  each = λ sector. elim (partly.each sector) [
    | inl same ↦ inl same
    | inr is ↦ inr (
      is.0,
      record { block = is.1.block; extent = is.1.extent; least = is.1.least; most = omega (arith, is.1.most, within); at = is.1.at; is = is.1.is },
    )
  ];
}

-- none is zeroed yet
none_zeroed : {extents : ExtentLayout} (dirty : List Bool) (owners : List (Option Owned)) (number first : ℕ) (V : List Block)
    → IsZeroed extents dirty owners number first first V V
none_zeroed {extents} dirty owners number first V = record {
  partly = record { as_long = refl; each = λ sector. inl refl };
  zero = λ sector is is_dirty_extent. absurd (omega (arith, is.least, is.most));
}

-- blocks in clean extents need not be made zero
zeroed_past_clean : (extents : ExtentLayout) (dirty : List Bool) (owners : List (Option Owned)) (number first at end : ℕ) (V U : List Block) → at ≤ end
    → ((block : ℕ) → at ≤ block → block < end → IsDirtyBlock extents dirty owners number block false)
    → IsZeroed extents dirty owners number first at V U → IsZeroed extents dirty owners number first end V U
zeroed_past_clean extents dirty owners number first at end V U order clean zeroed = record {
  partly = partly_later owners number first at end V U order zeroed.partly;
  zero = λ sector is is_dirty_extent. elim (cases_lt is.block at) [
    | inl below ↦ zeroed.zero sector
        record { block = is.block; extent = is.extent; least = is.least; most = below; at = is.at; is = is.is } is_dirty_extent
    | inr past ↦ absurd (true≢false (sym is_dirty_extent ∙ clean is.block past is.most is.extent is.at))
  ];
}

-- Between the commits: the blocks below `at` are zero.
pub record IsZeroing (extents : ExtentLayout) (honest still : Type 0) (dirty : List Bool) (owners : List (Option Owned)) (number first last at : ℕ)
    (old now : ArrayView) : Type 0
  where
    pub forth : honest → still
    pub back : still → honest
    pub least : first ≤ at
    pub most : at ≤ last
    pub changes : ChangesList honest (at - first) (IsPartlyZero extents owners number first last) (IsZeroed extents dirty owners number first at) old now
        (Ok tt)

pub zeroing_begins : (extents : ExtentLayout) (honest : Type 0) (dirty : List Bool) (owners : List (Option Owned)) (number first last : ℕ) (old : ArrayView)
    → first ≤ last
    → IsZeroing extents honest honest dirty owners number first last first old old
zeroing_begins extents honest dirty owners number first last old order = record {
  forth = λ is. is;
  back = λ is. is;
  least = omega arith;
  most = order;
  changes = changes_none honest (first - first) (IsPartlyZero extents owners number first last) (IsZeroed extents dirty owners number first first) old
      (λ V. record { as_long = refl; each = λ sector. inl refl }) (none_zeroed dirty owners number first);
}

-- blocks in clean extents are passed over
pub zeroing_passes : (extents : ExtentLayout) (honest still : Type 0) (dirty : List Bool) (owners : List (Option Owned)) (number first last at end : ℕ)
    (flag : Bool) (old now : ArrayView) → IsStretch extents dirty owners number at last end flag → flag ≡ false
    → IsZeroing extents honest still dirty owners number first last at old now → IsZeroing extents honest still dirty owners number first last end old now
zeroing_passes extents honest still dirty owners number first last at end flag old now stretch clean zeroing = record {
  forth = zeroing.forth;
  back = zeroing.back;
  least = omega (arith, zeroing.least, stretch.least);
  most = stretch.most;
  changes = changes_more honest (at - first) (end - first) (IsPartlyZero extents owners number first last) (IsZeroed extents dirty owners number first at)
      (IsPartlyZero extents owners number first last) (IsZeroed extents dirty owners number first end) old now (Ok tt)
      (omega (arith, zeroing.least, stretch.least)) zeroing.changes (λ lost V W rests is. is)
      (λ lost V W rests is. zeroed_past_clean extents dirty owners number first at end V W (omega (arith, stretch.least)) (stretch.clean clean) is);
}

module _ (extents : ExtentLayout) (honest still : Type 0) (dirty : List Bool) (owners : List (Option Owned)) (number first last at count : ℕ)
    (blocks : List Block)
    (old mid new : ArrayView)
    (zeros : AreZero blocks count) (within : at + count ≤ last)
    (some : 1 ≤ count) (zeroing : IsZeroing extents honest still dirty owners number first last at old mid)
    (true_mid : still → IsTrueTo mid.panel mid.history) where
  both : (answer : Answer) → ChangesList still 1 (IsSameOr (IsWrittenAt extents owners number at blocks))
      (IsWrittenAt extents owners number at blocks) mid new answer
      → ChangesList honest (at - first + 1) (IsPartlyZero extents owners number first last) (IsZeroed extents dirty owners number first (at + count))
      old new answer
  both answer writes = changes_both honest still zeroing.forth (at - first) 1 (IsPartlyZero extents owners number first last)
      (IsZeroed extents dirty owners number first at)
      (IsSameOr (IsWrittenAt extents owners number at blocks)) (IsWrittenAt extents owners number at blocks)
      (IsPartlyZero extents owners number first last) (IsZeroed extents dirty owners number first (at + count))
      old mid new answer (λ is. true_mid (zeroing.forth is)) zeroing.changes writes (λ V W partly. partly)
      (λ V U W zeroed either. elim either [
        | inl same ↦ partly_later owners number first at last V W zeroing.most
            (subst (λ (l : List Block). IsPartlyZero extents owners number first at V l) (sym same) zeroed.partly)
        | inr written ↦ partly_more extents dirty owners number first at count blocks V U W zeros zeroed written last within zeroing.least
      ])
      (λ V U W zeroed written. zeroed_more extents dirty owners number first at count blocks V U W zeros zeroed written zeroing.least)

  pub zeroing_goes_on : (then : Type 0) → (still → then) → (then → still)
      → ChangesList still 1 (IsSameOr (IsWrittenAt extents owners number at blocks)) (IsWrittenAt extents owners number at blocks) mid new (Ok tt)
      → IsZeroing extents honest then dirty owners number first last (at + count) old new
  zeroing_goes_on then forth back writes = record {
    forth = λ is. forth (zeroing.forth is);
    back = λ is. zeroing.back (back is);
    least = omega (arith, zeroing.least);
    most = within;
    changes = changes_more honest (at - first + 1) (at + count - first) (IsPartlyZero extents owners number first last)
        (IsZeroed extents dirty owners number first (at + count))
        (IsPartlyZero extents owners number first last) (IsZeroed extents dirty owners number first (at + count)) old new (Ok tt)
        (omega (arith, zeroing.least, some)) (both (Ok tt) writes)
        (λ lost V W rests is. is) (λ lost V W rests is. is);
  }

  pub zeroing_refused : (refusal : Refusal) → ChangesList still 1 (IsSameOr (IsWrittenAt extents owners number at blocks))
      (IsWrittenAt extents owners number at blocks) mid new (Err refusal)
      → ChangesList honest (last - first) (IsPartlyZero extents owners number first last) (IsZeroed extents dirty owners number first last) old new
      (Err refusal)
  zeroing_refused refusal writes = changes_refused honest (at - first + 1) (last - first) (IsPartlyZero extents owners number first last)
      (IsZeroed extents dirty owners number first (at + count))
      (IsPartlyZero extents owners number first last) (IsZeroed extents dirty owners number first last) old new refusal
      (omega (arith, zeroing.least, some, within)) (both (Err refusal) writes) (λ V W is. is)
