-- The numbers of a version, and how they fit together.
use Rattle.std.proofs.Common.{◌≡◌, ℕ, ◌+◌, ◌-◌, ◌*◌, ◌/◌, ◌%◌, ◌<◌, ◌≤◌, Bool, true, false, eqb, cond, refl, ap, ◌∙◌, ◌⊎◌, inl, inr, ⊎_elim, arith}
use Rattle.std.proofs.lemmas.Nat.{div_below, mod_below}
use Rattle.std.proofs.Math.Nat.{mul-le-mul_left}
use Rattle.extents.specs.Versions.{most_volumes, most_name_bytes, record_width, records_a_sector, record_sectors, blocks_at, table_length}

-- the numbers of a version
record HasNumbers (version volumes bytes width each sectors blocks : ℕ) : Type 0 where
  pub most_volumes_is : most_volumes version ≡ volumes
  pub most_name_bytes_is : most_name_bytes version ≡ bytes
  pub record_width_is : record_width version ≡ width
  pub records_a_sector_is : records_a_sector version ≡ each
  pub record_sectors_is : record_sectors version ≡ sectors
  pub blocks_at_is : blocks_at version ≡ blocks

numbers_by : (version : ℕ) (b : Bool) → eqb version 1 ≡ b → HasNumbers version 32 24 32 16 2 28 ⊎ HasNumbers version 64 63 128 4 16 64
unfolding most_volumes most_name_bytes record_width records_a_sector record_sectors blocks_at
numbers_by version true is = inl (record {
  most_volumes_is = ap (λ (b : Bool). cond b 32 64) is;
  most_name_bytes_is = ap (λ (b : Bool). cond b 24 63) is;
  record_width_is = ap (λ (b : Bool). cond b 32 128) is;
  records_a_sector_is = ap (λ (b : Bool). cond b 16 4) is;
  record_sectors_is = ap (λ (b : Bool). cond b 2 16) is;
  blocks_at_is = ap (λ (b : Bool). cond b 28 64) is;
})
numbers_by version false is = inr (record {
  most_volumes_is = ap (λ (b : Bool). cond b 32 64) is;
  most_name_bytes_is = ap (λ (b : Bool). cond b 24 63) is;
  record_width_is = ap (λ (b : Bool). cond b 32 128) is;
  records_a_sector_is = ap (λ (b : Bool). cond b 16 4) is;
  record_sectors_is = ap (λ (b : Bool). cond b 2 16) is;
  blocks_at_is = ap (λ (b : Bool). cond b 28 64) is;
})

-- a version has the numbers of version 1, or those of version 2
numbers : (version : ℕ) → HasNumbers version 32 24 32 16 2 28 ⊎ HasNumbers version 64 63 128 4 16 64
numbers version = numbers_by version (eqb version 1) refl

-- a sector is full of records
pub width_all : (version : ℕ) → record_width version * records_a_sector version ≡ 512
width_all version = ⊎_elim
    (λ (one : HasNumbers version 32 24 32 16 2 28). rw (one.record_width_is, one.records_a_sector_is) refl)
    (λ (two : HasNumbers version 64 63 128 4 16 64). rw (two.record_width_is, two.records_a_sector_is) refl)
    (numbers version)

-- the sectors of records have all records
pub records_all : (version : ℕ) → record_sectors version * records_a_sector version ≡ most_volumes version
records_all version = ⊎_elim
    (λ (one : HasNumbers version 32 24 32 16 2 28). rw (one.record_sectors_is, one.records_a_sector_is, one.most_volumes_is) refl)
    (λ (two : HasNumbers version 64 63 128 4 16 64). rw (two.record_sectors_is, two.records_a_sector_is, two.most_volumes_is) refl)
    (numbers version)

-- there are no more than in the greatest version
pub record NumbersFit (version : ℕ) : Type 0 where
  pub volumes : most_volumes version ≤ 64
  pub bytes : most_name_bytes version ≤ 63
  pub width : record_width version ≤ 128
  pub sectors : record_sectors version ≤ 16
  pub some_sectors : 2 ≤ record_sectors version
  pub each : 4 ≤ records_a_sector version
  pub each_most : records_a_sector version ≤ 16
  pub name : 1 + most_name_bytes version ≤ blocks_at version
  pub blocks : blocks_at version + 4 ≤ record_width version

pub numbers_fit : (version : ℕ) → NumbersFit version
numbers_fit version = ⊎_elim
    (λ (n : HasNumbers version 32 24 32 16 2 28).
    let volumes = n.most_volumes_is in let bytes = n.most_name_bytes_is in let width = n.record_width_is in
    let each = n.records_a_sector_is in let sectors = n.record_sectors_is in let blocks = n.blocks_at_is in
    record {
      volumes = omega arith;
      bytes = omega arith;
      width = omega arith;
      sectors = omega arith;
      some_sectors = omega arith;
      each = omega arith;
      each_most = omega arith;
      name = omega arith;
      blocks = omega arith;
    })
    (λ (n : HasNumbers version 64 63 128 4 16 64).
    let volumes = n.most_volumes_is in let bytes = n.most_name_bytes_is in let width = n.record_width_is in
    let each = n.records_a_sector_is in let sectors = n.record_sectors_is in let blocks = n.blocks_at_is in
    record {
      volumes = omega arith;
      bytes = omega arith;
      width = omega arith;
      sectors = omega arith;
      some_sectors = omega arith;
      each = omega arith;
      each_most = omega arith;
      name = omega arith;
      blocks = omega arith;
    })
    (numbers version)

pub table_length_is : (version : ℕ) → table_length version ≡ 1 + record_sectors version + 8
unfolding table_length
table_length_is version = refl

pub table_length_most : (version : ℕ) → table_length version ≤ 25
table_length_most version = let most = (numbers_fit version).sectors in let is = table_length_is version in omega arith

pub table_length_some : (version : ℕ) → 1 ≤ table_length version
table_length_some version = let is = table_length_is version in omega arith

pub most_volumes_most : (version : ℕ) → most_volumes version ≤ 64
most_volumes_most version = (numbers_fit version).volumes

-- a record's bytes lie within a sector
pub cell_fits : (width per number : ℕ) → width * per ≡ 512 → number < per → width * number + width ≤ 512
cell_fits width per number all below = let more : width * (number + 1) ≤ width * per =
    mul-le-mul_left width (let h : number + 1 ≤ per = omega arith in h) in omega arith

-- the greatest version has no fewer of both
pub most_of_last : (version : ℕ) → (most_volumes version ≤ most_volumes 2) × (most_name_bytes version ≤ most_name_bytes 2)
unfolding most_volumes most_name_bytes
most_of_last version = ((numbers_fit version).volumes, (numbers_fit version).bytes)

-- a record's sector is one of the table's
pub cell_sector : (version number each : ℕ) → each ≡ records_a_sector version → number < most_volumes version → 1 + number / each < 25
cell_sector version number each many below =
    let some = (numbers_fit version).each in
    let sectors = (numbers_fit version).sectors in
    let all : record_sectors version * each ≡ most_volumes version = ap (λ (n : ℕ). record_sectors version * n) many ∙ records_all version in
    let quotient : number / each < record_sectors version = div_below number each (record_sectors version) (omega arith) (omega arith) in
    omega arith

-- its part of that lies within
pub cell_room : (version number width each : ℕ) → width ≡ record_width version → each ≡ records_a_sector version → width * (number % each) + width ≤ 512
cell_room version number width each wide many =
    let some = (numbers_fit version).each in
    let all : width * each ≡ 512 = ap (λ (n : ℕ). n * each) wide ∙ ap (λ (n : ℕ). record_width version * n) many ∙ width_all version in
    cell_fits width each (number % each) all (mod_below number each (omega arith))

-- the records of a sector are among those of the version
pub records_within : (version number each : ℕ) → each ≡ records_a_sector version → 0 < number → number < 1 + record_sectors version
    → each * (number - 1) + each ≤ 64
records_within version number each many some below =
    let most = (numbers_fit version).volumes in
    let all : record_sectors version * each ≡ most_volumes version = ap (λ (n : ℕ). record_sectors version * n) many ∙ records_all version in
    let more : each * (number - 1 + 1) ≤ each * record_sectors version =
    mul-le-mul_left each (let h : number - 1 + 1 ≤ record_sectors version = omega arith in h) in
    omega arith
