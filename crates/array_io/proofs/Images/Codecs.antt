-- What the codecs prove of spellings is what the laws need of them.
use Rattle.std.proofs.Common.{◌≡◌, ◌≢◌, ℕ, List, [], ◌++◌, drop, take, length, get_or, replicate, refl, sym, ◌∙◌, ap, append_assoc, arith}
use Rattle.std.proofs.lemmas.List.{length-replicate}
use Rattle.std.proofs.Math.Seq.{drop-append_seam, take-append_seam}
use Rattle.parity.specs.Xor.{zero_sector}
use Rattle.parity.proofs.Laws.{get_or-zero_sector}
use Rattle.superblock.specs.Spelling.{superblock_sector}
use Rattle.superblock.proofs.Spelled.{length-superblock_sector, one_superblock, read_letter}
use Rattle.stripe_journal.specs.declared.form.Form.{Form}
use Rattle.stripe_journal.specs.declared.seal.Seal.{Seal}
use Rattle.stripe_journal.specs.Spelling.{first_mark, seal_bytes, seal_sector}
use Rattle.stripe_journal.proofs.Seals.{same_seal}
use Rattle.stripe_journal.proofs.Spellings.{form_back, length-first_mark, length-seal_bytes, length-seal_sector, seal_begins, sector_says}
use Rattle.array_io.proofs.Images.Spellings.{Spellings}

-- what stands after the id
after_id : ℕ → Form → List ℕ
after_id number form = drop (length (first_mark form)) (seal_bytes [] number form)

-- the second of seven parts, between the first and the rest
second_part : (m i a b c d e : List ℕ) → m ++ i ++ a ++ b ++ c ++ d ++ e ≡ m ++ (i ++ drop (length m) (m ++ [] ++ a ++ b ++ c ++ d ++ e))
second_part m i a b c d e = simp (append_assoc, drop-append_seam)

seal_bytes_are : (id : List ℕ) (number : ℕ) (form : Form) → seal_bytes id number form ≡ first_mark form ++ (id ++ after_id number form)
unfolding seal_bytes after_id
seal_bytes_are id number form = second_part (first_mark form) id _ _ _ _ _

-- equal lists with fronts of one length have equal fronts and rests
same_front : (a b r s : List ℕ) → length a ≡ length b → a ++ r ≡ b ++ s → (a ≡ b) × (r ≡ s)
same_front a b r s lengths same = (
  sym (take-append_seam a r) ∙ ap (λ (x : List ℕ). take (length a) x) same ∙ ap (λ (n : ℕ). take n (b ++ s)) lengths ∙ take-append_seam b s,
  sym (drop-append_seam a r) ∙ ap (λ (x : List ℕ). drop (length a) x) same ∙ ap (λ (n : ℕ). drop n (b ++ s)) lengths ∙ drop-append_seam b s,
)

-- a sector spells one seal at most, however long its id
one_seal : (first second : Seal) → seal_sector first ≡ seal_sector second → first ≡ second
one_seal first second same =
    let first_says = sector_says id first.number first.form sector first.allowed first.formed long refl in
    let second_says = sector_says id second.number second.form sector second.allowed second.formed long equal in
    same_seal first second parts.0 (first_says.number_is ∙ sym second_says.number_is)
    (first_says.form_is second.form second.formed second.allowed.rows (form_back id second.number second.form sector second.formed long equal))
  where
    lengths : length first.id ≡ length second.id
    lengths = omega (
      arith,
      ap (λ (s : List ℕ). length s) same,
      length-seal_sector first,
      length-seal_sector second,
    )

    beyond : Seal → List ℕ
    beyond seal = after_id seal.number seal.form

    spelled : (seal : Seal) → seal_sector seal ≡ first_mark seal.form ++ (seal.id ++ beyond seal)
    spelled seal = seal_bytes_are seal.id seal.number seal.form

    marks : (first_mark first.form ≡ first_mark second.form) × (first.id ++ beyond first ≡ second.id ++ beyond second)
    marks = same_front (first_mark first.form) (first_mark second.form) (first.id ++ beyond first) (second.id ++ beyond second)
        (length-first_mark first.form ∙ sym (length-first_mark second.form)) (sym (spelled first) ∙ same ∙ spelled second)

    parts : (first.id ≡ second.id) × (beyond first ≡ beyond second)
    parts = same_front first.id second.id (beyond first) (beyond second) lengths marks.1

    -- the same seals with an id of 16 bytes
    id : List ℕ
    id = replicate 16 0

    sector : List ℕ
    sector = seal_bytes id first.number first.form

    long : length sector ≡ 512
    long = omega (arith, length-seal_bytes id first.number first.form first.formed, length-replicate {A = ℕ} 16 0)

    equal : sector ≡ seal_bytes id second.number second.form
    equal =
        seal_bytes_are id first.number first.form
        ∙ ap (λ (mark : List ℕ). mark ++ (id ++ beyond first)) marks.0
        ∙ ap (λ (r : List ℕ). first_mark second.form ++ (id ++ r)) parts.1
        ∙ sym (seal_bytes_are id second.number second.form)

-- a spelling begins with the mark, and no sector of zeros does
zero_begins : (sector : List ℕ) → get_or sector 0 0 ≡ 82 → zero_sector ≢ sector
zero_begins sector begins is = absurd (omega (arith, begins, ap (λ (s : List ℕ). get_or s 0 0) is, get_or-zero_sector 0 (omega arith)))

pub spellings : Spellings
spellings = record {
  superblock_long = length-superblock_sector;
  one_superblock = one_superblock;
  one_seal = one_seal;
  zero_no_superblock = λ superblock. zero_begins (superblock_sector superblock) (read_letter superblock);
  zero_no_seal = λ seal. zero_begins (seal_sector seal) (seal_begins seal);
}
