-- A run that begins with files begins with references to them.
use Rattle.std.proofs.Common.{◌≡◌, ◌∙◌, ℕ, List, Option, Some, None, ap, map, subst, sym}
use Rattle.std.specs.Prelude.{Bool, Err, IfOk, IsTrue, Ok, Result, is_none}
use Rattle.std.specs.Option.{option_map}
use Rattle.std.proofs.Math.ListN.{get_or-map}
use Rattle.std.proofs.lemmas.Result.{IfOk-weaker}
use Rattle.device_files.specs.BankFiles.{AreAllSafe, BeginsWithFiles, contents_by}
use Rattle.sector_model.specs.DeviceFiles.{Contents}
use Rattle.sector_model.specs.Files.{BeginsIn, BeginsWith, file_at, told_in}
use Rattle.sector_model.specs.History.{History}

-- what holds of an answer under a premise
under_premise : {T E : Type 0} (P : Type 0) (Q : T → Type 0) (result : Result T E) → (P → IfOk result Q) → IfOk result (λ value. P → Q value)
under_premise P Q (Ok value) holds = holds
under_premise P Q (Err error) holds = tt

-- in a slot
begins_in_lent : {F L : Type 0} (of : L → F) (told : F → Contents) (lent : Option L) (h : History) (d : ℕ)
    → BeginsIn (told_in told (option_map of lent)) (is_none (option_map of lent)) h d → BeginsIn (told_in (λ one. told (of one)) lent) (is_none lent) h d
begins_in_lent of told None h d is = is
begins_in_lent of told (Some one) h d is = is

-- in all
pub begins_with_lent : {F L : Type 0} (of : L → F) (told : F → Contents) (files : List (Option F)) (lent : List (Option L)) (h : History)
    → map (option_map of) lent ≡ files → BeginsWith told files h → BeginsWith (λ one. told (of one)) lent h
begins_with_lent of told files lent h same begins = record {
  began = begins.began;
  beyond = begins.beyond;
  each = λ d under. begins_in_lent of told (file_at lent d) h d
      (subst (λ file. BeginsIn (told_in told file) (is_none file) h d)
      (ap (λ all. file_at all d) (sym same) ∙ get_or-map (option_map of) lent d None) (begins.each d under));
}

-- a bank whose history is that run begins with them too
pub begins_on : {F B E : Type 0} (tells : Bool) (told left : F → List ℕ) (files : List (Option F)) (h : History) (history : B → History) (over : Result B E)
    → BeginsWithFiles tells told left files h → (IsTrue tells → IfOk over (λ bank. history bank ≡ h))
    → IfOk over (λ bank. BeginsWithFiles tells told left files (history bank))
begins_on tells told left files h history over begins same = under_premise (IsTrue tells) (λ bank. BeginsWith (contents_by told left) files (history bank)) over
    (λ is. IfOk-weaker over _ _ (λ bank eq. subst (BeginsWith (contents_by told left) files) (sym eq) (begins is)) (same is))

-- a run that begins with a slice of all files begins with them
pub begins_with_slice : {F : Type 0} (IsSafe : F → Type 0) (tells : Bool) (told left : F → List ℕ) (files slice : List (Option F)) (h : History)
    → slice ≡ files → AreAllSafe IsSafe files → (AreAllSafe IsSafe slice → BeginsWithFiles tells told left slice h) → BeginsWithFiles tells told left files h
begins_with_slice IsSafe tells told left files slice h same safe begun =
    subst (λ (all : List (Option _)). BeginsWithFiles tells told left all h) same (begun (subst (AreAllSafe IsSafe) (sym same) safe))
