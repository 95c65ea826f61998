-- The status of the process, once the replies that were left have been sent or not.
use Rattle.std.proofs.Common.{◌≡◌, ◌≢◌, arith, refl, suc, zero, subst, sym, ℕ, List}
use Rattle.std.specs.Prelude.{Err, Ok, OnErr, OnOk, Result}
use Rattle.clap.specs.Words.{Text}
use Rattle.raidtool.specs.Tool.{IsStatusFor}

-- 1 says nothing of the words
one_for : (words : List Text) (end : ℕ) → end ≡ 1 → IsStatusFor words end
one_for words end is = record {
  most = omega (arith, is);
  done = λ none. absurd (omega (arith, is, none));
  wrong = λ two. absurd (omega (arith, is, two));
}

same_for : (words : List Text) (status end : ℕ) → end ≡ status → IsStatusFor words status → IsStatusFor words end
same_for words status end is asked = subst (λ n. IsStatusFor words n) (sym is) asked

module _ {T E : Type 0} where
  -- the status stays, or 1 stands in its place
  pub status_ended : (Quiet Told : Type 0) (words : List Text) (status end : ℕ) (sent : Result T E) → IsStatusFor words status
      → (status ≢ 0 → (end ≡ status) × Quiet) → OnOk sent ((end ≡ status) × Quiet) → (status ≡ 0 → OnErr sent ((end ≡ 1) × Told)) → IsStatusFor words end
  status_ended Quiet Told words (suc status) end sent asked same ok err = same_for words (suc status) end (same (λ none. absurd (omega (arith, none)))).0 asked
  status_ended Quiet Told words zero end (Ok done) asked same ok err = same_for words zero end ok.0 asked
  status_ended Quiet Told words zero end (Err fault) asked same ok err = one_for words end (err refl).0
