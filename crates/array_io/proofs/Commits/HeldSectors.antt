-- The sectors that an entry has where a journal has its seal and its body.
use Rattle.std.proofs.Common.{◌≡◌, ℕ, ◌+◌, ◌<◌, Bool, true, false, cond, List, [], length, Option, Some, None, refl, sym, ◌∙◌, ap}
use Rattle.std.specs.Prelude.{replicate, slice_index_or}
use Rattle.sector_model.specs.History.{Bytes, disk_of, sector_of}
use Rattle.stripe_journal.specs.declared.seal.Seal.{Seal}
use Rattle.stripe_journal.specs.Body.{place_in, zero_at}
use Rattle.stripe_journal.specs.Entries.{body_start}
use Rattle.stripe_journal.specs.Forms.{has_zeros, holds, rank, rows_in}
use Rattle.stripe_journal.specs.LastEntry.{sector_in}
use Rattle.stripe_journal.proofs.EntrySectors.{held_in_body, lacks_both, sector_held, sector_of_zeros}
use Rattle.stripe_journal.proofs.Bodies.{place_lacking, place_of_no_row}
use Rattle.stripe_journal.proofs.Places.{row_of_place}
use Rattle.array_io.specs.Steps.Putting.{IsBodyLong, LacksSector, held_sector}
use Rattle.array_io.proofs.Commits.EntryCopied.{in_the_body}

pub sector_of_held : (members : ℕ) (content : Option (List Bytes)) (seal : Seal) (body : List Bytes) (row i member : ℕ) → IsBodyLong members seal body
    → ((k : ℕ) → k < length body → sector_of (disk_of content) (body_start seal + k) ≡ slice_index_or body k [])
    → place_in (rows_in seal.form) row ≡ Some i → member < members → holds members seal.form i member ≡ true
    → sector_in members content seal row member ≡ Some (held_sector members seal body i member)
sector_of_held members content seal body row i member long stands there below held = by_zeros (has_zeros seal.form i) refl
  where
    by_zeros : (b : Bool) → has_zeros seal.form i ≡ b → sector_in members content seal row member ≡ Some (held_sector members seal body i member)
    by_zeros true zeros = sector_of_zeros members content seal row i member there zeros below
        ∙ ap Some (sym (ap (λ (b : Bool). cond b (replicate 512 0) (slice_index_or body (rank members seal.form i member) [])) zeros))
    by_zeros false other =
        let inside = held_in_body members seal.form i member other held in
        sector_held members content seal row i member there inside
        ∙ ap Some (stands (rank members seal.form i member)
        (in_the_body members seal body i member long (row_of_place (rows_in seal.form) row i there).0 below inside))
        ∙ ap Some (sym (ap (λ (b : Bool). cond b (replicate 512 0) (slice_index_or body (rank members seal.form i member) [])) other))

-- it has no other of its rows, and none of another row

pub lacks_held : (members : ℕ) (seal : Seal) (row i member : ℕ) → place_in (rows_in seal.form) row ≡ Some i → holds members seal.form i member ≡ false
    → LacksSector members seal row member
lacks_held members seal row i member there lacking =
    let both = lacks_both members seal.form i member lacking in
    record {
      no_place = place_lacking members seal row i member there both.0;
      no_zero = ap (λ (o : Option ℕ). zero_at members seal.form o member) there ∙ both.1;
    }

pub lacks_row : (members : ℕ) (seal : Seal) (row member : ℕ) → place_in (rows_in seal.form) row ≡ None → LacksSector members seal row member
lacks_row members seal row member none = record {
  no_place = place_of_no_row members seal row member none;
  no_zero = ap (λ (o : Option ℕ). zero_at members seal.form o member) none;
}
