-- Small cases that meet what replacing a device and a step of a rebuild promise.
use Rattle.std.proofs.Common.{◌≡◌, inl, ℕ, ◌+◌, ◌-◌, ◌<◌, min, true, false, Ok, Err, refl, sym, ◌∙◌, arith}
use Rattle.std.proofs.Math.Nat.{min-le_left}
use Rattle.std.proofs.lemmas.Result.{IfErr-at_err, IfOk-at_ok}
use Rattle.sector_model.specs.declared.refusal.Refusal.{Refusal}
use Rattle.sector_model.specs.declared.refusal.Refusal.TheVariants.{NotMissing, NothingToRebuild}
use Rattle.layout_map.specs.Formats.{rebuild_rows}
use Rattle.array_io.specs.Believed.Holds.{row_count}
use Rattle.superblock.specs.declared.state.State.TheVariants.{Missing}
use Rattle.superblock.specs.NextTables.{slots_of}
use Rattle.superblock.specs.Tables.{state_at}
use Rattle.array_io.specs.Believed.Views.{ArrayView, DeviceFailed}
use Rattle.array_io.proofs.Instances.{goes_on_at_rest, keeps_at_rest}
use Rattle.rebuild.specs.Rebuilding.{IsAfterStep, IsNoReplacing, IsNoStep, IsNotMissing, IsNothingToRebuild, IsRebuilding, OthersKeepTheirs, Position, Progress}
use Rattle.rebuild.specs.Rebuilding.{Replaces, StepsRebuild, stepped}

others_at_rest : (array : ArrayView) (slot : ℕ) → OthersKeepTheirs array array slot
others_at_rest array slot other of_set apart = record { state = inl refl }

flags_differ : true ≡ false → ⊥
flags_differ e = cc

-- no device fails where nothing is done
none_failed : {honest ended : Type 0} (array : ArrayView) → honest → ¬ ended → (slot : ℕ) → slot < slots_of array.table
    → DeviceFailed slot array.panel array.panel
    → state_at array.table.states slot ≡ Missing
none_failed array fair open_still slot of_set failed = absurd (flags_differ (sym failed.is_down ∙ failed.was_up))

-- a slot that is not missing is not replaced
pub not_missing_is_refused : (honest : Type 0) (slot : ℕ) (array : ArrayView) → IsNotMissing array.table slot
    → Replaces honest slot array array (Err NotMissing)
not_missing_is_refused honest slot array not_missing = record {
  goes_on = goes_on_at_rest array;
  number = refl;
  others = others_at_rest array slot;
  joined = λ answered. absurd (cc);
  may_join = λ answered. absurd (cc);
  refused = λ refusal is. inl refl;
  failure = none_failed array;
  nothing = λ is. (refl, refl);
  keeps = keeps_at_rest honest array _;
  cause = λ refusal refused. IfErr-at_err (λ (r : Refusal). IsNoReplacing array array slot r) refused (not_missing, refl);
}

-- with no member rebuilding there is no step
pub no_step_is_refused : (honest : Type 0) (rows : ℕ) (array : ArrayView) → IsNothingToRebuild array
    → StepsRebuild honest rows array array (Err NothingToRebuild)
no_step_is_refused honest rows array nothing = record {
  goes_on = goes_on_at_rest array;
  number = refl;
  others = λ member is. others_at_rest array member;
  stepped = λ progress answered member is. absurd (nothing member is);
  has_member = λ progress answered. absurd (cc);
  refused = λ refusal is member rebuilding. inl refl;
  failure = λ fair open_still. none_failed array fair open_still;
  own = λ refusal refused member is. absurd (nothing member is);
  nothing = λ still. (refl, refl);
  keeps = keeps_at_rest honest array _;
  cause = λ refusal refused. IfErr-at_err (λ (r : Refusal). IsNoStep array array r) refused (nothing, λ member is. absurd (nothing member is));
}

no_rows : (most all_rows position : ℕ) → position ≡ stepped most all_rows 0 position
no_rows most all_rows position = by_none (min 0 most) (omega (arith, min-le_left 0 most))
  where
    by_none : (step : ℕ) → step ≡ 0 → position ≡ position + min step (all_rows - position)
    by_none step none = omega (arith, none, min-le_left step (all_rows - position))

-- a step of no rows tells the position
pub no_rows_tell_the_position : (honest : Type 0) (array : ArrayView) (member : ℕ) → IsRebuilding array.table member
    → StepsRebuild honest 0 array array (Ok (Position array.table.position))
no_rows_tell_the_position honest array member is = record {
  goes_on = goes_on_at_rest array;
  number = refl;
  others = λ other is_too. others_at_rest array other;
  stepped = λ progress answered other is_too. IfOk-at_ok (λ (p : Progress). IsAfterStep array.table other 0 p array.table) answered (
    no_rows (rebuild_rows array.table.geometry.format) (row_count array.table) array.table.position,
    array.table.allowed.position_below member is.state,
    inl (refl, refl),
  );
  has_member = λ progress answered nothing. nothing member is;
  refused = λ refusal same other is_too. inl refl;
  failure = λ fair open_still. none_failed array fair open_still;
  own = λ refusal refused. absurd (cc);
  nothing = λ nothing. absurd (nothing member is);
  keeps = keeps_at_rest honest array _;
  cause = λ refusal refused. absurd (cc);
}
