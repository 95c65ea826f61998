use Rattle.std.proofs.Common.{inl, inr, refl}
use Rattle.set_commands.proofs.Served.{assembly_refused, opening_refused, opens_for}
use Rattle.set_commands.proofs.serving.open_on.Goals as goal

pub returns-in-Err-clause-err : goal.returns-in-Err-clause-err
returns-in-Err-clause-err g c = assembly_refused c.in-Err.returned.refusal (c.in-Err.ensures.refused.refused _ _ refl)

pub returns-in-Ok-open-clause-opened : goal.returns-in-Ok-open-clause-opened
returns-in-Ok-open-clause-opened g c = record {
  array = _;
  assembles = c.in-Ok.ensures.assembled;
  unwritten = c.in-Ok.ensures.unwritten;
  opens = opens_for _ _ _ _ c.in-Ok.ensures.honest_array.0 c.in-Ok-open.ensures.opened;
}

pub returns-in-Err-open-clause-refused : goal.returns-in-Err-open-clause-refused
returns-in-Err-open-clause-refused g c = inr (record {
  array = _;
  back = _;
  assembles = c.in-Ok.ensures.assembled;
  unwritten = c.in-Ok.ensures.unwritten;
  opens = opens_for _ _ _ _ c.in-Ok.ensures.honest_array.0 c.in-Err-open.ensures.refused;
})

pub returns-in-Err-open-clause-err : goal.returns-in-Err-open-clause-err
returns-in-Err-open-clause-err g c = opening_refused _ _ _ c.in-Err-open.returned.refusal (c.in-Err-open.ensures.refused.cause _ _ refl)

pub returns-in-Err-clause-refused : goal.returns-in-Err-clause-refused
returns-in-Err-clause-refused g c = inl (record { back = _; assembles = c.in-Err.ensures.refused; unwritten = c.in-Err.ensures.unwritten })

pub returns-in-Ok-open-clause-honest : goal.returns-in-Ok-open-clause-honest
returns-in-Ok-open-clause-honest g c =
    let array = c.in-Ok.ensures.honest_array in
    let store = c.in-Ok-open.ensures.honest_store in
    (λ honest. store.0 (array.0 honest), λ honest. array.1 (store.1 honest))
