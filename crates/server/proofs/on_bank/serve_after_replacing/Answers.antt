use Rattle.std.proofs.lemmas.Result.{err_from_is_err_and}
use Rattle.array_io.specs.Believed.OpenArray.{IsHonest}
use Rattle.server.proofs.Opened.{serves_after, stops_after}
use Rattle.server.proofs.on_bank.serve_after_replacing.Goals as goal

pub serve_requests-requires : goal.serve_requests-requires
serve_requests-requires g c = record { going = c.in_ok-replace_on.ensures.going }

pub returns : goal.returns
returns g c = record {
  serves = λ first so. serves_after (IsHonest c.args.store.now.array) (g.B.Bank.honest first) so _ _ _ _ _ _ _ _ c.serve_requests.result
      c.in_ok-replace_on.ensures.replaced (c.serve_requests.ensures.serves first (λ fair. c.in_ok-replace_on.ensures.honest.0 (so fair)));
}

pub returns-in_err-replace_on : goal.returns-in_err-replace_on
returns-in_err-replace_on g c = record {
  serves = λ first so.
      let p = err_from_is_err_and c.from_residual.result c.from_residual.ensures.1 in
      rw (p.1, p.2) (stops_after (IsHonest c.args.store.now.array) (g.B.Bank.honest first) so _ _ _ _ _ _ _ c.in_err-replace_on.ensures.replaced);
}
