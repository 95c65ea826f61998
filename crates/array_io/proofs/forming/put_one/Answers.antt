use Rattle.std.proofs.Common.{◌≡◌, ℕ, ◌<◌, Bor, List, length, sym, ◌∙◌, subst, arith}
use Rattle.parity.specs.Xor.{zero_sector}
use Rattle.batch.specs.Places.{bytes_at}
use Rattle.batch.proofs.ZeroedSectors.{zero_bytes, zeros_long}
use Rattle.array_io.specs.declared.forming.Contents.{Contents}
use Rattle.array_io.specs.declared.forming.Contents.TheVariants.{Zeros}
use Rattle.array_io.specs.Steps.Contents.{given_of}
use Rattle.array_io.proofs.forming.put_one.Goals as goal

-- of sectors that become zero each is given as zero
given_zero : (contents : Contents) (sectors : Bor (List ℕ)) (at : ℕ) → contents ≡ Zeros sectors → at < length (given_of contents)
    → bytes_at (given_of contents) at ≡ zero_sector
given_zero contents sectors at is = subst (λ (c : Contents). at < length (given_of c) → bytes_at (given_of c) at ≡ zero_sector) (sym is)
    (λ inside. zero_bytes sectors.now at (omega (arith, inside, zeros_long sectors.now)))

pub returns-in-Zeros-clause-put : goal.returns-in-Zeros-clause-put
returns-in-Zeros-clause-put c =
    c.clear_sector.ensures.zero ∙ sym (given_zero c.args.contents.now c.in-Zeros.field-0 c.args.at c.in-Zeros.is c.requires.given)
