use Rattle.std.proofs.Common.{◌≡◌, ℕ, ◌+◌, ◌<◌, ◌≤◌, List, ◌++◌, length, get_or, take, ap, sym, ◌∙◌, arith}
use Rattle.std.specs.Prelude.{Result, Ok, Err, IfOk}
use Rattle.std.proofs.lemmas.List.{get_or_append_left, get_or-append-add, get_or-take, length-take-le}
use borrow.Rule.Slice.PartMut.{put_mid, post_of}
use Rattle.sector_model.specs.DeviceFiles.{AreAt}
use Rattle.device_files.proofs.finding.read_rest.Goals as goal

fits : {E : Type 0} (r : Result ℕ E) (m : ℕ) (part : List ℕ) → m + length part ≡ 512 → IfOk r (λ n. n ≤ length part) → IfOk r (λ n. m + n ≤ 512)
fits (Ok n) m part same bound = omega (arith, same, bound)
fits (Err e) m part same bound = tt

-- the bytes before the part
kept : (m l k : ℕ) (old part : List ℕ) → m ≤ length old → k < m → get_or (put_mid m l old part) k 0 ≡ get_or old k 0
kept m l k old part within lt = get_or_append_left (take m old) (part ++ post_of m l old) 0 k (omega (arith, length-take-le m old within, lt))
    ∙ get_or-take m old k 0 lt

-- those of the part
put : (m l k : ℕ) (old part : List ℕ) → m ≤ length old → k < length part → get_or (put_mid m l old part) (m + k) 0 ≡ get_or part k 0
put m l k old part within lt =
    ap (λ (i : ℕ). get_or (put_mid m l old part) (i + k) 0) (sym (length-take-le m old within)) ∙ get_or-append-add (take m old) (part ++ post_of m l old) k 0
    ∙ get_or_append_left part (post_of m l old) 0 k lt

read_at : {E : Type 0} (r : Result ℕ E) (byte : ℕ → ℕ) (place m l : ℕ) (old part : List ℕ) → m ≤ length old → IfOk r (λ n. n ≤ length part)
    → IfOk r (λ n. AreAt byte (place + m) n part)
    → IfOk r (λ n. (k : ℕ) → k < n → get_or (put_mid m l old part) (m + k) 0 ≡ byte (place + m + k))
read_at (Ok n) byte place m l old part within bound read = λ k lt. put m l k old part within (omega (arith, bound, lt)) ∙ read.each k lt
read_at (Err e) byte place m l old part within bound read = tt

pub returns-clause-bound : goal.returns-clause-bound
returns-clause-bound g c = fits c.read_part.result c.args.done c.read_part.new.to (omega (arith, c.read_part.auto.to, c.told-to, c.requires.done))
    c.read_part.ensures.bound

pub returns-clause-front : goal.returns-clause-front
returns-clause-front g c = λ k lt. kept c.args.done _ k c.args.to.now c.read_part.new.to (omega (arith, c.told-to, c.requires.done)) lt

pub returns-clause-read : goal.returns-clause-read
returns-clause-read g c = λ tells.
    read_at c.read_part.result _ c.args.place c.args.done _ c.args.to.now c.read_part.new.to (omega (arith, c.told-to, c.requires.done))
    c.read_part.ensures.bound (c.read_part.ensures.read tells)
