use Rattle.std.proofs.Common.{◌≡◌, Some, length, sym, ap, ◌∙◌}
use Rattle.std.proofs.lemmas.Slice.Eq.{bytes_eq-Decides}
use Rattle.extents.specs.TableSpelling.{record_bytes}
use Rattle.extents.proofs.Bytes.{front_back}
use Rattle.extents.proofs.Spelled.{length-record_bytes}
use Rattle.extents.proofs.record_codec.read_record.Goals as goal

pub returns-then-eq-clause-some : goal.returns-then-eq-clause-some
returns-then-eq-clause-some c =
    let w = c.record_width-width.result in
    let long : length c.write_record.new.to ≡ w = ap length c.write_record.ensures
    ∙ length-record_bytes c.args.version c.in_ok-one.one c.in_ok-one.ensures.short ∙ sym c.record_width-width.ensures.number in
    sym ((bytes_eq-Decides _ c.args.from.now).0 (sym c.eq.ensures ∙ c.if-eq.true)) ∙ front_back w _ c.write_record.new.to long ∙ c.write_record.ensures

pub returns-else-eq-clause-exact : goal.returns-else-eq-clause-exact
returns-else-eq-clause-exact c = λ r short is. absurd (
    let w = c.record_width-width.result in
    let some : c.record_in.result ≡ Some r = c.record_in.ensures.exact r short is in
    let found : c.record_in.result ≡ Some c.in_ok-one.one = c.in_ok-one.was in
    let one : c.in_ok-one.one ≡ r = cc in
    let long : length c.write_record.new.to ≡ w = ap length c.write_record.ensures
    ∙ length-record_bytes c.args.version c.in_ok-one.one c.in_ok-one.ensures.short ∙ sym c.record_width-width.ensures.number in
    let same = front_back w _ c.write_record.new.to long ∙ c.write_record.ensures ∙ ap (record_bytes c.args.version) one ∙ sym is in
    let yes = sym c.if-eq.false ∙ c.eq.ensures ∙ (bytes_eq-Decides _ c.args.from.now).1 same in
    let no : ⊥ = cc in no)
