use Rattle.std.proofs.Common.{◌≡◌, ◌-◌, length, suc, true, sym, arith}
use Rattle.std.proofs.lemmas.Bool.{eqb-false}
use Rattle.certificate_lines.specs.Lines.{is_detail}
use Rattle.certificate_lines.specs.Packed.{said_at}
use Rattle.certificate_lines.proofs.SumFoundLemmas.{last_is}
use Rattle.certificate_lines.proofs.packed.past.Goals as goal

pub returns : goal.returns
returns c = λ runs steps.
    let d : is_detail (said_at runs steps c.args.line.now) ≡ true = sym (c.if-not-is_detail.ensures runs steps) in
    let n = eqb-false (length c.args.list.now) 0 (sym c.if-is_empty.ensures) in
    let some : length c.args.list.now ≡ suc (length c.args.list.now - 1) = omega (arith, n) in
    rw d (sym (last_is c.args.list.now 0 (length c.args.list.now - 1) c.index-list-list.result some))
