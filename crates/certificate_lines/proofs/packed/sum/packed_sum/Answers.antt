use Rattle.std.proofs.Common.{refl, arith}
use Rattle.domain.specs.LocationsInCode.{location_of}
use Rattle.domain.specs.InCode.{summand_of, sum_of}
use Rattle.certificate_lines.proofs.SumFieldLemmas.{is_kept, pair_packed, triple_packed, no_accumulator, two_or_more}
use Rattle.certificate_lines.proofs.packed.sum.packed_sum.Goals as goal

pub returns-then-len-lt2-clause-kept : goal.returns-then-len-lt2-clause-kept
returns-then-len-lt2-clause-kept c = λ form. absurd (let z = two_or_more (sum_of c.args.sum.now) form in omega (arith, z, c.if-len-lt2.true, c.len-len.ensures.count))

pub returns-then-len-eq2-clause-same : goal.returns-then-len-eq2-clause-same
returns-then-len-eq2-clause-same c = λ form.
    pair_packed (sum_of c.args.sum.now) (is_kept (sum_of c.args.sum.now) form) (location_of c.name-first.result) (summand_of c.get-head.result) (summand_of c.get-second.result)
    c.get-head.ensures c.name-first.ensures c.get-second.ensures (omega (arith, c.if-len-eq2.true, c.len-len.ensures.count))

pub returns-in-Cell-clause-same : goal.returns-in-Cell-clause-same
returns-in-Cell-clause-same c = λ form.
    triple_packed (sum_of c.args.sum.now) (is_kept (sum_of c.args.sum.now) form) (location_of c.name-first.result) (summand_of c.get-head.result) (summand_of c.get-second.result)
    c.get-head.ensures c.name-first.ensures c.get-second.ensures
    (summand_of c.get-last.result) (location_of c.name.result) c.get-last.ensures c.name.ensures (λ q. omega (arith, q, c.if-len-eq2.false, c.len-len.ensures.count)) c.in-Cell.cell
    (rw c.in-Cell.is refl)

pub returns-in-Accumulator-clause-kept : goal.returns-in-Accumulator-clause-kept
returns-in-Accumulator-clause-kept c = λ form.
    no_accumulator (sum_of c.args.sum.now) (is_kept (sum_of c.args.sum.now) form) (location_of c.name-first.result) (summand_of c.get-head.result) (summand_of c.get-second.result)
    c.get-head.ensures c.name-first.ensures c.get-second.ensures
    (summand_of c.get-last.result) (location_of c.name.result) c.get-last.ensures c.name.ensures (λ q. omega (arith, q, c.if-len-eq2.false, c.len-len.ensures.count))
    (rw c.in-Accumulator.is refl)
