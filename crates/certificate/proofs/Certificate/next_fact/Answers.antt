use Rattle.std.proofs.Common.{◌+◌, sym, arith}
use Rattle.certificate_lines.proofs.SumReaderLemmas.{fit_next, fact_next, has_said, none_left}
use Rattle.certificate_lines.proofs.SumSkipLemmas.{has_shape_there}
use Rattle.certificate.proofs.Certificate.next_fact.Goals as goal

pub returns-then-not-is_at-clause-none : goal.returns-then-not-is_at-clause-none
returns-then-not-is_at-clause-none g c = λ done.
    rw (← c.self.view_is) (none_left c.self.inside.version c.self.inside.kept c.args.line.now c.args.at c.self.invariant (rw (← c.self.view_is) at c.requires)
    (sym (rw c.index.ensures.same at c.if-not-is_at.ensures)))

pub first_said-requires : goal.first_said-requires
first_said-requires g c = record { fit = fit_next c.self.inside.version c.self.inside.kept c.args.line.now (4096 + c.index.result) c.self.invariant (sym c.if-not-is_at.ensures) }

pub returns-in-Some-clause-next : goal.returns-in-Some-clause-next
returns-in-Some-clause-next g c = λ done.
    rw (← c.self.view_is) ((fact_next c.self.inside.version c.self.inside.kept c.args.line.now c.in-Some.end c.args.at _ c.self.invariant (omega (arith, c.index.ensures.same, c.index.ensures.small))
    (sym (rw c.index.ensures.same at c.if-not-is_at.ensures)) (sym c.in-Some.ensures.there) c.in-Some.ensures.says c.in-Some.ensures.end).next)

pub returns-in-Some-clause-stands : goal.returns-in-Some-clause-stands
returns-in-Some-clause-stands g c =
    rw (← c.self.view_is) ((fact_next c.self.inside.version c.self.inside.kept c.args.line.now c.in-Some.end c.args.at _ c.self.invariant (omega (arith, c.index.ensures.same, c.index.ensures.small))
    (sym (rw c.index.ensures.same at c.if-not-is_at.ensures)) (sym c.in-Some.ensures.there) c.in-Some.ensures.says c.in-Some.ensures.end).stands)

pub returns-in-None-clause-none : goal.returns-in-None-clause-none
returns-in-None-clause-none g c =
    has_said c.self.inside.version c.self.inside.kept c.args.line.now (4096 + c.index.result) c.self.invariant (omega arith) (omega (arith, c.index.ensures.small))
    (sym c.if-not-is_at.ensures) (sym c.in-None.ensures.there)

pub returns-in-Some-clause-shape : goal.returns-in-Some-clause-shape
returns-in-Some-clause-shape g c = λ done. has_shape_there c.self.inside.version c.self.inside.kept c.args.line.now (4096 + c.index.result) _ c.self.invariant (sym c.if-not-is_at.ensures) c.in-Some.ensures.says
