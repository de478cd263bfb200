use Rattle.std.proofs.Common.{◌∙◌, sym, arith}
use Rattle.std.proofs.lemmas.Bool.{eq-eqb}
use Rattle.certificate.proofs.SumNamedLemmas.{next_is, named_first, named_later}
use Rattle.certificate.proofs.Certificate.names.Goals as goal

pub returns-then-next_place-routine : goal.returns-then-next_place-routine
returns-then-next_place-routine g c =
    let v = c.self.inside.version in let k = c.self.inside.kept in
    rw (← c.self.view_is, ← c.index-routine.ensures.same)
    (eq-eqb c.next_place.result c.index-routine.result c.if-next_place-routine.true ∙
    sym (named_first v k c.self.invariant c.index-routine.result c.next_place.result c.index-routine.ensures.small
    (next_is v k c.self.invariant c.index-routine.result c.next_place.result (omega (arith, c.index-routine.ensures.small)) c.next_place.ensures) c.if-next_place-routine.true))

pub returns-else-next_place-routine : goal.returns-else-next_place-routine
returns-else-next_place-routine g c =
    let v = c.self.inside.version in let k = c.self.inside.kept in
    rw (← c.self.view_is, ← c.index-routine.ensures.same)
    (named_later v k c.self.invariant c.index-routine.result c.next_place.result c.next_place-else-next_place-routine.result c.index-routine.ensures.small
    (next_is v k c.self.invariant c.index-routine.result c.next_place.result (omega (arith, c.index-routine.ensures.small)) c.next_place.ensures) c.if-next_place-routine.false
    (next_is v k c.self.invariant _ c.next_place-else-next_place-routine.result (omega (arith, c.index-routine.ensures.small)) c.next_place-else-next_place-routine.ensures))
