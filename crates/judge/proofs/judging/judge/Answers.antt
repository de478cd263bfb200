use Rattle.std.proofs.Common.{◌≡◌, ◌∙◌, sym, subst}
use Rattle.std.proofs.lemmas.Bool.{true≢false}
use Rattle.judge.specs.Landing.{Case}
use Rattle.judge.specs.Conditions.{IsFirst, IsValid}
use Rattle.judge.specs.Asked.{HoldsBetween}
use Rattle.judge.specs.Judged.{judged}
use Rattle.facts.specs.declared.Condition.TheVariants.{V1}
use Rattle.certificate_lines.specs.Certificate.{claimed, names_routine}
use Rattle.facts.proofs.EachLemmas.{one_more}
use Rattle.judge.proofs.OrderLemmas.{is_valid, first_at, first_at_start, before, all_hold, is_named, named_later}
use Rattle.judge.proofs.Legal.{runs_are_safe}
use Rattle.judge.proofs.Worlds.{events_are_safe}
use Rattle.judge.proofs.judging.judge.Goals as goal

pub returns-then-not-starts_well-clause-exact : goal.returns-then-not-starts_well-clause-exact
returns-then-not-starts_well-clause-exact g c =
    let j : Case = (judged c.args.image.now c.args.declaration.now (g.C.Claims.claims c.args.claims.now)) in
    subst (λ a. IsFirst j V1 a) (sym c.start.ensures) (first_at_start j (λ s. true≢false (sym (c.starts_well.ensures.starts.1 s) ∙ c.if-not-starts_well.true)))

pub returns-in-Err-clause-exact : goal.returns-in-Err-clause-exact
returns-in-Err-clause-exact g c =
    let j : Case = (judged c.args.image.now c.args.declaration.now (g.C.Claims.claims c.args.claims.now)) in
    first_at j c.in-Err.condition c.in-Some.address (c.starts_well.ensures.starts.0 c.if-not-starts_well.false) c.in-Some.ensures.small
    (λ b under line. before j c.loop-address.next c.in-Some.address c.in-Some.ensures c.loop-address.invariant.0 b under line)
    c.in-Err.ensures.checked

pub check_at-requires-clause-named : goal.check_at-requires-clause-named
check_at-requires-clause-named g c = is_named (g.C.Claims.claims c.args.claims.now) c.loop-address.next c.in-Some.address c.loop-address.named c.is_of-is_named.result
    c.in-Some.ensures c.loop-address.invariant.2 c.is_of-is_named.ensures

pub loop-address-preserved-then-is_named : goal.loop-address-preserved-then-is_named
loop-address-preserved-then-is_named g c =
    let j : Case = (judged c.args.image.now c.args.declaration.now (g.C.Claims.claims c.args.claims.now)) in
    (one_more (λ a. HoldsBetween j 1 16 a) (claimed j.certificate) _ c.in-Some.ensures c.index-next.ensures.same c.in_default-check_at.ensures.checked c.loop-address.invariant.0, c.check_at.ensures.body, c.next_named-named-then-is_named.ensures, c.check_at.ensures.even, c.check_at.ensures.odd)

pub loop-address-preserved : goal.loop-address-preserved
loop-address-preserved g c =
    let j : Case = (judged c.args.image.now c.args.declaration.now (g.C.Claims.claims c.args.claims.now)) in
    let named : c.is_of-is_named.result ≡ names_routine j.certificate c.in-Some.address =
    is_named j.certificate c.loop-address.next c.in-Some.address c.loop-address.named c.is_of-is_named.result c.in-Some.ensures c.loop-address.invariant.2 c.is_of-is_named.ensures in (
      one_more (λ a. HoldsBetween j 1 16 a) (claimed j.certificate) _ c.in-Some.ensures c.index-next.ensures.same c.in_default-check_at.ensures.checked c.loop-address.invariant.0,
      c.check_at.ensures.body,
      named_later j.certificate c.loop-address.next c.in-Some.address c.index-next.result c.loop-address.named c.in-Some.ensures c.index-next.ensures.same c.loop-address.invariant.2 (sym named ∙ c.if-is_named.false),
      c.check_at.ensures.even,
      c.check_at.ensures.odd,
    )

pub returns-clause-exact : goal.returns-clause-exact
returns-clause-exact g c =
    let j : Case = (judged c.args.image.now c.args.declaration.now (g.C.Claims.claims c.args.claims.now)) in
    is_valid j (c.starts_well.ensures.starts.0 c.if-not-starts_well.false) (all_hold j c.loop-address.next c.in_default.ensures c.loop-address.invariant.0)

pub returns-clause-safe : goal.returns-clause-safe
returns-clause-safe g c =
    let j : Case = (judged c.args.image.now c.args.declaration.now (g.C.Claims.claims c.args.claims.now)) in
    let valid : IsValid j = is_valid j (c.starts_well.ensures.starts.0 c.if-not-starts_well.false) (all_hold j c.loop-address.next c.in_default.ensures c.loop-address.invariant.0) in
    record { runs = runs_are_safe j c.is_declared.ensures valid; events = events_are_safe j c.is_declared.ensures valid }
