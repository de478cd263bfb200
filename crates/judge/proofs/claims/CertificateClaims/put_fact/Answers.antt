use Rattle.std.proofs.Common.{◌≡◌, ℕ, drop, subst, arith}
use Rattle.certificate_lines.specs.CertificateInCode.{claims, facts_from}
use Rattle.judge.proofs.ClaimsLemmas.{is_next, passed, has_shape_too}
use Rattle.judge.proofs.claims.CertificateClaims.put_fact.Goals as goal

pub loop-before-init : goal.loop-before-init
loop-before-init g c = record { few = omega arith; stands = c.facts_from-line.ensures.stands; rest = c.facts_from-line.ensures.all }

pub loop-before-preserved : goal.loop-before-preserved
loop-before-preserved g c = record { few = omega (arith, c.loop-before-test.true); stands = c.skip_fact-is_passed.ensures.stands; rest = passed ((claims c.args.self.now).facts c.args.at) _ _ c.loop-before._before c.skip_fact-is_passed.result (omega (arith, c.requires, c.loop-before-test.true)) c.loop-before.invariant.rest c.skip_fact-is_passed.ensures.none c.skip_fact-is_passed.ensures.next }

pub skip_fact-is_passed-requires : goal.skip_fact-is_passed-requires
skip_fact-is_passed-requires g c = c.loop-before.invariant.stands

pub next_fact-is_there-requires : goal.next_fact-is_there-requires
next_fact-is_there-requires g c = c.loop-before.invariant.stands

pub returns-clause-fact : goal.returns-clause-fact
returns-clause-fact g c = (is_next ((claims c.args.self.now).facts c.args.at) _ _ c.args.index c.next_fact-is_there.result _ c.requires (subst (λ (i : ℕ). facts_from c.args.self.now c.loop-before.line c.args.at ≡ drop i ((claims c.args.self.now).facts c.args.at)) (omega (arith, c.loop-before-test.false, c.loop-before.invariant.few)) c.loop-before.invariant.rest) c.next_fact-is_there.ensures.none c.next_fact-is_there.ensures.next).1

pub returns-clause-shape : goal.returns-clause-shape
returns-clause-shape g c = has_shape_too _ (c.next_fact-is_there.ensures.shape (is_next ((claims c.args.self.now).facts c.args.at) _ _ c.args.index c.next_fact-is_there.result _ c.requires (subst (λ (i : ℕ). facts_from c.args.self.now c.loop-before.line c.args.at ≡ drop i ((claims c.args.self.now).facts c.args.at)) (omega (arith, c.loop-before-test.false, c.loop-before.invariant.few)) c.loop-before.invariant.rest) c.next_fact-is_there.ensures.none c.next_fact-is_there.ensures.next).0)
