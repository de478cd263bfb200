use Rattle.std.proofs.Common.{◌≡◌, ℕ, drop, subst, arith}
use Rattle.certificate_lines.specs.CertificateInCode.{claims, exits_from}
use Rattle.judge.proofs.ClaimsLemmas.{is_next, passed, has_shape_too}
use Rattle.judge.proofs.claims.CertificateClaims.put_exit.Goals as goal

pub loop-before-init : goal.loop-before-init
loop-before-init g c = record { few = omega arith; stands = c.exits_from-line.ensures.stands; rest = c.exits_from-line.ensures.all }

pub loop-before-preserved : goal.loop-before-preserved
loop-before-preserved g c = record { few = omega (arith, c.loop-before-test.true); stands = c.skip_exit-is_passed.ensures.stands; rest = passed ((claims c.args.self.now).exits c.args.entry c.args.offset) _ _ c.loop-before._before c.skip_exit-is_passed.result (omega (arith, c.requires.index, c.loop-before-test.true)) c.loop-before.invariant.rest c.skip_exit-is_passed.ensures.none c.skip_exit-is_passed.ensures.next }

pub skip_exit-is_passed-requires-clause-stands : goal.skip_exit-is_passed-requires-clause-stands
skip_exit-is_passed-requires-clause-stands g c = c.loop-before.invariant.stands

pub next_exit-is_there-requires-clause-stands : goal.next_exit-is_there-requires-clause-stands
next_exit-is_there-requires-clause-stands g c = c.loop-before.invariant.stands

pub returns-clause-fact : goal.returns-clause-fact
returns-clause-fact g c = (is_next ((claims c.args.self.now).exits c.args.entry c.args.offset) _ _ c.args.index c.next_exit-is_there.result _ c.requires.index (subst (λ (i : ℕ). exits_from c.args.self.now c.loop-before.line c.args.entry c.args.offset ≡ drop i ((claims c.args.self.now).exits c.args.entry c.args.offset)) (omega (arith, c.loop-before-test.false, c.loop-before.invariant.few)) c.loop-before.invariant.rest) c.next_exit-is_there.ensures.none c.next_exit-is_there.ensures.next).1

pub returns-clause-shape : goal.returns-clause-shape
returns-clause-shape g c = has_shape_too _ (c.next_exit-is_there.ensures.shape (is_next ((claims c.args.self.now).exits c.args.entry c.args.offset) _ _ c.args.index c.next_exit-is_there.result _ c.requires.index (subst (λ (i : ℕ). exits_from c.args.self.now c.loop-before.line c.args.entry c.args.offset ≡ drop i ((claims c.args.self.now).exits c.args.entry c.args.offset)) (omega (arith, c.loop-before-test.false, c.loop-before.invariant.few)) c.loop-before.invariant.rest) c.next_exit-is_there.ensures.none c.next_exit-is_there.ensures.next).0)
