use Rattle.std.proofs.Common.{arith}
use Rattle.declaration.specs.DeclarationInCode.{meaning as declared}
use Rattle.certificate_lines.specs.CertificateInCode.{claims}
use Rattle.analyser.specs.Attempts.{StandsRight}
use Rattle.analyser.proofs.DraftLemmas.{one_more}
use Rattle.analyser.proofs.draft.is_draft.Goals as goal

pub loop-index-preserved : goal.loop-index-preserved
loop-index-preserved g c =
    one_more (StandsRight (declared c.args.declaration.now) (claims c.args.draft.now)) c.loop-index.index c.from_index.result c.loop-index.invariant c.from_index.ensures
    (c.stands_right.ensures c.if-not-stands_right.false)

pub returns : goal.returns
returns g c = λ yes. record {
  stands = λ a lt. c.loop-index.invariant a (omega (arith, c.loop-index-test.false));
  there = c.has_any_at.ensures yes;
}
