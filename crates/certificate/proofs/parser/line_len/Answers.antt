use Rattle.std.proofs.Common.{length, arith}
use Rattle.std.proofs.lemmas.Bool.{eq-eqb}
use Rattle.certificate.proofs.ServedLemmas.{no_feed_before}
use Rattle.certificate.proofs.parser.line_len.Goals as goal

pub returns-in-Some-clause-front : goal.returns-in-Some-clause-front
returns-in-Some-clause-front c =
    no_feed_before c.args.bytes.now c.in-Some.end (λ k h e. c.in-Some.ensures.0.before k (omega arith) h (eq-eqb _ 10 e))

pub returns-in-None-clause-front : goal.returns-in-None-clause-front
returns-in-None-clause-front c =
    no_feed_before c.args.bytes.now (length c.args.bytes.now) (λ k h e. c.in-None.ensures k (omega arith) h (eq-eqb _ 10 e))
