use Rattle.certificate.proofs.SumParserLemmas.{first_refused}
use Rattle.certificate.proofs.parser.take_first.Goals as goal

pub returns-in-None-clause-taken : goal.returns-in-None-clause-taken
returns-in-None-clause-taken c = λ kept text bytes h small.
    first_refused kept text c.args.line.now bytes h small (λ v e. absurd (let z = c.in-None.ensures.only v e in cc))
