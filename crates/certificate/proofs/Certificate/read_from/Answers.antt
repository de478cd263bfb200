use Rattle.certificate_lines.specs.Serving.{AsksForMemory, IsUnanswered}
use Rattle.certificate.proofs.SumServedLemmas.{gave, serves_read, serves_refused}
use Rattle.certificate.proofs.Certificate.read_from.Goals as goal

pub returns-clause-read : goal.returns-clause-read
returns-clause-read g c = serves_read _ _ c.read_source.result c.read_source.ensures.serves

pub returns-clause-refused : goal.returns-clause-refused
returns-clause-refused g c = serves_refused _ _ c.read_source.result c.read_source.ensures.serves

pub returns-clause-unanswered : goal.returns-clause-unanswered
returns-clause-unanswered g c = λ e.
    gave _ _ c.read_source.result c.read_source.ensures.serves IsUnanswered (rw e at c.read_source.ensures.serves.answer)

pub returns-clause-memory : goal.returns-clause-memory
returns-clause-memory g c = λ e.
    gave _ _ c.read_source.result c.read_source.ensures.serves AsksForMemory (rw e at c.read_source.ensures.serves.answer)
