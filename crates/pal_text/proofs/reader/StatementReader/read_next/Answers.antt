use Rattle.pal_text.proofs.Nexts.{piece_left}
use Rattle.pal_text.proofs.reader.StatementReader.read_next.Goals as goal

pub returns-in-Err-clause-open : goal.returns-in-Err-clause-open
returns-in-Err-clause-open g c = rw (← c.self.view_is) (piece_left c.self.inside.source.now c.self.inside.count c.self.inside.standing c.self.invariant.1)
