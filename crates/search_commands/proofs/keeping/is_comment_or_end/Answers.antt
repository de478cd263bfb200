use Rattle.std.proofs.lemmas.Bool.{eqb-true}
use Rattle.search_commands.proofs.KeepingLemmas.{comment_left, nothing_left}
use Rattle.search_commands.proofs.keeping.is_comment_or_end.Goals as goal

pub returns-in-Some : goal.returns-in-Some
returns-in-Some c = λ found. comment_left c.args.left.now c.in-Some.field-0-1.now c.in-Some.first.now c.in-Some.ensures.cases.0 (eqb-true _ 47 found)

pub returns-in-None : goal.returns-in-None
returns-in-None c = λ done. nothing_left c.args.left.now c.in-None.ensures.cases
