use Rattle.std.proofs.Common.{◌≡◌, drop}
use Rattle.pal_text.specs.Statements.{last_end}
use Rattle.pal_text.proofs.statement.end_of.Given as goal

abbrev pub invariant-loop-token : goal.invariant-loop-token
invariant-loop-token l = last_end l.otherwise l.tokens ≡ last_end l.end (drop l.token-index l.tokens)
