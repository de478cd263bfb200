use Rattle.std.proofs.Common.{sym, inr}
use Rattle.search_commands.proofs.KeepingLemmas.{same_line}
use Rattle.search_commands.proofs.keeping.keeps_line.Goals as goal

pub returns-then-is_same : goal.returns-then-is_same
returns-then-is_same c = λ done. same_line c.args.old.now c.args.new.now (sym c.if-is_same.ensures)

pub returns : goal.returns
returns c = λ done. inr (c.is_routine_line.ensures c.if-not-is_routine_line.false, rw (c.without_return.ensures, c.without_return-2.ensures) at (c.grows.ensures done))
