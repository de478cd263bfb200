use Rattle.std.proofs.Common.{rules}
use Rattle.command_line.proofs.operator.is_watched_with_operator.Goals as goal

pub returns-then-named : goal.returns-then-named
returns-then-named c = record {
  mark = c.is_given-mark.result;
  flag = c.is_given-mark.ensures;
  any = search rules;
}

pub returns-else-named : goal.returns-else-named
returns-else-named c = record {
  mark = c.is_given-mark.result;
  flag = c.is_given-mark.ensures;
  any = search rules;
}
