use Rattle.std.proofs.Common.{rules}
use Rattle.command_line.proofs.operator.has_operator.Goals as goal

pub returns-then-mark : goal.returns-then-mark
returns-then-mark c = record {
  mark = c.is_given-mark.result;
  mark_is = c.is_given-mark.ensures;
  teletype = c.is_given-teletype.result;
  teletype_is = c.is_given-teletype.ensures;
  any = search rules;
}

pub returns-else-mark : goal.returns-else-mark
returns-else-mark c = record {
  mark = c.is_given-mark.result;
  mark_is = c.is_given-mark.ensures;
  teletype = c.is_given-teletype.result;
  teletype_is = c.is_given-teletype.ensures;
  any = search rules;
}
