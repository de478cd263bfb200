use Rattle.std.proofs.Common.{inr, refl, sym}
use Rattle.command_line.proofs.operands.check_operands.Goals as goal

pub returns-then-lacks_output-clause-refused : goal.returns-then-lacks_output-clause-refused
returns-then-lacks_output-clause-refused c =
    inr ((c.if-lacks_output.ensures refl).0, c.requires.sourced, (c.if-lacks_output.ensures refl).1, (c.if-lacks_output.ensures refl).2)

pub returns-then-has_more_operands-clause-refused : goal.returns-then-has_more_operands-clause-refused
returns-then-has_more_operands-clause-refused c = inr (record {
  sourced = c.requires.sourced;
  operated = c.args.operated;
  operated_is = c.requires.operated;
  more = rw (← c.takes_second.ensures) (sym c.if-has_more_operands.ensures);
})
