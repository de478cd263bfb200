use Rattle.command_line.proofs.operands.tape_operands.Goals as goal

pub returns : goal.returns
returns c = (c.requires, c.operand_of.ensures, c.tape_declaration.ensures, c.tape_last.ensures)
