use Rattle.command_line.proofs.TaskLemmas.{listed}
use Rattle.command_line.proofs.programs.task_of.Goals as goal

pub returns-in-Watch : goal.returns-in-Watch
returns-in-Watch c = listed c.args.called c.args.found.now c.args.operands.now c.args.followed c.name_or_input.result c.in-Watch.is c.requires.operated c.name_or_input.ensures
