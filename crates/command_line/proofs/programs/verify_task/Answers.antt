use Rattle.command_line.proofs.programs.verify_task.Goals as goal

pub returns : goal.returns
returns c = (rw c.is_none.ensures c.in_ok-save.ensures.given, c.in_ok-options.ensures, rw (← c.requires) c.in_ok-save.ensures.free)
