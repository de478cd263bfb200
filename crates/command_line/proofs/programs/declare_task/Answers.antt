use Rattle.command_line.proofs.programs.declare_task.Goals as goal

pub returns : goal.returns
returns c = (
  record { given = c.in_ok-out.ensures.given; apart = rw (← c.requires.given) c.in_ok-out.ensures.free },
  c.in_ok-options.ensures,
  c.refinements_of-refinements.ensures,
)
