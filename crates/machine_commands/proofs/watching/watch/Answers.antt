use Rattle.declaration.specs.DeclarationInCode.{meaning}
use Rattle.command_parts.proofs.AnswerLemmas.{delivered, delivers_by, nothing_written, three_good, three_refused}
use Rattle.machine_commands.proofs.watching.watch.Goals as goal

pub returns-in-Err-clause-reads : goal.returns-in-Err-clause-reads
returns-in-Err-clause-reads g c = three_refused c.in-Err.ensures.reads

pub returns-in-Err-clause-watched : goal.returns-in-Err-clause-watched
returns-in-Err-clause-watched g c = nothing_written c.in-Err.fault c.requires.writable c.in-Err.ensures.unwritten

pub returns-in-Ok-clause-reads : goal.returns-in-Ok-clause-reads
returns-in-Ok-clause-reads g c = three_good c.deliver.result (delivers_by _ c.watched_run.result c.deliver.result c.watched_run.ensures.faults c.deliver.ensures.faults) c.in-Ok.ensures.reads

pub returns-in-Ok-clause-watched : goal.returns-in-Ok-clause-watched
returns-in-Ok-clause-watched g c =
    delivered c.watched_run.result c.watched_run.ensures.told
    (λ status text is. record {
      image = c.in-Ok.given.program.image;
      tape = c.in-Ok.ensures.image;
      declaration = meaning c.in-Ok.given.program.declaration;
      declares = c.in-Ok.ensures.declares;
      events = c.in-Ok.given.events.items;
      spells = c.in-Ok.ensures.spells;
      is = is;
    })
    c.deliver.ensures.writes
