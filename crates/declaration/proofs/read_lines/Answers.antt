use Rattle.declaration.specs.Drafts.{gathered}
use Rattle.declaration.proofs.ReadingLemmas.{all_taken, first_refused}
use Rattle.declaration.proofs.read_lines.Goals as goal

pub returns-in-Ok-clause-found : goal.returns-in-Ok-clause-found
returns-in-Ok-clause-found g c = all_taken gathered c.new-draft.result c.take_lines.new.taker c.args.text.now c.requires c.new-draft.ensures c.in-Ok.ensures.taken

pub returns-in-Err-clause-refused : goal.returns-in-Err-clause-refused
returns-in-Err-clause-refused g c = first_refused gathered c.new-draft.result c.take_lines.new.taker c.args.text.now c.in-Err.fault c.requires c.new-draft.ensures c.in-Err.ensures.refused
