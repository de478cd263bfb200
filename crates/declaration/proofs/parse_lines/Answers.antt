use Rattle.declaration.specs.DeclarationInCode.{meaning, routines_of}
use Rattle.declaration.specs.Drafts.{gathered}
use Rattle.declaration.proofs.ReadingLemmas.{found_whole, listed_whole, refused_whole}
use Rattle.declaration.proofs.parse_lines.Goals as goal

pub returns-in-Ok-clause-found : goal.returns-in-Ok-clause-found
returns-in-Ok-clause-found g c = found_whole meaning c.finish.result c.args.text.now (gathered c.in-Ok.draft) c.in-Ok.ensures.found c.finish.ensures.found

pub returns-in-Ok-clause-routines : goal.returns-in-Ok-clause-routines
returns-in-Ok-clause-routines g c = listed_whole routines_of c.finish.result c.args.text.now (gathered c.in-Ok.draft) c.in-Ok.ensures.found c.finish.ensures.routines

pub returns-in-Ok-clause-refused : goal.returns-in-Ok-clause-refused
returns-in-Ok-clause-refused g c = refused_whole c.finish.result c.args.text.now (gathered c.in-Ok.draft) c.in-Ok.ensures.found c.finish.ensures.broken
