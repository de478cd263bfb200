use Rattle.declaration.specs.Drafts.{gathered}
use Rattle.declaration.proofs.RuleLemmas.{entry_in_index_found}
use Rattle.wordset.proofs.SetLemmas.{same_words}
use Rattle.declaration.proofs.drafts.Draft.entries_in_index.Goals as goal

pub returns : goal.returns
returns g c = λ v h. rw (same_words c.meet.ensures v h) (entry_in_index_found (gathered c.args.self.now) c.args.entries.now c.index_cells.result v c.requires (c.index_cells.ensures v h))
