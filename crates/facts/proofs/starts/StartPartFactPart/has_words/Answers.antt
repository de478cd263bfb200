use Rattle.facts.proofs.BeginningLemmas.{start_beyond, start_words}
use Rattle.facts.proofs.starts.StartPartFactPart.has_words.Goals as goal

pub returns-clause-beyond : goal.returns-clause-beyond
returns-clause-beyond c = start_beyond c.args.self.now.image.now

pub returns-clause-words : goal.returns-clause-words
returns-clause-words c = start_words c.args.self.now.image.now c.look_into.ensures
