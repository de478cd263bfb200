use Rattle.std.proofs.Common.{◌∙◌, ap}
use Rattle.wordset.specs.Words.{union}
use Rattle.wordset.specs.Links.{links_of}
use Rattle.wordset.proofs.links.Links.with.Goals as goal

pub returns : goal.returns
returns c = c.union.ensures ∙ ap (union (links_of c.args.self)) c.one.ensures
