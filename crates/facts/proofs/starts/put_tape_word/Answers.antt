use Rattle.std.proofs.Common.{◌∙◌, ap}
use Rattle.domain.specs.Locations.{tape_word}
use Rattle.facts.proofs.starts.put_tape_word.Goals as goal

pub returns-in-None : goal.returns-in-None
returns-in-None c = c.all.ensures ∙ ap tape_word c.in-None.ensures

pub returns-in-Some : goal.returns-in-Some
returns-in-Some c = c.one.ensures ∙ ap tape_word c.in-Some.ensures
