use Rattle.std.proofs.Common.{ℕ, ◌||◌, ap, ◌∙◌}
use Rattle.std.specs.Prelude.{Option}
use Rattle.wordset.specs.Lanes.{words}
use Rattle.domain.specs.Locations.{tape_word}
use Rattle.domain.proofs.SetLemmas.{all_or}
use Rattle.domain.proofs.sets.add_start.Goals as goal

pub returns-in-None : goal.returns-in-None
returns-in-None c = λ v. ap (λ t. t v) c.all.ensures ∙ all_or c.args.set.now v ∙ ap (λ (o : Option ℕ). words c.args.set.now v || tape_word o v) c.in-None.ensures
