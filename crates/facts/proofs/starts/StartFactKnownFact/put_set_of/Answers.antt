use Rattle.std.proofs.Common.{sym, ◌∙◌, refl}
use Rattle.std.proofs.lemmas.Bool.{true≢false}
use Rattle.wordset.specs.Lanes.{words}
use Rattle.peripherals.specs.Loading.{image_of}
use Rattle.domain.specs.LocationsInCode.{location_of}
use Rattle.facts.proofs.BeginningLemmas.{chosen_there}
use Rattle.facts.proofs.starts.StartFactKnownFact.put_set_of.Goals as goal

pub returns-then-is_same_location : goal.returns-then-is_same_location
returns-then-is_same_location c =
    chosen_there (image_of c.args.self.now.image.now) (location_of c.args.self.now.name) (location_of c.args.name.now) (words c.args.self.now.set) _ c.is_same_location.result
    c.is_same_location.ensures (λ e. refl) (λ e. absurd (true≢false (sym c.if-is_same_location.true ∙ e)))

pub returns-else-is_same_location : goal.returns-else-is_same_location
returns-else-is_same_location c =
    chosen_there (image_of c.args.self.now.image.now) (location_of c.args.self.now.name) (location_of c.args.name.now) (words c.args.self.now.set) _ c.is_same_location.result
    c.is_same_location.ensures (λ e. absurd (true≢false (sym e ∙ c.if-is_same_location.false))) (λ e. c.put_words_at_start.ensures)
