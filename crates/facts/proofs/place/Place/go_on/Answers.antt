use Rattle.std.proofs.Common.{refl}
use Rattle.wordset.specs.Words.{one, all_words}
use Rattle.facts.specs.PlaceInCode.{place_in_code}
use Rattle.transfer.proofs.ComesLemmas.{goes_on, all_reached}
use Rattle.facts.proofs.place.Place.go_on.Goals as goal

pub returns : goal.returns
returns g c = λ f h. goes_on (place_in_code c.args.self.now) all_words f all_words (one c.args.next) _
    (c.is_alive-comes.ensures all_words all_words (all_reached refl) (all_reached refl)) c.go_to.ensures h refl refl
