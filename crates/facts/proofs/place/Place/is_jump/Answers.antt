use Rattle.std.proofs.Common.{◌≡◌, false, refl}
use Rattle.facts.specs.Instructions.{is_jump}
use Rattle.facts.specs.PlaceInCode.{place_in_code}
use Rattle.facts.proofs.AskedLemmas.{no_reference, unless_memory, jump_if}
use Rattle.facts.proofs.place.Place.is_jump.Goals as goal

pub returns-then-not-is_reference : goal.returns-then-not-is_reference
returns-then-not-is_reference g c = λ at. unless_memory (λ m. false ≡ is_jump m) (λ w. refl) (λ w. refl) (λ o. refl) (λ d. refl) refl _ (no_reference c.if-not-is_reference.true (c.is_reference.ensures at))

pub returns : goal.returns
returns g c = λ at. jump_if _ (place_in_code c.args.self.now) at c.args.word ((c.is_reference.ensures at).0 c.if-not-is_reference.false) c.is_jmp.ensures
