use Rattle.std.proofs.Common.{◌*◌, ◌%◌, ◌∙◌, ap, sym}
use Rattle.wordset.specs.Words.{SameWords, shifted}
use Rattle.wordset.specs.Lanes.{words}
use Rattle.domain.specs.LocationsInCode.{location_of}
use Rattle.domain.specs.Terms.{sum_of_name}
use Rattle.domain.specs.Facts.{Fact, OfSums}
use Rattle.domain.specs.Adding.{adding, differences, times}
use Rattle.domain.specs.FactInCode.{fact_in_code}
use Rattle.domain.proofs.EquationLemmas.{first_of_equation, second_of_equation, parts_of_difference}
use Rattle.domain.proofs.sum_fact.SumFact.keep_for_equation.Goals as goal

pub returns : goal.returns
returns g c = λ image set f e h.
    let own : Fact = fact_in_code c.args.self.now in
    let first : Fact = adding OfSums (record { sum = sum_of_name (location_of c.args.left.now); set = λ v. differences set (times 4095 (own.set (location_of c.args.right.now))) ((1 * v) % 4096) }) f in
    let back : SameWords (λ v. differences set (times 1 (own.set (location_of c.args.left.now))) ((4095 * v) % 4096)) (shifted (own.set (location_of c.args.left.now)) c.negated.result) =
    λ v l. second_of_equation set (own.set (location_of c.args.left.now)) c.args.by e v l ∙ ap (λ k. shifted (own.set (location_of c.args.left.now)) k v) (sym c.negated.ensures) in
    c.keep_moved-2.ensures first (λ v. differences set (times 1 (own.set (location_of c.args.left.now))) ((4095 * v) % 4096)) back
    (c.keep_moved.ensures f (λ v. differences set (times 4095 (own.set (location_of c.args.right.now))) ((1 * v) % 4096)) (first_of_equation set (own.set (location_of c.args.right.now)) c.args.by e) h)
    ∙ ap (λ (x : Fact). x.set (location_of c.args.name.now)) (parts_of_difference image own f (location_of c.args.left.now) (location_of c.args.right.now) set)
