use Rattle.std.proofs.Common.{◌≡◌, ◌∙◌, sym, ap, refl}
use Rattle.wordset.specs.Words.{Words, one, plus, all_words}
use Rattle.wordset.specs.Lanes.{words}
use Rattle.domain.specs.Facts.{Fact}
use Rattle.domain.specs.FactInCode.{fact_in_code}
use Rattle.facts.specs.PlaceInCode.{place_in_code}
use Rattle.std.specs.Prelude.{Option}
use Rattle.domain.specs.Terms.{Term}
use Rattle.domain.specs.FactInCode.{rules_of}
use Rattle.transfer.specs.References.{words_at, operand_term, one_target}
use Rattle.transfer.specs.Outcomes.{tad_by, ac_of, added, added_under}
use Rattle.transfer.specs.Shaped.{term_if}
use Rattle.transfer.proofs.ComesLemmas.{goes_on, both_are, none_after, all_reached}
use Rattle.facts.proofs.place.Place.add.Goals as goal

pub returns-in-OfSums : goal.returns-in-OfSums
returns-in-OfSums g c =
    let pl = (place_in_code c.args.self.now) in
    let f : Fact = (fact_in_code c.args.fact.now) in
    let p : Words = (words c.args.targets.now) in
    let t : Option Term = operand_term pl.declaration c.args.indirect c.args.named p in
    let read : words c.put_words_at.new.place ≡ words_at pl f p = c.put_words_at.ensures in
    let term : term_if c.operand_term-term.result ≡ t = c.operand_term-term.ensures in
    both_are
    (goes_on pl p f all_words (one (plus c.args.at 1)) _
    (c.is_alive-comes.ensures p all_words c.has_some-reached.ensures (all_reached refl)) c.go_to.ensures c.put_words_known.ensures (ap one c.increment.ensures)
    (c.put_added_under.ensures ∙ ap (λ (s : Words). added_under s (term_if c.operand_term-term.result) f 0) read ∙ ap (λ (o : Option Term). added_under (words_at pl f p) o f 0) term))
    (goes_on pl p f all_words (one (plus c.args.at 1)) _
    (c.is_alive-comes-in-OfSums.ensures p all_words c.has_some-reached.ensures (all_reached refl)) c.go_to-in-OfSums.ensures c.put_words_known.ensures (ap one c.increment-in-OfSums.ensures)
    (c.put_added_under-in-OfSums.ensures ∙ ap (λ (s : Words). added_under s (term_if c.operand_term-term.result) f 1) read ∙ ap (λ (o : Option Term). added_under (words_at pl f p) o f 1) term))
    ∙ ap (λ r. tad_by (rules_of r) pl c.args.at f p t) (sym c.in-OfSums.is)

pub returns-in-OfEquations : goal.returns-in-OfEquations
returns-in-OfEquations g c =
    let pl = (place_in_code c.args.self.now) in
    let f : Fact = (fact_in_code c.args.fact.now) in
    let p : Words = (words c.args.targets.now) in
    let t : Option Term = operand_term pl.declaration c.args.indirect c.args.named p in
    let read : words c.put_words_at.new.place ≡ words_at pl f p = c.put_words_at.ensures in
    let held : words c.put_words_known.new.place ≡ ac_of pl f = c.put_words_known.ensures in
    none_after (goes_on pl p f all_words (one (plus c.args.at 1)) _
    (c.is_alive-comes-in-OfEquations.ensures p all_words c.has_some-reached.ensures (all_reached refl)) c.go_to-in-OfEquations.ensures held (ap one c.increment-in-OfEquations.ensures)
    (c.put_added.ensures ∙ ap (λ (s : Words). added s (words c.put_words_at.new.place) (term_if c.one_target.result) f) held
    ∙ ap (λ (s : Words). added (ac_of pl f) s (term_if c.one_target.result) f) read
    ∙ ap (λ (o : Option Term). added (ac_of pl f) (words_at pl f p) o f) (c.one_target.ensures ∙ ap (one_target pl.declaration) c.requires.single))) c.clear.ensures
    ∙ ap (λ r. tad_by (rules_of r) pl c.args.at f p t) (sym c.in-OfEquations.is)
