use Rattle.std.proofs.Common.{◌∙◌, sym, Bool, ap, refl, subst, arith, lit<}
use Rattle.wordset.specs.Words.{one, only}
use Rattle.domain.specs.Facts.{Fact}
use Rattle.domain.specs.ChainsInCode.{AreShort}
use Rattle.transfer.specs.Shaped.{HaveFewTerms}
use Rattle.facts.proofs.CountedLemmas.{few_moved, short_counted}
use Rattle.domain.specs.FactInCode.{fact_in_code}
use Rattle.transfer.specs.References.{targets}
use Rattle.facts.specs.PlaceInCode.{place_in_code}
use Rattle.transfer.specs.OutcomesInCode.{outcome_in}
use Rattle.transfer.proofs.ComesLemmas.{none_behind}
use Rattle.facts.proofs.place.Place.refer.Goals as goal

pub returns-then-steps_pointer : goal.returns-then-steps_pointer
returns-then-steps_pointer g c = none_behind (outcome_in c.refer_to.new.first) (outcome_in c.refer_to.new.second) (c.refer_to.ensures (fact_in_code c.args.fact.now)
    (rw (← c.refers_indirectly-indirect.ensures, ← c.target-named.ensures, sym c.steps_pointer.ensures ∙ c.if-steps_pointer.true) c.put_counted.ensures.fact)
    (rw (← c.refers_indirectly-indirect.ensures, ← c.target-named.ensures) c.put_targets.ensures)) c.clear.ensures c.clear-2.ensures

pub returns : goal.returns
returns g c = none_behind (outcome_in c.refer_to-2.new.first) (outcome_in c.refer_to-2.new.second) (c.refer_to-2.ensures (fact_in_code c.args.fact.now)
    (rw (← c.refers_indirectly-indirect.ensures, ← c.target-named.ensures, sym c.steps_pointer.ensures ∙ c.if-steps_pointer.false) refl)
    (rw (← c.refers_indirectly-indirect.ensures, ← c.target-named.ensures) c.put_targets.ensures)) c.clear.ensures c.clear-2.ensures

pub single_target-single-requires : goal.single_target-single-requires
single_target-single-requires g c = λ direct. c.put_targets.ensures ∙ ap (λ (b : Bool). targets (place_in_code c.args.self.now) b c.target-named.result (fact_in_code c.args.fact.now)) direct

pub refer_to-requires : goal.refer_to-requires
refer_to-requires g c = (
  lit< tt,
  (
    c.single_target-single.ensures,
    (
      omega (arith, c.put_counted.ensures.cells, c.requires.cells),
      (
        omega (arith, c.put_counted.ensures.relations, c.requires.relations),
        (
          omega (arith, c.put_counted.ensures.relations, c.put_counted.ensures.chains, c.requires.chains),
          (
            subst (λ (f : Fact). HaveFewTerms f.relations) (sym c.put_counted.ensures.fact) (few_moved c.target-named.result (one 1) (only (one 1)) (fact_in_code c.args.fact.now).relations c.requires.terms),
            subst (λ (f : Fact). AreShort f.chains) (sym c.put_counted.ensures.fact) (short_counted c.target-named.result 1 (fact_in_code c.args.fact.now).chains c.requires.short),
          ),
        ),
      ),
    ),
  ),
)
