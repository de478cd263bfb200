use Rattle.std.proofs.Common.{◌≡◌, ◌∙◌, sym, ap, refl, Some, None}
use Rattle.std.proofs.lemmas.Bool.{eqb-true, eq-eqb}
use Rattle.wordset.specs.Words.{only}
use Rattle.domain.specs.FactInCode.{fact_in_code}
use Rattle.transfer.specs.References.{targets}
use Rattle.facts.specs.PlaceInCode.{place_in_code}
use Rattle.facts.proofs.AskedLemmas.{false_iff}
use Rattle.facts.proofs.AskingLemmas.{counts_in}
use Rattle.facts.proofs.place.Place.counts_its_return.Goals as goal

pub returns-then-not-counts : goal.returns-then-not-counts
returns-then-not-counts g c = false_iff (λ q. sym c.if-not-counts.true ∙ c.counts.ensures ∙ ((counts_in (place_in_code c.args.self.now) (fact_in_code c.args.fact.now) c.args.at c.args.word c.args.entry ((c.is_reference.ensures c.args.at).0 c.if-not-is_reference.false) refl refl).0 q).0)

pub returns-then-not-is_own : goal.returns-then-not-is_own
returns-then-not-is_own g c = false_iff (λ q. sym c.if-not-is_own.true ∙ c.is_own.ensures ∙ ((counts_in (place_in_code c.args.self.now) (fact_in_code c.args.fact.now) c.args.at c.args.word c.args.entry ((c.is_reference.ensures c.args.at).0 c.if-not-is_reference.false) refl refl).0 q).1)

pub returns-then-not-may_count : goal.returns-then-not-may_count
returns-then-not-may_count g c = false_iff (λ q. sym c.if-not-may_count.true ∙ c.may_count.ensures.1 ((counts_in (place_in_code c.args.self.now) (fact_in_code c.args.fact.now) c.args.at c.args.word c.args.entry ((c.is_reference.ensures c.args.at).0 c.if-not-is_reference.false) refl refl).0 q).3)

pub returns-in-Some : goal.returns-in-Some
returns-in-Some g c =
    let parts = counts_in (place_in_code c.args.self.now) (fact_in_code c.args.fact.now) c.args.at c.args.word c.args.entry ((c.is_reference.ensures c.args.at).0 c.if-not-is_reference.false) c.refers_indirectly.ensures c.target.ensures in
    let one : Some c.in-Some.cell ≡ only (targets (place_in_code c.args.self.now) c.refers_indirectly.result c.target.result (fact_in_code c.args.fact.now)) = c.in-Some.ensures ∙ ap only c.put_targets.ensures in (
      λ t. parts.1 (
        sym c.counts.ensures ∙ c.if-not-counts.false,
        sym c.is_own.ensures ∙ c.if-not-is_own.false,
        sym one ∙ ap (λ n. Some n) (eqb-true _ _ (sym c.eq.ensures ∙ t)),
        c.may_count.ensures.0 c.if-not-may_count.false,
      ),
      λ q. c.eq.ensures ∙ eq-eqb _ _ (let z : Some c.in-Some.cell ≡ Some c.args.entry = one ∙ (parts.0 q).2 in cc),
    )

pub returns-in-None : goal.returns-in-None
returns-in-None g c = false_iff (λ q. absurd (let z : None ≡ Some c.args.entry = c.in-None.ensures ∙ ap only c.put_targets.ensures ∙
    ((counts_in (place_in_code c.args.self.now) (fact_in_code c.args.fact.now) c.args.at c.args.word c.args.entry ((c.is_reference.ensures c.args.at).0 c.if-not-is_reference.false) c.refers_indirectly.ensures c.target.ensures).0 q).2 in cc))
