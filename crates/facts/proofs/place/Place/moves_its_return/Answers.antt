use Rattle.std.proofs.Common.{◌≡◌, ◌∙◌, sym, subst, refl}
use Rattle.std.specs.Prelude.{IsTrue, ◌↔◌}
use Rattle.wordset.specs.Words.{Words}
use Rattle.domain.specs.FactInCode.{fact_in_code}
use Rattle.facts.specs.Conditions.{AreInReach}
use Rattle.facts.specs.PlaceInCode.{place_in_code}
use Rattle.facts.proofs.AskedLemmas.{false_iff}
use Rattle.facts.proofs.AskingLemmas.{moves_in}
use Rattle.facts.proofs.place.Place.moves_its_return.Goals as goal

pub returns-then-not-deposits : goal.returns-then-not-deposits
returns-then-not-deposits g c = false_iff (λ q. sym c.if-not-deposits.true ∙ c.deposits.ensures ∙ ((moves_in (place_in_code c.args.self.now) (fact_in_code c.args.fact.now) c.args.at c.args.word c.args.entry ((c.is_reference.ensures c.args.at).0 c.if-not-is_reference.false) refl refl).0 q).0)

pub returns-then-refers_indirectly : goal.returns-then-refers_indirectly
returns-then-refers_indirectly g c = false_iff (λ q. sym (sym c.if-refers_indirectly.true ∙ c.refers_indirectly.ensures ∙ ((moves_in (place_in_code c.args.self.now) (fact_in_code c.args.fact.now) c.args.at c.args.word c.args.entry ((c.is_reference.ensures c.args.at).0 c.if-not-is_reference.false) refl refl).0 q).1))

pub returns-then-not-is_own : goal.returns-then-not-is_own
returns-then-not-is_own g c = false_iff (λ q. sym c.if-not-is_own.true ∙ c.is_own.ensures ∙ ((moves_in (place_in_code c.args.self.now) (fact_in_code c.args.fact.now) c.args.at c.args.word c.args.entry ((c.is_reference.ensures c.args.at).0 c.if-not-is_reference.false) refl refl).0 q).2)

pub returns-then-not-may_move : goal.returns-then-not-may_move
returns-then-not-may_move g c = false_iff (λ q. sym c.if-not-may_move.true ∙ c.may_move.ensures ∙ ((moves_in (place_in_code c.args.self.now) (fact_in_code c.args.fact.now) c.args.at c.args.word c.args.entry ((c.is_reference.ensures c.args.at).0 c.if-not-is_reference.false) refl refl).0 q).3)

pub returns : goal.returns
returns g c =
    let parts = moves_in (place_in_code c.args.self.now) (fact_in_code c.args.fact.now) c.args.at c.args.word c.args.entry ((c.is_reference.ensures c.args.at).0 c.if-not-is_reference.false) c.refers_indirectly.ensures refl in
    let reach : IsTrue c.are_in_reach.result ↔ AreInReach (fact_in_code c.args.fact.now) _ = subst (λ (w : Words). IsTrue c.are_in_reach.result ↔ AreInReach (fact_in_code c.args.fact.now) w) c.put_words_known.ensures c.are_in_reach.ensures in (
      λ t. parts.1 (
        sym c.deposits.ensures ∙ c.if-not-deposits.false,
        c.if-refers_indirectly.false,
        sym c.is_own.ensures ∙ c.if-not-is_own.false,
        sym c.may_move.ensures ∙ c.if-not-may_move.false,
        reach.0 t,
      ),
      λ q. reach.1 (parts.0 q).4,
    )
