use Rattle.std.proofs.Common.{◌∙◌, ℕ, sym, subst, map}
use Rattle.std.proofs.lemmas.Bool.{eq-eqb, eqb-true, true≢false}
use Rattle.wordset.specs.Lanes.{words}
use Rattle.wordset.specs.Links.{links_of}
use Rattle.domain.specs.ChainsInCode.{chain_of}
use Rattle.facts.proofs.ShowingLemmas.{none_before, on_item, word_by, words_small, links_small, GivesOn}
use Rattle.facts.specs.Entailment.{EachGives}
use Rattle.facts.proofs.entailment.AllowedValues.permits_word.Goals as goal

pub loop-other-preserved : goal.loop-other-preserved
loop-other-preserved c = none_before chain_of _ _ _ _ c.loop-other-test.true c.other-item.is
    (λ e. true≢false (sym (c.eq.ensures ∙ eq-eqb _ _ (c.cell.ensures ∙ e)) ∙ c.if-eq.false)) c.loop-other.invariant

pub returns-then-eq : goal.returns-then-eq
returns-then-eq c = word_by (words c.args.self.now.accumulators.now) (links_of c.args.self.now.links) (map chain_of c.args.self.now.chains.now) (chain_of c.args.chain.now) c.args.word c.permits_by.result (chain_of c.other-item.result) (words_small _) (links_small _)
    (subst (λ x. (w l : ℕ) → EachGives x c.args.word w l (map chain_of c.args.self.now.chains.now) → GivesOn x c.args.word w l (chain_of c.other-item.result)) c.cell-cell.ensures
    (λ w l. on_item chain_of c.cell-cell.result _ _ _ c.loop-other-test.true c.other-item.is c.loop-other.invariant c.args.word w l))
    (sym c.cell.ensures ∙ eqb-true _ _ (sym c.eq.ensures ∙ c.if-eq.true) ∙ c.cell-cell.ensures) c.permits_by.ensures
