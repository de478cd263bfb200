use Rattle.std.proofs.Common.{◌∙◌, ap, sym, refl}
use Rattle.wordset.specs.Words.{Words}
use Rattle.wordset.specs.Lanes.{words}
use Rattle.facts.proofs.AskedLemmas.{false_iff}
use Rattle.facts.proofs.conditions.may_go_up.Goals as goal

pub returns-then-contains : goal.returns-then-contains
returns-then-contains g c = false_iff (λ q. sym q.0 ∙ sym (c.contains.ensures ∙ ap (λ (o : Words). o 63) c.offsets.ensures) ∙ c.if-contains.true)

pub returns-then-contains-2 : goal.returns-then-contains-2
returns-then-contains-2 g c = false_iff (λ q. sym q.1 ∙ sym (c.contains-2.ensures ∙ ap (words c.put_own_words.new.place) c.complement.ensures ∙ ap (λ (s : Words). s 4095) c.put_own_words.ensures) ∙ c.if-contains-2.true)

pub returns : goal.returns
returns g c = (
  λ t. (
    sym (c.contains.ensures ∙ ap (λ (o : Words). o 63) c.offsets.ensures) ∙ c.if-contains.false,
    sym (c.contains-2.ensures ∙ ap (words c.put_own_words.new.place) c.complement.ensures ∙ ap (λ (s : Words). s 4095) c.put_own_words.ensures) ∙ c.if-contains-2.false,
  ),
  λ q. refl,
)
