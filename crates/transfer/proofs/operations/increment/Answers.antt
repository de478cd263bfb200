use Rattle.std.proofs.Common.{not, [], ◌∷◌, sym, ap, ◌∙◌}
use Rattle.wordset.specs.Words.{Words, shifted}
use Rattle.domain.specs.Facts.{Relation}
use Rattle.domain.specs.RelationsInCode.{relation_of}
use Rattle.transfer.specs.Shaped.{told, if_stays}
use Rattle.transfer.proofs.RowsLemmas.{stays_unless}
use Rattle.transfer.proofs.operations.increment.Goals as goal

pub returns-then-has_accumulator : goal.returns-then-has_accumulator
returns-then-has_accumulator c =
    let r : Relation = relation_of c.args.relation.now in
    rw (sym c.has_accumulator.ensures ∙ c.if-has_accumulator.true)
    (ap (λ (s : Words). told r.sum s ∷ []) (c.shift.ensures ∙ ap (λ n. shifted r.set n) c.from_index.ensures))

pub returns : goal.returns
returns c =
    let r : Relation = relation_of c.args.relation.now in
    rw (sym c.has_accumulator.ensures ∙ c.if-has_accumulator.false) (ap (λ b. if_stays (not b) r) c.names.ensures ∙ stays_unless _ r)
