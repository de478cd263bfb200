use Rattle.std.proofs.Common.{◌++◌, [], ◌∷◌, List, sym, ap, ◌∙◌}
use Rattle.wordset.specs.Words.{Words, shifted}
use Rattle.domain.specs.Facts.{Relation}
use Rattle.domain.specs.RelationsInCode.{relation_of}
use Rattle.domain.specs.FactInCode.{fact_in_code}
use Rattle.transfer.specs.Shaped.{told}
use Rattle.transfer.proofs.EachRelation.{append_nothing}
use Rattle.transfer.proofs.additions.push_equation_moved.Goals as goal

pub returns-then-has_accumulator-clause-fact : goal.returns-then-has_accumulator-clause-fact
returns-then-has_accumulator-clause-fact g c =
    rw (sym c.has_accumulator.ensures ∙ c.if-has_accumulator.true)
    (c.push_relation_copy.ensures.fact
    ∙ ap (λ (s : Words). record (fact_in_code c.args.after.now) { relations = (fact_in_code c.args.after.now).relations ++ told (relation_of c.copy_from.new.self).sum s ∷ [] })
    (c.shift.ensures ∙ ap (λ (r : Relation). shifted r.set c.args.word) c.copy_from.ensures)
    ∙ ap (λ (r : Relation). record (fact_in_code c.args.after.now) { relations = (fact_in_code c.args.after.now).relations ++ told r.sum (shifted (relation_of c.args.relation.now).set c.args.word) ∷ [] }) c.copy_from.ensures)

pub returns-then-names-clause-fact : goal.returns-then-names-clause-fact
returns-then-names-clause-fact g c =
    rw (sym c.has_accumulator.ensures ∙ c.if-has_accumulator.false, sym c.names.ensures ∙ c.if-names.true)
    (ap (λ (rs : List Relation). record (fact_in_code c.args.after.now) { relations = rs }) (sym (append_nothing (fact_in_code c.args.after.now).relations)))

pub returns-clause-fact : goal.returns-clause-fact
returns-clause-fact g c = rw (sym c.has_accumulator.ensures ∙ c.if-has_accumulator.false, sym c.names.ensures ∙ c.if-names.false) c.push_relation_copy-2.ensures.fact
