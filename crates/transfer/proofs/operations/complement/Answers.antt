use Rattle.std.proofs.Common.{not, [], ◌∷◌, sym, ap, ◌∙◌}
use Rattle.wordset.specs.Words.{Words}
use Rattle.domain.specs.Locations.{Ac}
use Rattle.domain.specs.Terms.{Sum, Holding}
use Rattle.domain.specs.Facts.{Relation}
use Rattle.domain.specs.Brief.{brief_words}
use Rattle.domain.specs.RelationsInCode.{relation_of}
use Rattle.transfer.specs.Additions.{ac_with_rest}
use Rattle.transfer.specs.Shaped.{told, if_stays}
use Rattle.transfer.proofs.RowsLemmas.{stays_unless}
use Rattle.transfer.proofs.operations.complement.Goals as goal

pub returns-then-has_accumulator : goal.returns-then-has_accumulator
returns-then-has_accumulator c =
    let r : Relation = relation_of c.args.relation.now in
    rw (sym c.has_accumulator.ensures ∙ c.if-has_accumulator.true)
    (ap (λ (s : Sum). told s (brief_words c.complement.new.self) ∷ []) (c.accumulator_with_rest-relation.ensures ∙ ap (λ n. ac_with_rest n (Holding Ac) r.sum) c.from_index.ensures)
    ∙ ap (λ (s : Words). told (ac_with_rest 4095 (Holding Ac) r.sum) s ∷ []) c.complement.ensures)

pub returns : goal.returns
returns c =
    let r : Relation = relation_of c.args.relation.now in
    rw (sym c.has_accumulator.ensures ∙ c.if-has_accumulator.false) (ap (λ b. if_stays (not b) r) c.names.ensures ∙ stays_unless _ r)
