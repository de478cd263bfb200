use Rattle.std.proofs.Common.{◌≡◌, ◌+◌, ◌≤◌, ◌++◌, drop, length, map, [], ◌∷◌}
use Rattle.std.specs.Prelude.{filter, flat_map}
use Rattle.domain.specs.Adding.{is_kept}
use Rattle.domain.specs.RelationsInCode.{relation_of, relations_of}
use Rattle.domain.specs.FactInCode.{fact_in_code, rules_of}
use Rattle.transfer.specs.Additions.{turned}
use Rattle.transfer.proofs.operations.push_each_turned.Given as goal

abbrev pub invariant-loop-relation : goal.invariant-loop-relation
invariant-loop-relation g l =
    (record (fact_in_code l.after) {
      relations = (fact_in_code l.after).relations ++
          flat_map (λ r. filter (λ r. is_kept (rules_of l.rules) r.sum r.set) (turned l.word (r ∷ []))) (map relation_of (drop l.relation-index l.relations));
    } ≡ record (fact_in_code l.fn.after) {
      relations = (fact_in_code l.fn.after).relations ++
          flat_map (λ r. filter (λ r. is_kept (rules_of l.rules) r.sum r.set) (turned l.word (r ∷ []))) (map relation_of l.relations);
    }) ×
    (l.after.cells ≡ l.fn.after.cells) ×
    (length (relations_of l.after.relations) ≤ length (relations_of l.fn.after.relations) + l.relation-index)
