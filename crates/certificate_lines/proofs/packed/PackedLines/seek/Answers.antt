use Rattle.std.proofs.Common.{leb, leb-true, leb-false, arith, rules}
use Rattle.std.specs.List.Sorted.{IsNonDecreasingBy}
use Rattle.std.proofs.lemmas.List.{length-map}
use Rattle.std.proofs.lemmas.List.Sorted.{IsPartitionPoint-from_clause, IsPartitionedBy-leb}
use Rattle.certificate_lines.specs.declared.packed.StoredLine.{StoredLine}
use Rattle.certificate_lines.specs.Packed.{kept_at}
use Rattle.certificate_lines.proofs.SumFoundLemmas.{rises, search_told}
use Rattle.certificate_lines.proofs.packed.PackedLines.seek.Goals as goal

pub returns-clause-there : goal.returns-clause-there
returns-clause-there g c =
    let runs = c.self.inside.runs.items in
    let steps = c.self.inside.steps.items in
    let ks = c.self.inside.list.items in
    let order = rw (← c.self.view_is) at c.requires.order in
    let up : IsNonDecreasingBy (λ (k : StoredLine). k.past) c.deref.result.now = rw c.deref.ensures.value (rises runs steps ks 0 c.self.invariant.past order) in
    let point = IsPartitionPoint-from_clause (λ (k : StoredLine). leb k.past c.args.place) _ _ c.partition_point.ensures.partitioned
    (IsPartitionedBy-leb (λ (k : StoredLine). k.past) _ c.args.place up) (λ a r q k. search rules) in
    let here = rw c.deref.ensures.value at point in
    rw (← c.self.view_is)
    (search_told runs steps ks 0 c.args.place c.partition_point.result c.self.invariant.past (omega arith) (rw c.deref.ensures.value at c.partition_point.ensures.bound)
    (λ j d b. leb-true _ _ (here.0 j d (omega arith) b)) (λ d b. leb-false _ _ (here.1 c.partition_point.result d (omega arith) b)))

pub returns-clause-within : goal.returns-clause-within
returns-clause-within g c =
    rw (← c.self.view_is, length-map c.self.inside.list.items (kept_at c.self.inside.runs.items c.self.inside.steps.items), ← c.deref.ensures.value) c.partition_point.ensures.bound
