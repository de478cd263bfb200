use Rattle.std.proofs.Common.{◌≡◌, ◌<◌, ◌≤◌, ◌-◌, length, refl, ap, arith}
use Rattle.std.specs.Prelude.{get_or}
use Rattle.std.specs.List.Sorted.{IsNonDecreasingBy}
use Rattle.std.proofs.lemmas.Bool.{ltb-true}
use Rattle.std.proofs.lemmas.List.{get_or_read_under}
use Rattle.certificate_lines.specs.declared.packed.StoredLine.{StoredLine}
use Rattle.certificate_lines.proofs.SumFoundLemmas.{rises, search_told}
use Rattle.certificate_lines.proofs.packed.PackedLines.is_sought.Goals as goal

pub returns : goal.returns
returns g c = λ told.
    let runs = c.self.inside.runs.items in
    let steps = c.self.inside.steps.items in
    let ks = c.self.inside.list.items in
    let at = c.args.at in
    let order = rw (← c.self.view_is) at c.requires in
    let up : IsNonDecreasingBy (λ (k : StoredLine). k.past) ks = rises runs steps ks 0 c.self.invariant.past order in
    let few : at < length ks = omega (arith, c.if-at-len.false, c.len.ensures) in
    let some : 0 < at = omega (arith, c.if-at-eq0.false) in
    let over : c.args.place < c.index-kept.result.now.past = ltb-true _ _ told in
    rw (← c.self.view_is)
    (search_told runs steps ks 0 c.args.place at c.self.invariant.past (omega arith) (omega arith)
    (λ j d b.
    let e : c.index-before.result.now.past ≡ (get_or ks (at - 1) d).past =
    ap (λ (k : StoredLine). k.past) (get_or_read_under ks (at - 1) (length ks) _ d c.index-before.ensures (omega arith) refl) in
    let u : (get_or ks j d).past ≤ (get_or ks (at - 1) d).past = up j (at - 1) d (omega arith) (omega arith) in
    omega (arith, c.if-before-place.false))
    (λ d b.
    let e : c.index-kept.result.now.past ≡ (get_or ks at d).past =
    ap (λ (k : StoredLine). k.past) (get_or_read_under ks at (length ks) _ d c.index-kept.ensures b refl) in omega arith))
