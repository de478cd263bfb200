use Rattle.std.proofs.Common.{◌≡◌, ◌<◌, ◌≤◌, ◌-◌, ◌∙◌, List, length, map, drop, sym, arith}
use Rattle.std.proofs.lemmas.List.{length-map}
use Rattle.certificate_lines.specs.Lines.{Line}
use Rattle.certificate_lines.specs.Packed.{kept_at}
use Rattle.certificate_lines.specs.Found.{from_place}
use Rattle.certificate_lines.proofs.SumPackedLemmas.{line_there}
use Rattle.certificate_lines.proofs.SumFoundLemmas.{no_detail, least_at, least_none, place_there}
use Rattle.certificate_lines.proofs.packed.PackedLines.next_place.Goals as goal

pub returns-then-at-len : goal.returns-then-at-len
returns-then-at-len g c =
    let lines : List Line = map (kept_at c.self.inside.runs.items c.self.inside.steps.items) c.self.inside.list.items in
    let few : length lines ≤ c.from-at.result =
    omega (arith, length-map c.self.inside.list.items (kept_at c.self.inside.runs.items c.self.inside.steps.items), c.if-at-len.true, c.len.ensures) in
    let s : drop c.from-at.result lines ≡ from_place c.args.from lines = rw (← c.self.view_is) at c.from-at.ensures in
    rw (← c.self.view_is) (least_none lines c.from-at.result c.args.from s few)

pub overflow_sub-result : goal.overflow_sub-result
overflow_sub-result g c =
    let runs = c.self.inside.runs.items in
    let steps = c.self.inside.steps.items in
    let ks = c.self.inside.list.items in
    let k = c.index-kept.result.now in
    let at = c.from-at.result in
    let lines : List Line = map (kept_at runs steps) ks in
    let there : at < length ks = omega (arith, c.if-at-len.false, c.len.ensures) in
    let inside : at < length lines = omega (arith, length-map ks (kept_at runs steps)) in
    let l = line_there runs steps ks at k c.index-kept.ensures inside c.self.invariant.within in
    let s : drop at lines ≡ from_place c.args.from lines = rw (← c.self.view_is) at c.from-at.ensures in
    let p = place_there runs steps ks at k c.self.invariant there c.index-kept.ensures (no_detail c.args.from lines _ (kept_at runs steps k) (sym s ∙ l.there)) in
    omega (arith, p)

pub returns : goal.returns
returns g c =
    let runs = c.self.inside.runs.items in
    let steps = c.self.inside.steps.items in
    let ks = c.self.inside.list.items in
    let k = c.index-kept.result.now in
    let at = c.from-at.result in
    let lines : List Line = map (kept_at runs steps) ks in
    let there : at < length ks = omega (arith, c.if-at-len.false, c.len.ensures) in
    let inside : at < length lines = omega (arith, length-map ks (kept_at runs steps)) in
    let l = line_there runs steps ks at k c.index-kept.ensures inside c.self.invariant.within in
    let s : drop at lines ≡ from_place c.args.from lines = rw (← c.self.view_is) at c.from-at.ensures in
    let p = place_there runs steps ks at k c.self.invariant there c.index-kept.ensures (no_detail c.args.from lines _ (kept_at runs steps k) (sym s ∙ l.there)) in
    rw (← c.self.view_is) (least_at lines _ at c.args.from (k.past - 1) (kept_at runs steps k) s l.there (omega (arith, p)))
