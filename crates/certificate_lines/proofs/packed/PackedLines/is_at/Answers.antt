use Rattle.std.proofs.Common.{◌<◌, ◌≤◌, List, length, map, drop, sym, arith}
use Rattle.std.proofs.lemmas.List.{length-map}
use Rattle.certificate_lines.specs.Lines.{Line}
use Rattle.certificate_lines.specs.Packed.{kept_at}
use Rattle.certificate_lines.proofs.SumPackedLemmas.{line_there}
use Rattle.certificate_lines.proofs.SumFoundLemmas.{none_at, detail_at, head_at, place_there}
use Rattle.certificate_lines.proofs.packed.PackedLines.is_at.Goals as goal

pub returns-then-at-len : goal.returns-then-at-len
returns-then-at-len g c =
    let lines : List Line = map (kept_at c.self.inside.runs.items c.self.inside.steps.items) c.self.inside.list.items in
    let few : length lines ≤ c.args.at =
    omega (arith, length-map c.self.inside.list.items (kept_at c.self.inside.runs.items c.self.inside.steps.items), c.if-at-len.true, c.len.ensures) in
    rw (← c.self.view_is) (sym (none_at lines c.args.at c.args.place few))

pub returns-then-is_detail : goal.returns-then-is_detail
returns-then-is_detail g c =
    let runs = c.self.inside.runs.items in
    let steps = c.self.inside.steps.items in
    let ks = c.self.inside.list.items in
    let k = c.index-kept.result.now in
    let there : c.args.at < length ks = omega (arith, c.if-at-len.false, c.len.ensures) in
    let inside : c.args.at < length (map (kept_at runs steps) ks) = omega (arith, length-map ks (kept_at runs steps)) in
    let l = line_there runs steps ks c.args.at k c.index-kept.ensures inside c.self.invariant.within in
    rw (← c.self.view_is) (sym (detail_at (map (kept_at runs steps) ks) _ c.args.at c.args.place (kept_at runs steps k) l.there
    (sym (c.if-is_detail.ensures (drop k.first runs) (drop k.first steps)))))

pub returns : goal.returns
returns g c =
    let runs = c.self.inside.runs.items in
    let steps = c.self.inside.steps.items in
    let ks = c.self.inside.list.items in
    let k = c.index-kept.result.now in
    let there : c.args.at < length ks = omega (arith, c.if-at-len.false, c.len.ensures) in
    let inside : c.args.at < length (map (kept_at runs steps) ks) = omega (arith, length-map ks (kept_at runs steps)) in
    let l = line_there runs steps ks c.args.at k c.index-kept.ensures inside c.self.invariant.within in
    let head = sym (c.if-is_detail.ensures (drop k.first runs) (drop k.first steps)) in
    rw (← c.self.view_is) (head_at (map (kept_at runs steps) ks) _ c.args.at c.args.place k.past (kept_at runs steps k) l.there head
    (place_there runs steps ks c.args.at k c.self.invariant there c.index-kept.ensures head))
