use Rattle.std.proofs.Common.{◌<◌, length, map, drop, sym, ◌∙◌, ap}
use Rattle.certificate_lines.specs.Lines.{Line, is_detail}
use Rattle.certificate_lines.specs.Packed.{kept_at}
use Rattle.certificate_lines.proofs.SumPackedLemmas.{kept_there}
use Rattle.certificate_lines.proofs.packed.PackedLines.is_detail.Goals as goal

pub returns : goal.returns
returns g c =
    let runs = c.self.inside.runs.items in
    let steps = c.self.inside.steps.items in
    let ks = c.self.inside.list.items in
    let k = c.index-kept.result.now in
    let inside : c.args.at < length (map (kept_at runs steps) ks) = rw (← c.self.view_is) at c.requires in
    rw (← c.self.view_is) (c.is_detail.ensures (drop k.first runs) (drop k.first steps) ∙
    ap (λ (x : Line). is_detail x) (sym (kept_there runs steps ks c.args.at k c.index-kept.ensures inside c.self.invariant.within)))
