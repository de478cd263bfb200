use Rattle.certificate_lines.proofs.SumPackedLemmas.{LineThere, line_there}
use Rattle.certificate_lines.proofs.packed.PackedLines.line.Goals as goal

pub returns : goal.returns
returns g c =
    let l : LineThere c.self.inside.runs.items c.self.inside.steps.items c.self.inside.list.items c.args.at c.index-kept.result.now =
    line_there c.self.inside.runs.items c.self.inside.steps.items c.self.inside.list.items c.args.at c.index-kept.result.now c.index-kept.ensures
    (rw (← c.self.view_is) at c.requires) c.self.invariant.within in
    record {
      there = rw (← c.self.view_is, c.runs_from.ensures, c.deref.ensures.value, c.steps_from.ensures, c.deref-2.ensures.value) l.there;
      within = rw (c.runs_from.ensures, c.deref.ensures.value, c.steps_from.ensures, c.deref-2.ensures.value) l.within;
    }
