use Rattle.std.proofs.Common.{sym}
use Rattle.std.proofs.ByRecursion.{All-take}
use Rattle.std.proofs.lemmas.List.{take-map}
use Rattle.certificate_lines.specs.Packed.{kept_at}
use Rattle.certificate_lines.proofs.SumFoundLemmas.{past_front}
use Rattle.certificate_lines.proofs.packed.PackedLines.truncate.Goals as goal

pub returns : goal.returns
returns g c = rw (← c.self.view_is, c.truncate.ensures.items) (sym (take-map (kept_at c.self.inside.runs.items c.self.inside.steps.items) c.args.count c.self.inside.list.items))

pub invariant_of-self : goal.invariant_of-self
invariant_of-self g c = rw c.truncate.ensures.items (record {
  within = All-take _ c.args.count c.self.inside.list.items c.self.invariant.within;
  past = past_front c.self.inside.runs.items c.self.inside.steps.items c.self.inside.list.items 0 c.args.count c.self.invariant.past;
})
