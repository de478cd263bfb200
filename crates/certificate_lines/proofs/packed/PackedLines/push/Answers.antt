use Rattle.std.proofs.Common.{◌∙◌, List, [], length, map, ap, arith}
use Rattle.certificate_lines.specs.declared.packed.StoredLine.{StoredLine}
use Rattle.certificate_lines.specs.Packed.{said_at, kept_at}
use Rattle.certificate_lines.proofs.PutLemmas.{any_err}
use Rattle.certificate_lines.proofs.SumPackedLemmas.{lines_added, line_added, from_first, begun, packed_after}
use Rattle.certificate_lines.proofs.SumFoundLemmas.{kept_on, kept_added}
use Rattle.certificate_lines.proofs.packed.PackedLines.push.Goals as goal

pub returns-in_err-lay_all-clause-same : goal.returns-in_err-lay_all-clause-same
returns-in_err-lay_all-clause-same g c =
    rw (← c.self.view_is) (any_err _ _ (lines_added c.self.inside.runs.items c.lay_all.new.runs.items c.self.inside.steps.items c.lay_all.new.steps.items
    c.self.inside.list.items c.self.invariant.within c.lay_all.ensures.runs c.lay_all.ensures.steps))

pub returns-in_err-push-clause-same : goal.returns-in_err-push-clause-same
returns-in_err-push-clause-same g c =
    rw (← c.self.view_is) (any_err _ _ (ap (λ (ls : List StoredLine). map (kept_at c.lay_all.new.runs.items c.lay_all.new.steps.items) ls) c.in_err-push.ensures.items ∙
    lines_added c.self.inside.runs.items c.lay_all.new.runs.items c.self.inside.steps.items c.lay_all.new.steps.items
    c.self.inside.list.items c.self.invariant.within c.lay_all.ensures.runs c.lay_all.ensures.steps))

pub returns-clause-added : goal.returns-clause-added
returns-clause-added g c =
    rw (← c.self.view_is)
    (line_added c.self.inside.runs.items c.lay_all.new.runs.items c.self.inside.steps.items c.lay_all.new.steps.items c.self.inside.list.items c.push.new.self.items
    (record { first = c.in_ok-first.first; past = c.past-past.result; line = c.args.line.now }) (said_at c.args.runs.now c.args.steps.now c.args.line.now)
    c.self.invariant.within c.lay_all.ensures.runs c.lay_all.ensures.steps
    (from_first c.lay_all.new.runs.items c.lay_all.new.steps.items (length c.self.inside.runs.items) (length c.self.inside.steps.items) c.in_ok-first.first c.args.line.now (said_at c.args.runs.now c.args.steps.now c.args.line.now)
    (begun c.len-run_count.result c.len-step_count.result _ _ c.in_ok-first.first c.args.line.now (omega (arith, c.len-run_count.ensures, c.self.inside.runs.ok.0)) (omega (arith, c.len-step_count.ensures, c.self.inside.steps.ok.0)) (c.in_ok-first.ensures ∙ c.first_of.ensures [] []))
    (packed_after c.self.inside.runs.items c.lay_all.new.runs.items c.args.runs.now c.self.inside.steps.items c.lay_all.new.steps.items c.args.steps.now c.args.line.now
    c.in_ok-lay_all.ensures.whole.0 c.in_ok-lay_all.ensures.whole.1 c.requires.within))
    c.in_ok-push.ensures.items)

pub invariant_of-self-2 : goal.invariant_of-self-2
invariant_of-self-2 g c =
    kept_added c.self.inside.runs.items c.lay_all.new.runs.items c.self.inside.steps.items c.lay_all.new.steps.items c.self.inside.list.items c.push.new.self.items
    (record { first = c.in_ok-first.first; past = c.past-past.result; line = c.args.line.now }) (said_at c.args.runs.now c.args.steps.now c.args.line.now)
    c.self.invariant c.lay_all.ensures.runs c.lay_all.ensures.steps
    (from_first c.lay_all.new.runs.items c.lay_all.new.steps.items (length c.self.inside.runs.items) (length c.self.inside.steps.items) c.in_ok-first.first c.args.line.now (said_at c.args.runs.now c.args.steps.now c.args.line.now)
    (begun c.len-run_count.result c.len-step_count.result _ _ c.in_ok-first.first c.args.line.now (omega (arith, c.len-run_count.ensures, c.self.inside.runs.ok.0)) (omega (arith, c.len-step_count.ensures, c.self.inside.steps.ok.0)) (c.in_ok-first.ensures ∙ c.first_of.ensures [] []))
    (packed_after c.self.inside.runs.items c.lay_all.new.runs.items c.args.runs.now c.self.inside.steps.items c.lay_all.new.steps.items c.args.steps.now c.args.line.now
    c.in_ok-lay_all.ensures.whole.0 c.in_ok-lay_all.ensures.whole.1 c.requires.within))
    (rw c.deref.ensures.value at (c.past-past.ensures [] [])) c.in_ok-push.ensures.items

pub invariant_of-self : goal.invariant_of-self
invariant_of-self g c =
    kept_on c.self.inside.runs.items c.lay_all.new.runs.items c.self.inside.steps.items c.lay_all.new.steps.items c.self.inside.list.items c.self.invariant c.lay_all.ensures.runs c.lay_all.ensures.steps

pub invariant_of-self-in_err-push : goal.invariant_of-self-in_err-push
invariant_of-self-in_err-push g c =
    rw c.in_err-push.ensures.items (kept_on c.self.inside.runs.items c.lay_all.new.runs.items c.self.inside.steps.items c.lay_all.new.steps.items c.self.inside.list.items
    c.self.invariant c.lay_all.ensures.runs c.lay_all.ensures.steps)
