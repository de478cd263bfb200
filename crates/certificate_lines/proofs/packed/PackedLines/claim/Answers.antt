use Rattle.std.proofs.Common.{◌∙◌, List, [], length, map, ap, arith}
use Rattle.certificate_lines.specs.declared.packed.StoredLine.{StoredLine}
use Rattle.certificate_lines.specs.Packed.{kept_at, claimed_line}
use Rattle.certificate_lines.proofs.PutLemmas.{any_err}
use Rattle.certificate_lines.proofs.SumPackedLemmas.{lines_added, line_added, from_first, begun}
use Rattle.certificate_lines.proofs.SumFoundLemmas.{kept_on, kept_added}
use Rattle.certificate_lines.proofs.packed.PackedLines.claim.Goals as goal

pub returns-in_err-line-clause-same : goal.returns-in_err-line-clause-same
returns-in_err-line-clause-same g c =
    rw (← c.self.view_is) (any_err _ _ (lines_added c.self.inside.runs.items c.pack.new.runs.items c.self.inside.steps.items c.pack.new.steps.items
    c.self.inside.list.items c.self.invariant.within c.pack.ensures.runs c.pack.ensures.steps))

pub returns-in_err-first-clause-same : goal.returns-in_err-first-clause-same
returns-in_err-first-clause-same g c =
    rw (← c.self.view_is) (any_err _ _ (lines_added c.self.inside.runs.items c.pack.new.runs.items c.self.inside.steps.items c.pack.new.steps.items
    c.self.inside.list.items c.self.invariant.within c.pack.ensures.runs c.pack.ensures.steps))

pub returns-in_err-push-clause-same : goal.returns-in_err-push-clause-same
returns-in_err-push-clause-same g c =
    rw (← c.self.view_is) (any_err _ _ (ap (λ (ls : List StoredLine). map (kept_at c.pack.new.runs.items c.pack.new.steps.items) ls) c.in_err-push.ensures.items ∙
    lines_added c.self.inside.runs.items c.pack.new.runs.items c.self.inside.steps.items c.pack.new.steps.items
    c.self.inside.list.items c.self.invariant.within c.pack.ensures.runs c.pack.ensures.steps))

pub returns-clause-added : goal.returns-clause-added
returns-clause-added g c =
    rw (← c.self.view_is)
    (line_added c.self.inside.runs.items c.pack.new.runs.items c.self.inside.steps.items c.pack.new.steps.items c.self.inside.list.items c.push.new.self.items
    (record { first = c.in_ok-first.first; past = c.past-past.result; line = c.in_ok-line.line }) (claimed_line c.args.claim.now)
    c.self.invariant.within c.pack.ensures.runs c.pack.ensures.steps
    (from_first c.pack.new.runs.items c.pack.new.steps.items (length c.self.inside.runs.items) (length c.self.inside.steps.items) c.in_ok-first.first c.in_ok-line.line (claimed_line c.args.claim.now)
    (begun c.len-run_count.result c.len-step_count.result _ _ c.in_ok-first.first c.in_ok-line.line (omega (arith, c.len-run_count.ensures, c.self.inside.runs.ok.0)) (omega (arith, c.len-step_count.ensures, c.self.inside.steps.ok.0)) (c.in_ok-first.ensures ∙ c.first_of.ensures [] []))
    c.in_ok-line.ensures.packed)
    c.in_ok-push.ensures.items)

pub invariant_of-self-2 : goal.invariant_of-self-2
invariant_of-self-2 g c =
    kept_added c.self.inside.runs.items c.pack.new.runs.items c.self.inside.steps.items c.pack.new.steps.items c.self.inside.list.items c.push.new.self.items
    (record { first = c.in_ok-first.first; past = c.past-past.result; line = c.in_ok-line.line }) (claimed_line c.args.claim.now)
    c.self.invariant c.pack.ensures.runs c.pack.ensures.steps
    (from_first c.pack.new.runs.items c.pack.new.steps.items (length c.self.inside.runs.items) (length c.self.inside.steps.items) c.in_ok-first.first c.in_ok-line.line (claimed_line c.args.claim.now)
    (begun c.len-run_count.result c.len-step_count.result _ _ c.in_ok-first.first c.in_ok-line.line (omega (arith, c.len-run_count.ensures, c.self.inside.runs.ok.0)) (omega (arith, c.len-step_count.ensures, c.self.inside.steps.ok.0)) (c.in_ok-first.ensures ∙ c.first_of.ensures [] []))
    c.in_ok-line.ensures.packed)
    (rw c.deref.ensures.value at (c.past-past.ensures [] [])) c.in_ok-push.ensures.items

pub invariant_of-self : goal.invariant_of-self
invariant_of-self g c =
    kept_on c.self.inside.runs.items c.pack.new.runs.items c.self.inside.steps.items c.pack.new.steps.items c.self.inside.list.items c.self.invariant c.pack.ensures.runs c.pack.ensures.steps

pub invariant_of-self-in_err-push : goal.invariant_of-self-in_err-push
invariant_of-self-in_err-push g c =
    rw c.in_err-push.ensures.items (kept_on c.self.inside.runs.items c.pack.new.runs.items c.self.inside.steps.items c.pack.new.steps.items c.self.inside.list.items
    c.self.invariant c.pack.ensures.runs c.pack.ensures.steps)

pub invariant_of-self-in_err-first : goal.invariant_of-self-in_err-first
invariant_of-self-in_err-first g c =
    kept_on c.self.inside.runs.items c.pack.new.runs.items c.self.inside.steps.items c.pack.new.steps.items c.self.inside.list.items c.self.invariant c.pack.ensures.runs c.pack.ensures.steps
