use Rattle.std.proofs.Common.{◌∙◌, List, [], length, map, ap, arith}
use Rattle.wordset.specs.Lanes.{words}
use Rattle.certificate_lines.specs.declared.packed.StoredLine.{StoredLine}
use Rattle.certificate_lines.specs.Packed.{kept_at, said_of, sited_line}
use Rattle.certificate_lines.proofs.PutLemmas.{any_err}
use Rattle.certificate_lines.proofs.SumPackedLemmas.{lines_added, line_added, from_first, begun}
use Rattle.certificate_lines.proofs.SumFoundLemmas.{kept_on, kept_added}
use Rattle.certificate_lines.proofs.packed.PackedLines.push_sited.Goals as goal

pub returns-in_err-line-clause-same : goal.returns-in_err-line-clause-same
returns-in_err-line-clause-same g c =
    rw (← c.self.view_is) (any_err _ _ (lines_added c.self.inside.runs.items c.lay_sited.new.runs.items c.self.inside.steps.items c.lay_sited.new.steps.items
    c.self.inside.list.items c.self.invariant.within c.lay_sited.ensures.runs c.lay_sited.ensures.steps))

pub returns-in_err-first-clause-same : goal.returns-in_err-first-clause-same
returns-in_err-first-clause-same g c =
    rw (← c.self.view_is) (any_err _ _ (lines_added c.self.inside.runs.items c.lay_sited.new.runs.items c.self.inside.steps.items c.lay_sited.new.steps.items
    c.self.inside.list.items c.self.invariant.within c.lay_sited.ensures.runs c.lay_sited.ensures.steps))

pub returns-in_err-push-clause-same : goal.returns-in_err-push-clause-same
returns-in_err-push-clause-same g c =
    rw (← c.self.view_is) (any_err _ _ (ap (λ (ls : List StoredLine). map (kept_at c.lay_sited.new.runs.items c.lay_sited.new.steps.items) ls) c.in_err-push.ensures.items ∙
    lines_added c.self.inside.runs.items c.lay_sited.new.runs.items c.self.inside.steps.items c.lay_sited.new.steps.items
    c.self.inside.list.items c.self.invariant.within c.lay_sited.ensures.runs c.lay_sited.ensures.steps))

pub returns-clause-added : goal.returns-clause-added
returns-clause-added g c =
    rw (← c.self.view_is)
    (line_added c.self.inside.runs.items c.lay_sited.new.runs.items c.self.inside.steps.items c.lay_sited.new.steps.items c.self.inside.list.items c.push.new.self.items
    (record { first = c.in_ok-first.first; past = c.past-past.result; line = c.in_ok-line.line }) (sited_line (words c.args.sites.now) (said_of c.args.lent.now))
    c.self.invariant.within c.lay_sited.ensures.runs c.lay_sited.ensures.steps
    (from_first c.lay_sited.new.runs.items c.lay_sited.new.steps.items (length c.self.inside.runs.items) (length c.self.inside.steps.items) c.in_ok-first.first c.in_ok-line.line (sited_line (words c.args.sites.now) (said_of c.args.lent.now))
    (begun c.len-run_count.result c.len-step_count.result _ _ c.in_ok-first.first c.in_ok-line.line (omega (arith, c.len-run_count.ensures, c.self.inside.runs.ok.0)) (omega (arith, c.len-step_count.ensures, c.self.inside.steps.ok.0)) (c.in_ok-first.ensures ∙ c.first_of.ensures [] []))
    c.in_ok-line.ensures.packed)
    c.in_ok-push.ensures.items)

pub invariant_of-self-2 : goal.invariant_of-self-2
invariant_of-self-2 g c =
    kept_added c.self.inside.runs.items c.lay_sited.new.runs.items c.self.inside.steps.items c.lay_sited.new.steps.items c.self.inside.list.items c.push.new.self.items
    (record { first = c.in_ok-first.first; past = c.past-past.result; line = c.in_ok-line.line }) (sited_line (words c.args.sites.now) (said_of c.args.lent.now))
    c.self.invariant c.lay_sited.ensures.runs c.lay_sited.ensures.steps
    (from_first c.lay_sited.new.runs.items c.lay_sited.new.steps.items (length c.self.inside.runs.items) (length c.self.inside.steps.items) c.in_ok-first.first c.in_ok-line.line (sited_line (words c.args.sites.now) (said_of c.args.lent.now))
    (begun c.len-run_count.result c.len-step_count.result _ _ c.in_ok-first.first c.in_ok-line.line (omega (arith, c.len-run_count.ensures, c.self.inside.runs.ok.0)) (omega (arith, c.len-step_count.ensures, c.self.inside.steps.ok.0)) (c.in_ok-first.ensures ∙ c.first_of.ensures [] []))
    c.in_ok-line.ensures.packed)
    (rw c.deref.ensures.value at (c.past-past.ensures [] [])) c.in_ok-push.ensures.items

pub invariant_of-self : goal.invariant_of-self
invariant_of-self g c =
    kept_on c.self.inside.runs.items c.lay_sited.new.runs.items c.self.inside.steps.items c.lay_sited.new.steps.items c.self.inside.list.items c.self.invariant c.lay_sited.ensures.runs c.lay_sited.ensures.steps

pub invariant_of-self-in_err-push : goal.invariant_of-self-in_err-push
invariant_of-self-in_err-push g c =
    rw c.in_err-push.ensures.items (kept_on c.self.inside.runs.items c.lay_sited.new.runs.items c.self.inside.steps.items c.lay_sited.new.steps.items c.self.inside.list.items
    c.self.invariant c.lay_sited.ensures.runs c.lay_sited.ensures.steps)

pub invariant_of-self-in_err-first : goal.invariant_of-self-in_err-first
invariant_of-self-in_err-first g c =
    kept_on c.self.inside.runs.items c.lay_sited.new.runs.items c.self.inside.steps.items c.lay_sited.new.steps.items c.self.inside.list.items c.self.invariant c.lay_sited.ensures.runs c.lay_sited.ensures.steps
