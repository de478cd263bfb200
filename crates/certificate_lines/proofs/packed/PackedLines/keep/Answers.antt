use Rattle.std.proofs.Common.{sym}
use Rattle.certificate_lines.specs.Packed.{said_at}
use Rattle.certificate_lines.proofs.SumWholeLemmas.{end_known, line_kept}
use Rattle.certificate_lines.proofs.MakerLemmas.{on_ok}
use Rattle.certificate_lines.proofs.packed.PackedLines.keep.Goals as goal

pub returns-then-is_end-clause-kept : goal.returns-then-is_end-clause-kept
returns-then-is_end-clause-kept g c = λ before h.
    rw (end_known (said_at c.args.runs.now c.args.steps.now c.args.line.now) before (sym (c.if-is_end.ensures c.args.runs.now c.args.steps.now))) h

pub returns-clause-kept : goal.returns-clause-kept
returns-clause-kept g c = λ before h.
    on_ok c.push.result _ _ (λ e. line_kept c.args.self.now c.push.new.self (said_at c.args.runs.now c.args.steps.now c.args.line.now) before
    (sym (c.if-is_end.ensures c.args.runs.now c.args.steps.now)) e h) c.push.ensures.added
