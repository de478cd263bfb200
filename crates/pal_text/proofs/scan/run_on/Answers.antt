use Rattle.std.proofs.Common.{ap, ◌∙◌, sym, subst, ◌+◌}
use Rattle.pal_text.specs.declared.scan.Run.{Run}
use Rattle.pal_text.specs.declared.tokens.TokenKind.TheVariants.{Symbol, Number}
use Rattle.pal_text.specs.declared.scan.CodeEffect.TheVariants.{One}
use Rattle.pal_text.specs.Scan.{IsRun}
use Rattle.pal_text.proofs.Fronts.{run_none, run_one, word_digit}
use Rattle.pal_text.proofs.scan.run_on.Goals.{in-One-Symbol, in-One-Number, in-Nothing}
use Rattle.pal_text.proofs.scan.run_on.Goals as goal

pub loop-run-preserved : goal.loop-run-preserved
loop-run-preserved c =
    let P : Run → Type 0 = λ r. IsRun c.args.source.now c.args.kind c.args.end c.args.from (record { kind = r.kind; end = r.end; at = r.at + 1 }) in
    elim c.match-effect_of_code.branch [
      | in-One-Symbol w ↦ subst P (sym w.run-is) (run_one c.args.source.now c.args.kind c.args.end c.args.from c.loop-run.run Symbol w.with_letter-run.result c.loop-run-test.true (sym c.effect_of_code.ensures ∙ w.in-One-Symbol.is ∙ ap One w.in-One-Symbol.field-0-is) w.with_letter-run.ensures c.loop-run.invariant)
      | in-One-Number w ↦ subst P (sym w.run-is) (run_one c.args.source.now c.args.kind c.args.end c.args.from c.loop-run.run Number c.loop-run.run.kind c.loop-run-test.true (sym c.effect_of_code.ensures ∙ w.in-One-Number.is ∙ ap One w.in-One-Number.field-0-is) (word_digit c.loop-run.run.kind c.loop-run.invariant.word) c.loop-run.invariant)
      | in-Nothing w ↦ subst P (sym w.run-is) (run_none c.args.source.now c.args.kind c.args.end c.args.from c.loop-run.run c.loop-run-test.true (sym c.effect_of_code.ensures ∙ w.in-Nothing.is) c.loop-run.invariant)
    ]
