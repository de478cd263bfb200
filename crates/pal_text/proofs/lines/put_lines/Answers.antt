use Rattle.std.proofs.Common.{◌∙◌, sym, ap, Bool, if◌then◌else◌, List, [], ◌∷◌, ◌++◌, length, get_or, arith}
use Rattle.std.proofs.lemmas.List.{reverse-reverse}
use Rattle.pal_text.specs.declared.lines.Line.{Line}
use Rattle.pal_text.specs.declared.characters.Meaning.TheVariants.{Ignored, LineEnd, Character}
use Rattle.pal_text.specs.Characters.{meaning}
use Rattle.pal_text.specs.Lines.{line_of}
use Rattle.pal_text.proofs.Grows.{anyway}
use Rattle.pal_text.proofs.LineCounts.{line_ended, lined_more, same_lined, put_line, lined_all, line_begun}
use Rattle.pal_text.proofs.lines.put_lines.Goals as goal
use Rattle.pal_text.proofs.lines.put_lines.Goals.{in-LineEnd+in_ok-push-in-LineEnd, in-Character, in-Ignored}

pub loop-at-preserved : goal.loop-at-preserved
loop-at-preserved g c = elim c.match-meaning_of.branch [
  | in-LineEnd+in_ok-push-in-LineEnd w ↦ same_lined c.args.bytes.now _ _ _ _ _ _ _ _ _
      (lined_more c.args.bytes.now c.loop-at.at c.loop-at.out.items c.loop-at.start c.loop-at.begun c.loop-at.returned LineEnd c.loop-at-test.true c.loop-at.invariant (sym w.in-LineEnd.is ∙ c.meaning_of.ensures) (omega arith))
      (ap (λ v. v.items) w.out-is ∙ w.in_ok-push-in-LineEnd.ensures.items ∙ put_line c.loop-at.out.items (line_of c.loop-at.start c.loop-at.at)) w.start-is w.begun-is c.returned_after-returned.ensures
  | in-Character w ↦ same_lined c.args.bytes.now _ _ _ _ _ _ _ _ _
      (lined_more c.args.bytes.now c.loop-at.at c.loop-at.out.items c.loop-at.start c.loop-at.begun c.loop-at.returned (Character w.in-Character.field-0) c.loop-at-test.true c.loop-at.invariant (sym w.in-Character.is ∙ c.meaning_of.ensures) (omega (arith, c.loop-at.invariant.forward)))
      (ap (λ v. v.items) w.out-is ∙ sym (reverse-reverse c.loop-at.out.items)) w.start-is w.begun-is c.returned_after-returned.ensures
  | in-Ignored w ↦ same_lined c.args.bytes.now _ _ _ _ _ _ _ _ _
      (lined_more c.args.bytes.now c.loop-at.at c.loop-at.out.items c.loop-at.start c.loop-at.begun c.loop-at.returned Ignored c.loop-at-test.true c.loop-at.invariant (sym w.in-Ignored.is ∙ c.meaning_of.ensures) (omega (arith, c.loop-at.invariant.forward)))
      (ap (λ v. v.items) w.out-is ∙ sym (reverse-reverse c.loop-at.out.items)) w.start-is w.begun-is c.returned_after-returned.ensures
]

pub returns-in_ok-push-clause-lines : goal.returns-in_ok-push-clause-lines
returns-in_ok-push-clause-lines g c =
    let either : Bool → List Line = λ b. if b then c.loop-at.out.items ++ line_of c.loop-at.start (length c.args.bytes.now) ∷ [] else c.loop-at.out.items in
    c.in_ok-push.ensures.items ∙ ap either (sym c.if-begun.true)
    ∙ lined_all c.args.bytes.now c.loop-at.at c.loop-at.out.items c.loop-at.start c.loop-at.begun c.loop-at.returned c.loop-at-test.false c.loop-at.invariant

pub returns-else-begun-clause-lines : goal.returns-else-begun-clause-lines
returns-else-begun-clause-lines g c =
    let either : Bool → List Line = λ b. if b then c.loop-at.out.items ++ line_of c.loop-at.start (length c.args.bytes.now) ∷ [] else c.loop-at.out.items in
    ap either (sym c.if-begun.false) ∙ lined_all c.args.bytes.now c.loop-at.at c.loop-at.out.items c.loop-at.start c.loop-at.begun c.loop-at.returned c.loop-at-test.false c.loop-at.invariant

pub returns-in_err-push-clause-refused : goal.returns-in_err-push-clause-refused
returns-in_err-push-clause-refused g c =
    anyway c.from_residual-in_err-push.result (line_begun c.args.bytes.now c.loop-at.at c.loop-at.out.items c.loop-at.start c.loop-at.begun c.loop-at.returned c.loop-at-test.false c.loop-at.invariant c.if-begun.true)

pub returns-in_err-push-in-LineEnd-clause-refused : goal.returns-in_err-push-in-LineEnd-clause-refused
returns-in_err-push-in-LineEnd-clause-refused g c =
    anyway c.from_residual.result (line_ended c.args.bytes.now c.loop-at.at c.loop-at-test.true
    (ap (λ r. meaning r (get_or c.args.bytes.now c.loop-at.at 0)) (sym c.loop-at.invariant.returned_is) ∙ sym c.meaning_of.ensures ∙ c.in-LineEnd.is))
