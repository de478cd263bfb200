use Rattle.std.proofs.Common.{◌<◌, ◌+◌, ◌∙◌, sym, ap, length, arith}
use Rattle.std.proofs.lemmas.Bool.{eqb-false}
use Rattle.std.proofs.lemmas.List.{take_rest}
use Rattle.std.specs.List.{before_first}
use Rattle.streams.specs.Text.{is_slash}
use Rattle.streams.proofs.TextLemmas.{line_step, line_last}
use Rattle.streams.proofs.text.LinesIterator.next.Goals as goal
use Rattle.streams.proofs.text.LinesIterator.next.Goals.{in-Some, in-None}

pub returns-clause-steps : goal.returns-clause-steps
returns-clause-steps c = elim c.match-place_of.branch [
  | in-Some w ↦
      line_step c.args.self.now.rest.now w.without_return-line.result.now c.without_comment.result.now c.match-place_of.self.rest.now w.in-Some.end
      w.in-Some.ensures w.without_return-line.ensures (c.without_comment.ensures ∙ ap (λ l. before_first is_slash l.now) w.line-is)
      (ap (λ s. s.rest.now) w.self-is ∙ take_rest c.args.self.now.rest.now (w.in-Some.end + 1))
  | in-None w ↦
      let some : 0 < length c.args.self.now.rest.now = omega (arith, eqb-false _ 0 (sym c.if-is_empty.ensures)) in
      line_last c.args.self.now.rest.now c.without_comment.result.now c.match-place_of.self.rest.now
      w.in-None.ensures some (c.without_comment.ensures ∙ ap (λ l. before_first is_slash l.now) w.line-is) (ap (λ s. s.rest.now) w.self-is)
]

pub returns-clause-goes : goal.returns-clause-goes
returns-clause-goes c = record {
  on = λ _. (tt, tt, omega (arith, ap length (returns-clause-steps c)));
  keeps = tt;
  rests = λ _. tt;
}
