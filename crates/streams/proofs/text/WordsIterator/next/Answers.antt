use Rattle.std.proofs.Common.{◌<◌, sym, ap, length, arith}
use Rattle.std.proofs.lemmas.Bool.{eqb-true, eqb-false}
use Rattle.streams.specs.Text.{is_blank}
use Rattle.streams.proofs.TextLemmas.{position_or_len-le, word_step, word_end}
use Rattle.streams.proofs.text.WordsIterator.next.Goals as goal

pub split_at-requires : goal.split_at-requires
split_at-requires c = omega (arith, c.word_len.ensures, position_or_len-le is_blank c.without_blanks-rest.result.now)

pub returns-then-is_empty-clause-steps : goal.returns-then-is_empty-clause-steps
returns-then-is_empty-clause-steps c =
    word_end c.args.self.now.rest.now c.without_blanks-rest.result.now c.split_at.result.0.now c.split_at.result.1.now c.word_len.result
    c.without_blanks-rest.ensures c.word_len.ensures c.split_at.ensures.front c.split_at.ensures.back (eqb-true _ 0 (sym c.if-is_empty.ensures))

pub returns-else-is_empty-clause-steps : goal.returns-else-is_empty-clause-steps
returns-else-is_empty-clause-steps c =
    let some : 0 < length c.split_at.result.0.now = omega (arith, eqb-false _ 0 (sym c.if-is_empty.ensures)) in
    word_step c.args.self.now.rest.now c.without_blanks-rest.result.now c.split_at.result.0.now c.split_at.result.1.now c.word_len.result
    c.without_blanks-rest.ensures c.word_len.ensures c.split_at.ensures.front c.split_at.ensures.back some

pub returns-else-is_empty-clause-goes : goal.returns-else-is_empty-clause-goes
returns-else-is_empty-clause-goes c = record {
  on = λ _. (tt, tt, omega (arith, ap length (returns-else-is_empty-clause-steps c)));
  keeps = tt;
  rests = λ _. tt;
}
