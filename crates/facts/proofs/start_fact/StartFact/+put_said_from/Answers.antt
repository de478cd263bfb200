use Rattle.std.proofs.Common.{◌++◌, drop, ap, ◌∙◌, arith}
use Rattle.wordset.specs.Lanes.{words}
use Rattle.peripherals.specs.Loading.{image_of}
use Rattle.domain.specs.Terms.{Sum}
use Rattle.domain.specs.InCode.{sum_of, summand_of}
use Rattle.domain.proofs.SaidLemmas.{said_none}
use Rattle.facts.specs.StartInCode.{start_in_code}
use Rattle.facts.proofs.BeginningLemmas.{last_said, more_said}
use Rattle.facts.proofs.start_fact.StartFact.+put_said_from.Goals as goal

pub returns-then-start-len : goal.returns-then-start-len
returns-then-start-len t c = c.one.ensures ∙ said_none (image_of c.args.image.now) (start_in_code c.args.self.now) (sum_of c.args.sum.now) c.args.start (omega (arith, c.len-len.ensures.count, c.if-start-len.true))

pub returns-then-start-len-2 : goal.returns-then-start-len-2
returns-then-start-len-2 t c =
    last_said (image_of c.args.image.now) (start_in_code c.args.self.now) (sum_of c.args.sum.now) c.args.start (summand_of c.get-summand.result)
    (words c.put_words_of_term.new.place) (words c.times-first.result) (omega (arith, c.len-len.ensures.count, c.if-start-len-2.true)) c.get-summand.ensures
    c.put_words_of_term.ensures c.times-first.ensures

pub returns : goal.returns
returns t c =
    more_said (image_of c.args.image.now) (start_in_code c.args.self.now) (sum_of c.args.sum.now) (sum_of c.push_from.new.self) c.args.start (summand_of c.get-summand.result)
    (words c.put_words_of_term.new.place) (words c.times-first.result) (words c.put_said_from.new.place) (words c.sums-both.result.0) (words c.put_set_of_sum.new.place) _
    (omega (arith, c.len-len.ensures.count, c.if-start-len.false, c.if-start-len-2.false)) c.get-summand.ensures
    c.put_words_of_term.ensures c.times-first.ensures c.put_said_from.ensures c.sums-both.ensures.words
    (c.push_from.ensures ∙ ap (λ (s : Sum). s ++ drop c.args.start (sum_of c.args.sum.now)) c.zero-part.ensures) c.put_set_of_sum.ensures c.meet.ensures
