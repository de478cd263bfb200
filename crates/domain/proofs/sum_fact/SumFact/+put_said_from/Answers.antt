use Rattle.std.proofs.Common.{◌≡◌, ◌∙◌, ◌++◌, ◌≤◌, ◌<◌, ◌+◌, drop, length, ap, arith}
use Rattle.wordset.specs.Words.{Words, meet, sums}
use Rattle.wordset.specs.Lanes.{words}
use Rattle.peripherals.specs.Loading.{image_of}
use Rattle.domain.specs.Terms.{Sum, Summand}
use Rattle.domain.specs.Facts.{Fact}
use Rattle.domain.specs.Adding.{times, set_of_sum}
use Rattle.domain.specs.Knowing.{words_of_term}
use Rattle.domain.specs.InCode.{sum_of, summand_at}
use Rattle.domain.specs.FactInCode.{fact_in_code}
use Rattle.domain.proofs.SaidLemmas.{said_none, said_one, said_more}
use Rattle.domain.proofs.sum_fact.SumFact.+put_said_from.Goals as goal

pub returns-then-start-len : goal.returns-then-start-len
returns-then-start-len g t c =
    let past : length (sum_of c.args.sum.now) ≤ c.args.start = omega (arith, c.len-len.ensures.count, c.if-start-len.true) in
    c.one.ensures ∙ said_none (image_of c.args.image.now) (fact_in_code c.args.self.now) (sum_of c.args.sum.now) c.args.start past

pub returns-then-start-len-2 : goal.returns-then-start-len-2
returns-then-start-len-2 g t c =
    let image = image_of c.args.image.now in
    let f : Fact = fact_in_code c.args.self.now in
    let last : c.args.start + 1 ≡ length (sum_of c.args.sum.now) = omega (arith, c.len-len.ensures.count, c.if-start-len-2.true) in
    c.times-first.ensures ∙ ap (λ (s : Words). times c.get-summand.result.coefficient s) c.put_words_of_term.ensures
    ∙ ap (λ (s : Summand). times s.coefficient (words_of_term image f s.term)) c.get-summand.ensures ∙ said_one image f (sum_of c.args.sum.now) c.args.start last

pub returns : goal.returns
returns g t c =
    let image = image_of c.args.image.now in
    let f : Fact = fact_in_code c.args.self.now in
    let xs : Sum = sum_of c.args.sum.now in
    let more : c.args.start + 1 < length xs = omega (arith, c.len-len.ensures.count, c.if-start-len.false, c.if-start-len-2.false) in
    let first : words c.times-first.result ≡ times (summand_at xs c.args.start).coefficient (words_of_term image f (summand_at xs c.args.start).term) =
    c.times-first.ensures ∙ ap (λ (s : Words). times c.get-summand.result.coefficient s) c.put_words_of_term.ensures
    ∙ ap (λ (s : Summand). times s.coefficient (words_of_term image f s.term)) c.get-summand.ensures in
    let part : sum_of c.push_from.new.self ≡ drop c.args.start xs = c.push_from.ensures ∙ ap (λ (s : Sum). s ++ drop c.args.start xs) c.zero-part.ensures in
    c.meet.ensures
    ∙ ap (λ (s : Words). meet s (words c.sums-both.result.0)) (c.put_set_of_sum.ensures ∙ ap (λ (s : Sum). set_of_sum f s) part)
    ∙ ap (λ (s : Words). meet (set_of_sum f (drop c.args.start xs)) s)
    (c.sums-both.ensures.words ∙ ap (λ (s : Words). sums s (words c.put_said_from.new.place)) first
    ∙ ap (λ (s : Words). sums (times (summand_at xs c.args.start).coefficient (words_of_term image f (summand_at xs c.args.start).term)) s) c.put_said_from.ensures)
    ∙ said_more image f xs c.args.start more
