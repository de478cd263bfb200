use Rattle.std.proofs.Common.{◌≡◌, ◌<◌, ◌∙◌, ◌++◌, ◌∷◌, [], drop, length, sym, ap, arith}
use Rattle.wordset.specs.Words.{Words}
use Rattle.wordset.specs.Lanes.{words}
use Rattle.peripherals.specs.Loading.{image_of}
use Rattle.domain.specs.Terms.{Sum, Summand}
use Rattle.domain.specs.Facts.{Fact, OfSums}
use Rattle.domain.specs.Adding.{adding, adding_all, differences}
use Rattle.domain.specs.Knowing.{said_of}
use Rattle.domain.specs.Narrowing.{of_term, of_part}
use Rattle.domain.specs.Brief.{brief_words}
use Rattle.domain.specs.InCode.{sum_of, summand_of, summand_at}
use Rattle.domain.specs.FactInCode.{fact_in_code}
use Rattle.domain.proofs.PartLemmas.{parts_none, parts_more}
use Rattle.domain.proofs.sum_fact.SumFact.add_parts.Goals as goal

pub returns-then-len-eq0-clause-fact : goal.returns-then-len-eq0-clause-fact
returns-then-len-eq0-clause-fact g c = parts_none (image_of c.args.image.now) (fact_in_code c.args.fact.now) (fact_in_code c.args.self.now) (brief_words c.args.relation.now.set) (sum_of c.args.relation.now.sum) (sym c.len.ensures.count ∙ c.if-len-eq0.true)

pub returns-clause-fact : goal.returns-clause-fact
returns-clause-fact g c =
    let image = image_of c.args.image.now in
    let own : Fact = fact_in_code c.args.fact.now in
    let set : Words = brief_words c.args.relation.now.set in
    let xs : Sum = sum_of c.args.relation.now.sum in
    let some : 0 < length xs = omega (arith, c.len.ensures.count, c.if-len-eq0.false) in
    let one : sum_of c.push.new.self ≡ summand_at xs 0 ∷ [] =
    c.push.ensures ∙ ap (λ (s : Sum). s ++ summand_of c.get-summand.result ∷ []) c.zero-first.ensures ∙ ap (λ (s : Summand). s ∷ []) c.get-summand.ensures in
    let rest : sum_of c.push_from.new.self ≡ drop 1 xs = c.push_from.ensures ∙ ap (λ (s : Sum). s ++ drop 1 xs) c.zero-rest.ensures in
    let of_rest : words c.differences.result ≡ differences set (said_of image own (drop 1 xs)) =
    c.differences.ensures ∙ ap (λ (s : Words). differences s (words c.put_said_of.new.place)) c.put.ensures
    ∙ ap (λ (s : Words). differences set s) (c.put_said_of.ensures ∙ ap (λ (a : Sum). said_of image own a) rest) in
    let of_first : words c.differences-2.result ≡ differences set (said_of image own (summand_at xs 0 ∷ [])) =
    c.differences-2.ensures ∙ ap (λ (s : Words). differences s (words c.put_said_of-2.new.place)) c.put.ensures
    ∙ ap (λ (s : Words). differences set s) (c.put_said_of-2.ensures ∙ ap (λ (a : Sum). said_of image own a) one) in
    let kept : fact_in_code c.keep_term.new.self ≡ adding OfSums (of_term image (summand_at xs 0).coefficient (summand_at xs 0).term (differences set (said_of image own (drop 1 xs)))) (fact_in_code c.args.self.now) =
    c.keep_term.ensures.fact ∙ ap (λ (s : Summand). adding OfSums (of_term image s.coefficient s.term (words c.differences.result)) (fact_in_code c.args.self.now)) c.get-summand.ensures
    ∙ ap (λ (s : Words). adding OfSums (of_term image (summand_at xs 0).coefficient (summand_at xs 0).term s) (fact_in_code c.args.self.now)) of_rest in
    c.add_part.ensures.fact
    ∙ ap (λ (s : Words). adding_all OfSums (of_part image (sum_of c.push_from.new.self) s) (fact_in_code c.keep_term.new.self)) of_first
    ∙ ap (λ (a : Sum). adding_all OfSums (of_part image a (differences set (said_of image own (summand_at xs 0 ∷ [])))) (fact_in_code c.keep_term.new.self)) rest
    ∙ ap (λ (f : Fact). adding_all OfSums (of_part image (drop 1 xs) (differences set (said_of image own (summand_at xs 0 ∷ [])))) f) kept
    ∙ parts_more image own (fact_in_code c.args.self.now) set xs some
