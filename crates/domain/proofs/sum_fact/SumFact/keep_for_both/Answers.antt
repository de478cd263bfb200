use Rattle.std.proofs.Common.{◌≡◌, ◌<◌, ◌∙◌, ◌++◌, ◌∷◌, [], drop, length, sym, ap, arith}
use Rattle.wordset.specs.Words.{Words}
use Rattle.peripherals.specs.Loading.{image_of}
use Rattle.domain.specs.LocationsInCode.{location_of}
use Rattle.domain.specs.Terms.{Sum, Summand}
use Rattle.domain.specs.Facts.{Fact, OfSums}
use Rattle.domain.specs.Adding.{adding_all, differences}
use Rattle.domain.specs.Knowing.{said_of}
use Rattle.domain.specs.Narrowing.{of_part}
use Rattle.domain.specs.Brief.{brief_words}
use Rattle.domain.specs.InCode.{sum_of, summand_of, summand_at}
use Rattle.domain.specs.FactInCode.{fact_in_code}
use Rattle.domain.proofs.PartLemmas.{parts_none, parts_more}
use Rattle.domain.proofs.sum_fact.SumFact.keep_for_both.Goals as goal

pub returns-then-len-eq0 : goal.returns-then-len-eq0
returns-then-len-eq0 g c = λ f h. h ∙ ap (λ (x : Fact). x.set (location_of c.args.name.now))
    (parts_none (image_of c.args.image.now) (fact_in_code c.args.self.now) f (brief_words c.args.relation.now.set) (sum_of c.args.relation.now.sum) (sym c.len.ensures.count ∙ c.if-len-eq0.true))

pub returns : goal.returns
returns g c = λ f h.
    let image = image_of c.args.image.now in
    let own : Fact = fact_in_code c.args.self.now in
    let set : Words = brief_words c.args.relation.now.set in
    let xs : Sum = sum_of c.args.relation.now.sum in
    let some : 0 < length xs = omega (arith, c.len.ensures.count, c.if-len-eq0.false) in
    let one : sum_of c.push.new.self ≡ summand_at xs 0 ∷ [] =
    c.push.ensures ∙ ap (λ (s : Sum). s ++ summand_of c.get.result ∷ []) c.zero-first.ensures ∙ ap (λ (s : Summand). s ∷ []) c.get.ensures in
    let rest : sum_of c.push_from.new.self ≡ drop 1 xs = c.push_from.ensures ∙ ap (λ (s : Sum). s ++ drop 1 xs) c.zero-rest.ensures in
    c.keep_for_rest-2.ensures (adding_all OfSums (of_part image (sum_of c.push.new.self) (differences set (said_of image own (sum_of c.push_from.new.self)))) f) (c.keep_for_rest.ensures f h)
    ∙ ap (λ (a : Sum). (adding_all OfSums (of_part image (sum_of c.push_from.new.self) (differences set (said_of image own a)))
    (adding_all OfSums (of_part image a (differences set (said_of image own (sum_of c.push_from.new.self)))) f)).set (location_of c.args.name.now)) one
    ∙ ap (λ (b : Sum). (adding_all OfSums (of_part image b (differences set (said_of image own (summand_at xs 0 ∷ []))))
    (adding_all OfSums (of_part image (summand_at xs 0 ∷ []) (differences set (said_of image own b))) f)).set (location_of c.args.name.now)) rest
    ∙ ap (λ (x : Fact). x.set (location_of c.args.name.now)) (parts_more image own f set xs some)
