use Rattle.std.proofs.Common.{◌∙◌, ap, refl, ℕ}
use Rattle.wordset.specs.Words.{one, all_words, has_some}
use Rattle.domain.specs.Facts.{Fact}
use Rattle.domain.specs.FactInCode.{fact_in_code}
use Rattle.transfer.specs.Outcomes.{alive, goes}
use Rattle.transfer.specs.Operations.{part2, tested, may_be, cleared2}
use Rattle.facts.specs.PlaceInCode.{place_in_code}
use Rattle.transfer.proofs.ComesLemmas.{test_fails, test_passes}
use Rattle.facts.proofs.place.Place.branch_one_way.Goals as goal

pub returns-then-not-put_branch : goal.returns-then-not-put_branch
returns-then-not-put_branch g c =
    let pl = (place_in_code c.args.self.now) in
    let f : Fact = (fact_in_code c.args.fact.now) in
    let w = c.args.word in
    let l = c.args.link in
    let before : Fact = tested pl.rules pl w f (part2 pl w f l c.args.skip) l in
    test_fails (f.link l) (has_some (part2 pl w f l c.args.skip)) (may_be pl.rules before) (alive pl all_words f all_words (cleared2 w before)) _
    (c.put_branch.ensures.may pl refl refl c.requires.held) c.if-not-put_branch.true c.clear.ensures

pub returns : goal.returns
returns g c =
    let pl = (place_in_code c.args.self.now) in
    let f : Fact = (fact_in_code c.args.fact.now) in
    let w = c.args.word in
    let l = c.args.link in
    let before : Fact = tested pl.rules pl w f (part2 pl w f l c.args.skip) l in
    test_passes (f.link l) (has_some (part2 pl w f l c.args.skip)) (may_be pl.rules before) (alive pl all_words f all_words (cleared2 w before)) _
    (c.put_branch.ensures.may pl refl refl c.requires.held) c.if-not-put_branch.false
    (c.go_on.ensures f c.requires.held ∙ ap (λ (x : Fact). goes pl all_words f all_words (one c.next_address.result) x)
    (c.put_branch.ensures.fact pl refl refl c.requires.held c.if-not-put_branch.false)
    ∙ ap (λ (n : ℕ). goes pl all_words f all_words (one n) (cleared2 w before)) c.next_address.ensures)
