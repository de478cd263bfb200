use Rattle.std.proofs.Common.{◌≡◌, ◌++◌, length, ap, ◌∙◌, arith}
use Rattle.std.proofs.lemmas.List.{length-map}
use Rattle.domain.specs.Locations.{Ac}
use Rattle.domain.specs.Terms.{Sum, sum_of_name, multiplied}
use Rattle.domain.specs.InCode.{sum_of}
use Rattle.transfer.proofs.additions.accumulator_with_rest.Goals as goal

pub push_from-requires : goal.push_from-requires
push_from-requires c =
    let one : length (sum_of c.of_name-found.result) ≡ 1 = ap length c.of_name-found.ensures in
    let same : length (sum_of c.multiplied.result) ≡ length (sum_of c.without_term.result) = ap length c.multiplied.ensures ∙ length-map (sum_of c.without_term.result) _ in
    omega (arith, one, same, c.without_term.ensures.few, c.requires)

pub returns : goal.returns
returns c =
    c.push_from.ensures ∙ ap (λ (s : Sum). s ++ sum_of c.multiplied.result) c.of_name-found.ensures
    ∙ ap (λ (s : Sum). sum_of_name Ac ++ s) (c.multiplied.ensures ∙ ap (λ (s : Sum). multiplied c.args.c s) c.without_term.ensures.sum)
