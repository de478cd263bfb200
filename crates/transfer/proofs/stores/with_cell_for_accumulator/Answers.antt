use Rattle.std.proofs.Common.{◌≡◌, ◌++◌, length, ap, ◌∙◌, arith}
use Rattle.domain.specs.Locations.{Cell}
use Rattle.domain.specs.Terms.{Sum, sum_of_name}
use Rattle.domain.specs.InCode.{sum_of}
use Rattle.transfer.proofs.stores.with_cell_for_accumulator.Goals as goal

pub push_from-requires : goal.push_from-requires
push_from-requires c =
    let one : length (sum_of c.of_name-found.result) ≡ 1 = ap length c.of_name-found.ensures in
    omega (arith, one, c.without_term.ensures.few, c.requires)

pub returns : goal.returns
returns c =
    c.push_from.ensures ∙ ap (λ (s : Sum). s ++ sum_of c.without_term.result) c.of_name-found.ensures
    ∙ ap (λ (s : Sum). sum_of_name (Cell c.args.cell) ++ s) c.without_term.ensures.sum
