use Rattle.std.proofs.Common.{◌<◌, ◌≡◌, ◌∙◌, sym, ap, length, arith, Some, true}
use Rattle.std.proofs.lemmas.Bool.{eqb-false}
use Rattle.std.specs.List.{list_all}
use Rattle.std.specs.Char.{is_ascii_digit}
use Rattle.streams.proofs.NumberLemmas.{decimal_between-some}
use Rattle.streams.proofs.text.decimal_between.Goals as goal

pub returns-else-value-least : goal.returns-else-value-least
returns-else-value-least c =
    let some : 0 < length c.args.digits.now = omega (arith, eqb-false _ 0 (sym c.if-is_empty.ensures)) in
    let all : list_all is_ascii_digit c.args.digits.now ≡ true = cc in
    let value = c.in_ok-value.ensures in
    ap Some value.1 ∙ sym (decimal_between-some c.args.least c.args.most c.args.digits.now some all (omega (arith, value.1)) value.0)
