use Rattle.std.proofs.Common.{◌+◌, arith, lit≤}
use Rattle.std.proofs.lemmas.Str.Parse.{digits_value-take-le}
use Rattle.streams.proofs.text.decimal_up_to.Goals as goal
use Rattle.streams.proofs.NumberLemmas.{digits_value-take_more}

pub returns-then-value-most : goal.returns-then-value-most
returns-then-value-most c =
    λ small. omega (
      arith,
      c.from.ensures,
      c.loop-digit.invariant.0,
      digits_value-take_more c.args.digits.now c.loop-digit.digit-index c.requires.decimal c.loop-digit-test.true,
      digits_value-take-le 10 c.args.digits.now (c.loop-digit.digit-index + 1) (lit≤ tt),
    )

pub loop-digit-preserved : goal.loop-digit-preserved
loop-digit-preserved c =
    (omega (arith, c.from.ensures, c.loop-digit.invariant.0, digits_value-take_more c.args.digits.now c.loop-digit.digit-index c.requires.decimal c.loop-digit-test.true), omega arith)
