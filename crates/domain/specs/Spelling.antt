-- How a sum is spelled, as it is kept in code.
use Rattle.std.specs.Prelude.{Option, Some, None}
use Rattle.domain.specs.Shapes.{Spelled}
use Rattle.domain.specs.InCode.{sum_of}
use Rattle.domain.specs.declared.shapes.SpelledSum.{SpelledSum}

-- The spelling that is meant, if there is one.
abbrev pub spelled_of : Option SpelledSum → Option Spelled
spelled_of None = None
spelled_of (Some s) = Some (record { sum = sum_of s.sum; sign = s.sign })
