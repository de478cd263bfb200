use Rattle.std.proofs.Common.{◌≡◌, ◌++◌, drop}
use Rattle.std.specs.Prelude.{filter}
use Rattle.domain.specs.Terms.{is_sign}
use Rattle.domain.specs.InCode.{sum_of}
use Rattle.domain.proofs.terms.Sum.push_signed.Given as goal

abbrev pub invariant-loop-at : goal.invariant-loop-at
invariant-loop-at l = (sum_of l.self ++ filter (λ s. is_sign s.coefficient) (drop l.at (sum_of l.other))) ≡ (sum_of l.fn.self ++ filter (λ s. is_sign s.coefficient) (sum_of l.other))
