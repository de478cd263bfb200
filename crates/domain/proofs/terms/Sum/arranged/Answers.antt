use Rattle.std.proofs.Common.{◌≡◌, ◌+◌, length, arith}
use Rattle.std.specs.Prelude.{filter, not}
use Rattle.domain.specs.Terms.{Summand, is_sign}
use Rattle.domain.specs.InCode.{sum_of}
use Rattle.domain.proofs.TermLemmas.{both_filters, sum_few}
use Rattle.std.proofs.Common.{length-append}
use Rattle.domain.proofs.terms.Sum.arranged.Goals as goal

pub push_signed-requires : goal.push_signed-requires
push_signed-requires c = rw c.zero-sum.ensures (omega (arith, both_filters (λ (s : Summand). is_sign s.coefficient) (sum_of c.collected-collected.result), sum_few c.collected-collected.result))

pub push_unsigned-requires : goal.push_unsigned-requires
push_unsigned-requires c =
    rw (c.push_signed.ensures, c.zero-sum.ensures) (omega (arith, both_filters (λ (s : Summand). is_sign s.coefficient) (sum_of c.collected-collected.result), sum_few c.collected-collected.result))

pub returns-clause-few : goal.returns-clause-few
returns-clause-few c =
    let parts : length (filter (λ (s : Summand). is_sign s.coefficient) (sum_of c.collected-collected.result)) + length (filter (λ (s : Summand). not (is_sign s.coefficient)) (sum_of c.collected-collected.result)) ≡ length (sum_of c.collected-collected.result) =
    both_filters (λ (s : Summand). is_sign s.coefficient) (sum_of c.collected-collected.result) in
    rw (c.push_unsigned.ensures, c.push_signed.ensures, c.zero-sum.ensures)
    (omega (arith, length-append (filter (λ (s : Summand). is_sign s.coefficient) (sum_of c.collected-collected.result)) (filter (λ (s : Summand). not (is_sign s.coefficient)) (sum_of c.collected-collected.result)), c.collected-collected.ensures.few))
