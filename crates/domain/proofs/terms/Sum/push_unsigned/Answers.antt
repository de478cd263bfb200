use Rattle.std.proofs.Common.{◌<◌, length, drop, sym, ap, ◌∙◌, arith}
use Rattle.std.specs.Prelude.{filter, not}
use Rattle.domain.specs.Locations.{Ac}
use Rattle.domain.specs.Terms.{Summand, Holding, is_sign}
use Rattle.domain.specs.InCode.{sum_of, summand_of}
use Rattle.domain.proofs.TermLemmas.{room_left, some_left}
use Rattle.domain.proofs.terms.Sum.push_unsigned.Goals as goal

pub push-requires : goal.push-requires
push-requires c =
    let inside : c.loop-at.at < length (sum_of c.args.other.now) = omega arith in
    room_left (sum_of c.loop-at.self) (filter (λ (s : Summand). not (is_sign s.coefficient)) (drop c.loop-at.at (sum_of c.args.other.now))) (sum_of c.args.self.now) (filter (λ (s : Summand). not (is_sign s.coefficient)) (sum_of c.args.other.now))
    c.loop-at.invariant c.requires
    (some_left (λ (s : Summand). not (is_sign s.coefficient)) (sum_of c.args.other.now) c.loop-at.at (summand_of c.get-summand.result) (record { coefficient = 0; term = Holding Ac }) inside c.get-summand.ensures (ap not (sym c.is_sign.ensures ∙ c.if-not-is_sign.true)))
