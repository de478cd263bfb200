use Rattle.std.proofs.Common.{◌<◌, length, drop, arith}
use Rattle.domain.specs.InCode.{sum_of}
use Rattle.domain.proofs.TermLemmas.{room_left, one_left}
use Rattle.domain.proofs.terms.Sum.push_from.Goals as goal

pub push-requires : goal.push-requires
push-requires c =
    let inside : c.loop-at.at < length (sum_of c.args.other.now) = omega arith in
    room_left (sum_of c.loop-at.self) (drop c.loop-at.at (sum_of c.args.other.now)) (sum_of c.args.self.now) (drop c.args.start (sum_of c.args.other.now))
    c.loop-at.invariant c.requires (one_left (sum_of c.args.other.now) c.loop-at.at inside)
