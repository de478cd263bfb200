use Rattle.std.proofs.Common.{◌≤◌, ◌+◌, ◌*◌, ◌/◌, arith}
use Rattle.wordset.specs.Lanes.{words}
use Rattle.wordset.proofs.WordSet.first_from.Goals as goal
use Rattle.wordset.proofs.Firsts.{first_in_rest, first_later, none_in_rest}

pub returns : goal.returns
returns c =
    let later : c.args.from ≤ 64 * (c.args.from / 64 + 1) = omega arith in
    first_later c.first_in_lanes.result (words c.args.self.now) c.args.from (64 * (c.args.from / 64 + 1)) later
    (λ v f h. rw (← c.self.view_is) (none_in_rest c.self.inside.lanes c.args.from c.if-rest-ne0.false v f h)) c.first_in_lanes.ensures

pub from_index-requires : goal.from_index-requires
from_index-requires c = (first_in_rest c.self.inside.lanes c.args.from c.self.invariant c.if-from-ge4096.false c.if-rest-ne0.true).small

pub returns-then-rest-ne0 : goal.returns-then-rest-ne0
returns-then-rest-ne0 c = rw (← c.self.view_is, c.from_index.ensures) (first_in_rest c.self.inside.lanes c.args.from c.self.invariant c.if-from-ge4096.false c.if-rest-ne0.true)
