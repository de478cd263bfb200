use Rattle.std.proofs.Common.{◌≡◌, ◌∙◌, ap}
use Rattle.wordset.specs.Words.{meet}
use Rattle.wordset.specs.Lanes.{words}
use Rattle.wordset.proofs.WordSet.keep_shifted.Goals as goal
use Rattle.wordset.proofs.LaneBits.{meet_is}

pub returns : goal.returns
returns c =
    (let both : _ ≡ meet (words c.args.self.now) (words c.shift-shifted.result) =
    rw (← c.self.view_is, ← c.shifted.view_is) (meet_is c.self.inside.lanes c.shifted.inside.lanes c.self.told c.shifted.invariant.long) in
    both ∙ ap (meet (words c.args.self.now)) c.shift-shifted.ensures)
