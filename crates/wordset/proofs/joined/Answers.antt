use Rattle.wordset.proofs.joined.Goals as goal
use Rattle.wordset.proofs.Shifts.{joined_lanes}

pub returns : goal.returns
returns c = joined_lanes c.args.near c.args.far c.args.by c.fits-near.0 c.fits-far.0
