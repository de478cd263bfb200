use Rattle.wordset.specs.Lanes.{words}
use Rattle.wordset.proofs.WordSet.has_sum_with_carry.Goals as goal
use Rattle.wordset.proofs.CarryLemmas.{no_left, no_right, goes}

pub returns-in-None : goal.returns-in-None
returns-in-None c = no_left (words c.args.self.now) (words c.args.other.now) 1 c.in-None.ensures

pub returns-in-None-greatest : goal.returns-in-None-greatest
returns-in-None-greatest c = no_right (words c.args.self.now) (words c.args.other.now) 1 c.in-None-greatest.ensures

pub returns-in-Some-greatest : goal.returns-in-Some-greatest
returns-in-Some-greatest c =
    goes (words c.args.self.now) (words c.args.other.now) c.in-Some.a c.in-Some-greatest.b c.carries.result c.in-Some.ensures c.in-Some-greatest.ensures c.carries.ensures
