use Rattle.std.proofs.Common.{arith, refl}
use Rattle.wordset.specs.Lanes.{words}
use Rattle.wordset.proofs.WordSet.has_sum_without_carry.Goals as goal
use Rattle.wordset.proofs.CarryLemmas.{no_left, no_right, stays}
use Rattle.wordset.proofs.SetLemmas.{words_are}
use Rattle.wordset.specs.Words.{nothing}

pub returns-in-None : goal.returns-in-None
returns-in-None c = no_left (words c.args.self.now) (words c.args.other.now) 0 (words_are c.args.self.now nothing (λ v g. refl) (λ v h. c.in-None.ensures v (omega arith) h))

pub returns-in-None-first_from : goal.returns-in-None-first_from
returns-in-None-first_from c = no_right (words c.args.self.now) (words c.args.other.now) 0 (words_are c.args.other.now nothing (λ v g. refl) (λ v h. c.in-None-first_from.ensures v (omega arith) h))

pub returns-in-Some-first_from : goal.returns-in-Some-first_from
returns-in-Some-first_from c =
    stays (words c.args.self.now) (words c.args.other.now) c.in-Some.a c.in-Some-first_from.b c.carries.result c.in-Some.ensures c.in-Some-first_from.ensures c.carries.ensures
