use Rattle.std.proofs.Common.{◌==◌}
use Rattle.std.specs.Prelude.{◌&&◌}
use Rattle.wordset.specs.Words.{nothing}
use Rattle.wordset.specs.Lanes.{words}
use Rattle.wordset.proofs.IterLemmas.{Gathered}
use Rattle.transfer.specs.Operations.{ac_after, link_after}
use Rattle.transfer.proofs.operations.images_from.Given as goal

abbrev pub invariant-loop-ac : goal.invariant-loop-ac
invariant-loop-ac l = Gathered (λ x v. (ac_after l.word x l.before == v) && (link_after l.word x l.before == l.link)) (words l.set) nothing (words l.found) l.ac-iterator
