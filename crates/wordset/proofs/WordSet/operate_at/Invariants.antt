use Rattle.std.proofs.Common.{◌==◌}
use Rattle.instruct.specs.Operates.{operate1_of}
use Rattle.wordset.specs.Words.{nothing}
use Rattle.wordset.specs.Lanes.{words}
use Rattle.wordset.specs.Links.{links_of}
use Rattle.wordset.proofs.IterLemmas.{Gathered}
use Rattle.wordset.proofs.WordSet.operate_at.Given as goal

abbrev pub invariant-loop-ac : goal.invariant-loop-ac
invariant-loop-ac l = record {
  images : Gathered (λ x v. v == (operate1_of l.word (x, l.link)).0) (words l.self) nothing (words l.found) l.ac-iterator;
  afters : Gathered (λ x k. k == (operate1_of l.word (x, l.link)).1) (words l.self) nothing (links_of l.links) l.ac-iterator;
}
