use Rattle.std.proofs.Common.{◌≡◌, ℕ, drop, map}
use Rattle.std.specs.Prelude.{◌&&◌}
use Rattle.wordset.specs.Lanes.{words}
use Rattle.domain.specs.Adding.{set_among}
use Rattle.domain.specs.InCode.{sum_of}
use Rattle.domain.specs.RelationsInCode.{relation_of}
use Rattle.domain.proofs.relations.Relation.keep_among.Given as goal

abbrev pub invariant-loop-relation : goal.invariant-loop-relation
invariant-loop-relation l = (v : ℕ) → (words l.place v && set_among (sum_of l.sum) (map relation_of (drop l.relation-index l.relations)) v) ≡ (words l.fn.place v && set_among (sum_of l.sum) (map relation_of l.relations) v)
