-- Relations as they're kept in code, and what they mean.
use Rattle.std.specs.Prelude.{◌≡◌, ℕ, ◌<◌, List, [], length, map, take, get_or, slice_set}
use Rattle.wordset.specs.Words.{Words, nothing, meet}
use Rattle.domain.specs.Terms.{Sum}
use Rattle.domain.specs.Adding.{with_relation}
use Rattle.domain.specs.Facts as said
use Rattle.domain.specs.InCode.{sum_of}
use Rattle.domain.specs.Brief.{brief_words}
use Rattle.domain.specs.declared.relations.Relation.{Relation}
use Rattle.domain.specs.declared.relations.Relations.{Relations}

-- The relation that is meant.
abbrev pub relation_of : Relation → said.Relation
relation_of r = record { sum = sum_of r.sum; set = brief_words r.set }

-- The relations that are meant: those in use.
abbrev pub relations_of : {CAP : ℕ} → Relations CAP → List said.Relation
relations_of rs = map relation_of (take rs.count rs.relations)

-- The relation at a place of a list.
abbrev pub relation_at : List said.Relation → ℕ → said.Relation
relation_at rs at = get_or rs at (record { sum = []; set = nothing })

-- The first relation of the sum stands at this place: that is where one more set for the sum is met.
pub record IsFoundAt (sum : Sum) (rs : List said.Relation) (at : ℕ) : Type 0 where
  pub inside : at < length rs
  pub met : (set : Words) → with_relation sum set rs ≡ slice_set rs at (record { sum = sum; set = meet (relation_at rs at).set set })
