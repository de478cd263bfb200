-- What contracts of code say of relations beside the definitions.
use Rattle.std.specs.Prelude.{ℕ, ◌+◌, ◌*◌, ◌==◌, ◌≤◌, Bool, not, filter, ◌&&◌, if◌then◌else◌, Option, Some, None, List, [], ◌∷◌, length, nat_lt}
use Rattle.wordset.specs.Words.{Words, some_below, has_some, without, sums, only}
use Rattle.domain.specs.Locations.{Cell}
use Rattle.domain.specs.Terms as said
use Rattle.domain.specs.Terms.{Sum, Holding}
use Rattle.domain.specs.Chains.{Chain}
use Rattle.domain.specs.Facts.{Relation, Fact}
use Rattle.domain.specs.Narrowing.{narrowed}
use Rattle.domain.specs.Moves.{moved_relation}
use Rattle.domain.specs.ChainsInCode.{AreShort}
use Rattle.processor.specs.Runs.{Image}
use Rattle.domain.specs.InCode.{term_of}
use Rattle.domain.specs.declared.terms.Term.{Term}
use Rattle.transfer.specs.Additions.{has_ac, names, if_without_ac}
use Rattle.transfer.specs.Operations.{ac_after, link_after}
use Rattle.transfer.specs.Stores.{has_all_words, begun_on, has_chain_on}

-- Each relation's sum has at most three terms, as the sums have of which relations may speak.
abbrev pub HaveFewTerms : List Relation → Type 0
HaveFewTerms [] = Unit {0}
HaveFewTerms (r ∷ rs) = (length r.sum ≤ 3) × HaveFewTerms rs

-- A narrowed fact keeps what rows ask of a fact: relations of few terms, and chains with room for one step more.
abbrev pub NarrowingKeepsShape : Type 0
NarrowingKeepsShape =
    (image : Image) (f : Fact) → HaveFewTerms f.relations → AreShort f.chains →
    HaveFewTerms (narrowed image f).relations × AreShort (narrowed image f).chains

-- The set has 7777, or it has another word.
abbrev pub has_last_or_other : Bool → Words → Bool
has_last_or_other last set = if last then set 4095 else has_some (without 4095 set)

-- The term that is meant, if there is one.
abbrev pub term_if : Option Term → Option said.Term
term_if None = None
term_if (Some t) = Some (term_of t)

-- That a sum is in a set.
abbrev pub told : Sum → Words → Relation
told sum set = record { sum = sum; set = set }

-- What a relation says after TAD of a word of a set, of which no term is known.
abbrev pub moved_after_tad : Words → Relation → List Relation
moved_after_tad operand r =
    if has_ac r.sum then record { sum = r.sum; set = sums r.set operand } ∷ [] else if_without_ac r

-- The sums of a word and each word of a set that come with this carry, less 10000 where there is one.
abbrev pub sums_with : ℕ → ℕ → Words → Words
sums_with carry x b v = nat_lt v 4096 && some_below 4096 (λ y. b y && (x + y == v + carry * 4096))

-- What a relation without the accumulator says after it was stored in the cell y; the words of AC - y are `by`.
abbrev pub besides_store : ℕ → Words → Relation → List Relation
besides_store y by r =
    if names (Cell y) r.sum then (if has_all_words by then [] else moved_relation y by (only by) r) else r ∷ []

-- Those of some chains on whose cells none of others is.
abbrev pub begun_beside : List Chain → List Chain → List Chain
begun_beside chains begun = filter (λ c. not (has_chain_on c.cell chains)) begun

-- The chain that begins on a cell, if there is one, by the word that AC is more.
abbrev pub begun_at : Option ℕ → Words → Option ℕ → List Chain
begun_at None links k = []
begun_at (Some x) links k = begun_on (Holding (Cell x)) k links

-- The relation, if it stays.
abbrev pub if_stays : Bool → Relation → List Relation
if_stays stays r = if stays then r ∷ [] else []

-- The words that AC may hold after a word of group 1 where the link was k and is l then.
abbrev pub images_from : ℕ → ℕ → Words → ℕ → Words
images_from w l ac k v = some_below 4096 (λ x. ac x && ((ac_after w x k == v) && (link_after w x k == l)))
