-- How much a fact says after a cell was counted up: as much as before.
use Rattle.std.proofs.Common.{◌≡◌, ℕ, ◌≤◌, Bool, true, false, Option, Some, None, List, [], ◌∷◌, ◌++◌, suc, length, map, refl, sym, subst, ap, ◌∙◌}
use Rattle.std.specs.Prelude.{if◌then◌else◌, flat_map}
use Rattle.std.proofs.lemmas.List.{length-map}
use Rattle.wordset.specs.Words.{Words, sums}
use Rattle.domain.specs.Locations.{Cell}
use Rattle.domain.specs.Terms.{Sum, Holding, coefficient_in}
use Rattle.domain.specs.Chains.{after_count}
use Rattle.domain.specs.Chains as said
use Rattle.domain.specs.Facts.{Relation}
use Rattle.domain.specs.Adding.{times}
use Rattle.domain.specs.Moves.{counted_sum, has_behind, moved_relation}
use Rattle.domain.specs.ChainsInCode.{chain_of, AreShort}
use Rattle.domain.specs.declared.chains.Chain.{Chain}
use Rattle.transfer.specs.Shaped.{HaveFewTerms}

length_counted : (a d : ℕ) (sum : Sum) → length (counted_sum a d sum) ≡ length sum
length_counted a d [] = refl
length_counted a d (s ∷ ss) = ap suc (length_counted a d ss)

few_if_free : (b : Bool) (r : Relation) (rs : List Relation) → length r.sum ≤ 3 → HaveFewTerms rs → HaveFewTerms ((if b then [] else r ∷ []) ++ rs)
few_if_free true r rs h k = k
few_if_free false r rs h k = (h, k)

-- its relations have as few terms
pub few_moved : (a : ℕ) (by : Words) (o : Option ℕ) (rs : List Relation) → HaveFewTerms rs → HaveFewTerms (flat_map (moved_relation a by o) rs)
few_moved a by o [] h = tt
few_moved a by (Some d) (r ∷ rs) h = (subst (λ n. n ≤ 3) (sym (length_counted a d r.sum)) h.0, few_moved a by (Some d) rs h.1)
few_moved a by None (r ∷ rs) h =
    few_if_free (has_behind a r.sum) (record { sum = r.sum; set = sums r.set (times (coefficient_in (Holding (Cell a)) r.sum) by) })
    (flat_map (moved_relation a by None) rs) h.0 (few_moved a by None rs h.1)

-- its chains are as short
pub short_counted : (a d : ℕ) (cs : List said.Chain) → AreShort cs → AreShort (map (after_count a d) cs)
short_counted a d [] h = tt
short_counted a d (c ∷ cs) h = (h.0, short_counted a d cs h.1)

-- they are as many
pub as_many_chains : (a : ℕ) (xs ys : List Chain) → map chain_of xs ≡ map (after_count a 1) (map chain_of ys) → length xs ≡ length ys
as_many_chains a xs ys e = sym (length-map xs chain_of) ∙ ap length e ∙ length-map (map chain_of ys) (after_count a 1) ∙ length-map ys chain_of
