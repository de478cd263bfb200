-- A fact with a relation of two terms more.
use Rattle.std.proofs.Common.{◌≡◌, ◌≤◌, List, [], ◌∷◌, ◌++◌, length, sym, subst, arith}
use Rattle.domain.specs.Locations.{Location}
use Rattle.domain.specs.Terms.{Sum, difference_of}
use Rattle.domain.specs.Facts.{Fact, Relation}
use Rattle.transfer.specs.Shaped.{HaveFewTerms}
use Rattle.judge.specs.Shapes.{HasShape}

few_more : (rs : List Relation) (r : Relation) → length r.sum ≤ 3 → HaveFewTerms rs → HaveFewTerms (rs ++ r ∷ [])
few_more [] r few h = (few, tt)
few_more (q ∷ qs) r few h = (h.0, few_more qs r few h.1)

few_terms : (x y : Location) → length (difference_of x y) ≤ 3
few_terms x y = omega arith

shaped : (f : Fact) (r : Relation) → length r.sum ≤ 3 → HasShape f → HasShape (record f { relations = f.relations ++ r ∷ [] })
shaped f r few h = record { terms = few_more f.relations r few h.terms; short = h.short; few = h.few }

pub related : (f g : Fact) (r : Relation) (x y : Location) → g ≡ record f { relations = f.relations ++ r ∷ [] } → r.sum ≡ difference_of x y → HasShape f → HasShape g
related f g r x y is sum h =
    subst HasShape (sym is) (shaped f r (subst (λ (s : Sum). length s ≤ 3) (sym sum) (few_terms x y)) h)
