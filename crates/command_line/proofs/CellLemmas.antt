-- The cells that names name, found one name after another.
use Rattle.std.proofs.Common.{arith, ◌≡◌, ◌||◌, ◌∷◌, ◌∙◌, ◌+◌, ◌<◌, ◌≤◌, ℕ, not, Bool, true, false, List, [], Option, None, ap, drop, get_or, length, map, refl, subst, sym}
use Rattle.std.proofs.lemmas.List.{drop_more}
use Rattle.std.proofs.Math.ListN.{drop_of_length-le}
use Rattle.std.specs.Borrow.{Bor}
use native.Mathlib.Numerals.{unary_clauses}
use Rattle.std.proofs.lemmas.Grind.{common_steps}
use Rattle.std.specs.Prelude.{Any, MatchOption}
use Rattle.std.specs.List.{AllZip, list_any}
use Rattle.wordset.specs.Lanes.{words}
use Rattle.wordset.specs.Words.{nothing, union}
use Rattle.command_line.specs.Places.{AreCellsOf}

-- A set has the cells of another one and those that some names name.
pub record AreMoreCells (Names : List ℕ → List ℕ → Type 0) (names : List (List ℕ)) (before : List ℕ) (set : List ℕ) : Type 0 where
  pub sets : List (List ℕ)
  pub each : AllZip Names names sets
  pub all : (v : ℕ) → words set v ≡ (words before v || list_any (λ one. words one v) sets)

or_none : (a : Bool) → a ≡ (a || false)
or_none true = refl
or_none false = refl

or_joined : (a b c : Bool) → ((a || b) || c) ≡ (a || (b || c))
or_joined true b c = refl
or_joined false b c = refl

-- No names name no more cells.
pub none_more : (Names : List ℕ → List ℕ → Type 0) (names : List (List ℕ)) (set : List ℕ) → names ≡ [] → AreMoreCells Names names set set
none_more Names names set e = subst (λ l. AreMoreCells Names l set set) (sym e) (record { sets = []; each = tt; all = λ v. or_none (words set v) })

-- A name before others adds the cells that it names.
pub one_before : (Names : List ℕ → List ℕ → Type 0) (name : List ℕ) (names all : List (List ℕ)) (before one after set : List ℕ)
    → all ≡ name ∷ names → Names name one → words after ≡ union (words before) (words one) → AreMoreCells Names names after set → AreMoreCells Names all before set
one_before Names name names all before one after set e r joined more = subst (λ l. AreMoreCells Names l before set) (sym e) (record {
  sets = one ∷ more.sets;
  each = (r, more.each);
  all = λ v. more.all v ∙ (ap (λ s. s v || list_any (λ other. words other v) more.sets) joined ∙ or_joined (words before v) (words one v) (list_any (λ other. words other v) more.sets));
})

-- A text whose bytes name cells adds them to those of the texts behind it.
pub text_before : (Names : List ℕ → List ℕ → Type 0) (texts : List (Bor (List ℕ))) (i : ℕ) (none : Bor (List ℕ)) (bytes before one after set : List ℕ)
    → i < length texts → bytes ≡ (get_or texts i none).now → Names bytes one → words after ≡ union (words before) (words one)
    → AreMoreCells Names (map (λ it. it.now) (drop (i + 1) texts)) after set → AreMoreCells Names (map (λ it. it.now) (drop i texts)) before set
text_before Names texts i none bytes before one after set h same r joined more =
    one_before Names (get_or texts i none).now _ _ before one after set (ap (map (λ (it : Bor (List ℕ)). it.now)) (drop_more texts i none h)) (subst (λ b. Names b one) same r) joined more

-- No text is left, which names no more cells.
pub no_text : (Names : List ℕ → List ℕ → Type 0) (texts : List (Bor (List ℕ))) (i : ℕ) (set : List ℕ) → length texts ≤ i → AreMoreCells Names (map (λ it. it.now) (drop i texts)) set set
no_text Names texts i set h = none_more Names _ set (ap (map (λ (it : Bor (List ℕ)). it.now)) (drop_of_length-le texts h))

-- A set that is not empty has some word.
pub some_of : (b : Bool) → false ≡ not b → b ≡ true
some_of true e = refl
some_of false e = e

-- A set that is empty has no word.
pub none_of : (b : Bool) → true ≡ not b → b ≡ false
none_of true e = e
none_of false e = refl

-- What is added to no cell is all.
pub from_none : (Names : List ℕ → List ℕ → Type 0) (names : List (List ℕ)) (before set : List ℕ) → words before ≡ nothing → AreMoreCells Names names before set → AreCellsOf Names names set
from_none Names names before set e more = record {
  sets = more.sets;
  each = more.each;
  all = λ v. more.all v ∙ ap (λ s. s v || list_any (λ other. words other v) more.sets) e;
}

-- The first of some names is of a kind.
pub one_first : (Is : List ℕ → Type 0) (name : List ℕ) (names all : List (List ℕ)) → all ≡ name ∷ names → Is name → Any Is all
one_first Is name names all e is = subst (Any Is) (sym e) (0, name, grind (arith, common_steps), refl, is)

-- One of the names behind the first is of a kind.
pub one_behind : (Is : List ℕ → Type 0) (name : List ℕ) (names all : List (List ℕ)) → all ≡ name ∷ names → Any Is names → Any Is all
one_behind Is name names all e (k, x, h, same, is) = subst (Any Is) (sym e) (k + 1, x, grind (arith, common_steps), simp unary_clauses same, is)

-- The first of the texts from an index on is of a kind.
pub text_first : (Is : List ℕ → Type 0) (texts : List (Bor (List ℕ))) (i : ℕ) (none : Bor (List ℕ)) (bytes : List ℕ)
    → i < length texts → bytes ≡ (get_or texts i none).now → Is bytes → Any Is (map (λ it. it.now) (drop i texts))
text_first Is texts i none bytes h same is =
    one_first Is (get_or texts i none).now _ _ (ap (map (λ (it : Bor (List ℕ)). it.now)) (drop_more texts i none h)) (subst Is same is)

-- One of the texts behind an index is of a kind.
pub text_behind : (Is : List ℕ → Type 0) (texts : List (Bor (List ℕ))) (i : ℕ) (none : Bor (List ℕ)) (bytes : List ℕ)
    → i < length texts → bytes ≡ (get_or texts i none).now → Any Is (map (λ it. it.now) (drop (i + 1) texts)) → Any Is (map (λ it. it.now) (drop i texts))
text_behind Is texts i none bytes h same one = one_behind Is (get_or texts i none).now _ _ (ap (map (λ (it : Bor (List ℕ)). it.now)) (drop_more texts i none h)) one

-- A result that is none meets what is said of one.
pub none_is : {X : Type 0} (result : Option X) (P : Type 0) (Q : X → Type 0) → result ≡ None → P → MatchOption result P Q
none_is result P Q e is = subst (λ it. MatchOption it P Q) (sym e) is
