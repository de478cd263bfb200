-- Outcomes by whether they may come about.
use Rattle.std.proofs.Common.{◌≡◌, ℕ, Bool, true, false, ◌&&◌, List, [], ◌∷◌, ◌++◌, refl, sym, ap, ◌∙◌, append_assoc, lit<}
use Rattle.std.specs.Prelude.{if◌then◌else◌, map}
use Rattle.std.proofs.Math.Path.{fun_ext}
use Rattle.wordset.specs.Words.{Words, all_words, one, shifted, has_some, has_link}
use Rattle.domain.specs.Locations.{Location, Ac, Cell, same}
use Rattle.domain.specs.Facts.{Fact, Place, OfEquations}
use Rattle.domain.specs.Adding.{with_set, with_name}
use Rattle.domain.specs.Chains.{after_count}
use Rattle.domain.specs.Narrowing.{words_known}
use Rattle.domain.specs.Moves.{counted, moved_relations}
use Rattle.transfer.specs.Outcomes.{Successor, Goes, is_alive, alive, ac_of, given, goes}
use Rattle.wordset.proofs.Tests.{some_from}
use Rattle.transfer.proofs.OutcomeLemmas.{has_all}

-- by the rules of equations all of these are asked
pub alive_by_equations : {r x a m h k c : Bool} (p held changed : Words) (f : Fact) → r ≡ has_some p → c ≡ has_some changed →
    h ≡ has_some held → a ≡ has_some (f.set Ac) → m ≡ has_some f.mq → k ≡ has_link f.link →
    x ≡ (r && (h && (a && (m && (k && c))))) → x ≡ is_alive OfEquations p held changed f
alive_by_equations p held changed f er ec eh ea em ek e = e ∙ rw (er, ec, eh, ea, em, ek) refl

-- the outcome that goes on with a fact that is the one that is meant
pub chosen_goes : {b k x : Bool} {os : List Successor} {h : Fact} {held n : Words} (pl : Place) (p : Words) (f : Fact) (changed next : Words) (g : Fact) →
    b ≡ is_alive pl.rules p held changed h → os ≡ given (k && b) (Goes n h) → k ≡ x → held ≡ ac_of pl f → n ≡ next → h ≡ g →
    os ≡ given (x && alive pl p f changed g) (Goes next g)
chosen_goes {b} {k} {x} {os} {h} {held} {n} pl p f changed next g eb eo ek eh en eg =
    eo ∙ ap (λ c. given (k && c) (Goes n h)) eb ∙ ap (λ c. given (c && is_alive pl.rules p held changed h) (Goes n h)) ek
    ∙ ap (λ (w : Words). given (x && is_alive pl.rules p w changed h) (Goes n h)) eh
    ∙ ap (λ (w : Words). given (x && alive pl p f changed h) (Goes w h)) en
    ∙ ap (λ (y : Fact). given (x && alive pl p f changed y) (Goes next y)) eg

pub goes_on : {b : Bool} {os : List Successor} {h : Fact} {held n : Words} (pl : Place) (p : Words) (f : Fact) (changed next : Words) (g : Fact) →
    b ≡ is_alive pl.rules p held changed h → os ≡ given b (Goes n h) → held ≡ ac_of pl f → n ≡ next → h ≡ g → os ≡ goes pl p f changed next g
goes_on pl p f changed next g eb eo eh en eg = chosen_goes {k = true} {x = true} pl p f changed next g eb eo refl eh en eg

-- whether it comes about, by the code's fact and words of AC
pub comes_by : {b : Bool} {h : Fact} {held : Words} (pl : Place) (p : Words) (f : Fact) (changed : Words) (g : Fact) →
    b ≡ is_alive pl.rules p held changed h → held ≡ ac_of pl f → h ≡ g → b ≡ alive pl p f changed g
comes_by {h = h} pl p f changed g eb eh eg =
    eb ∙ ap (λ (w : Words). is_alive pl.rules p w changed h) eh ∙ ap (λ (y : Fact). alive pl p f changed y) eg

-- a name's set that is put twice
pub set_twice : (n : Location) (s t : Words) (sets : Location → Words) → with_set n s sets ≡ with_set n s (with_set n t sets)
set_twice n s t sets = fun_ext (λ m. go (same m n) (sets m))
  where
    go : (b : Bool) (u : Words) → (if b then s else u) ≡ (if b then s else (if b then t else u))
    go true u = refl
    go false u = refl

-- the fact after a count, where the cell has these words
pub counted_to : {h : Fact} {w : Words} (pl : Place) (y : ℕ) (v : Words) (f : Fact) →
    h ≡ record f { set = with_set (Cell y) w f.set; relations = moved_relations y (one 1) f.relations; chains = map (after_count y 1) f.chains } →
    w ≡ v → h ≡ with_name (Cell y) v (counted pl y f)
counted_to pl y v f e q =
    e ∙ ap (λ (x : Words). record f { set = with_set (Cell y) x f.set; relations = moved_relations y (one 1) f.relations; chains = map (after_count y 1) f.chains }) q
    ∙ ap (λ (s : Location → Words). record f { set = s; relations = moved_relations y (one 1) f.relations; chains = map (after_count y 1) f.chains })
    (set_twice (Cell y) v (shifted (words_known pl f (Cell y)) 1) f.set)

-- the same of a count without more
pub counted_is : {h : Fact} {w : Words} (pl : Place) (y : ℕ) (f : Fact) →
    h ≡ record f { set = with_set (Cell y) w f.set; relations = moved_relations y (one 1) f.relations; chains = map (after_count y 1) f.chains } →
    w ≡ shifted (words_known pl f (Cell y)) 1 → h ≡ counted pl y f
counted_is pl y f e q =
    e ∙ ap (λ (x : Words). record f { set = with_set (Cell y) x f.set; relations = moved_relations y (one 1) f.relations; chains = map (after_count y 1) f.chains }) q

-- lists of outcomes side by side
pub both_are : {a b c d : List Successor} → a ≡ b → c ≡ d → a ++ c ≡ b ++ d
both_are {a} {b} {c} {d} h k = ap (λ x. x ++ c) h ∙ ap (λ x. b ++ x) k

pub two_pairs : (a b c d x y z w : List Successor) → a ++ b ≡ x ++ y → c ++ d ≡ z ++ w → a ++ (b ++ (c ++ d)) ≡ x ++ (y ++ (z ++ w))
two_pairs a b c d x y z w h k =
    sym (append_assoc a b (c ++ d)) ∙ ap (λ t. t ++ (c ++ d)) h ∙ ap (λ t. (x ++ y) ++ t) k ∙ append_assoc x y (z ++ w)

pub none_after : {xs ys zs : List Successor} → xs ≡ zs → ys ≡ [] → xs ++ ys ≡ zs
none_after {xs} {ys} {zs} h e = ap (λ y. xs ++ y) e ∙ go xs ∙ h
  where
    go : (os : List Successor) → os ++ [] ≡ os
    go [] = refl
    go (o ∷ os) = ap (λ r. o ∷ r) (go os)

pub none_behind : (xs ys : List Successor) {us vs zs : List Successor} → xs ++ ys ≡ zs → us ≡ [] → vs ≡ [] → xs ++ (ys ++ (us ++ vs)) ≡ zs
none_behind xs ys {us} {vs} h u v = ap (λ t. xs ++ (ys ++ t)) (ap (λ t. t ++ vs) u ∙ v) ∙ ap (λ t. xs ++ t) (none_after {xs = ys} {ys = []} {zs = ys} refl refl) ∙ h

pub none_alone : {xs ys us vs zs : List Successor} → xs ≡ zs → ys ≡ [] → us ≡ [] → vs ≡ [] → xs ++ (ys ++ (us ++ vs)) ≡ zs
none_alone {xs} {ys} h y u v = none_behind xs ys (none_after {xs = xs} {ys = ys} h y) u v

-- targets are there where all words are
pub all_reached : {b : Bool} → b ≡ true → b ≡ has_some all_words
all_reached e = e ∙ sym has_all

-- an outcome that is given where three tests pass, and a fourth
pub test_fails : {os : List Successor} {r : Bool} (a b c d : Bool) (o : Successor) → r ≡ (a && (b && c)) → r ≡ false → os ≡ [] → os ≡ given (a && (b && (c && d))) o
test_fails true true true d o e n z = absurd (let q : true ≡ false = sym e ∙ n in cc)
test_fails true true false d o e n z = z
test_fails true false c d o e n z = z
test_fails false b c d o e n z = z

pub test_passes : {os : List Successor} {r : Bool} (a b c d : Bool) (o : Successor) → r ≡ (a && (b && c)) → r ≡ true → os ≡ given d o → os ≡ given (a && (b && (c && d))) o
test_passes true true true d o e y z = z
test_passes true true false d o e y z = absurd (let q : false ≡ true = sym e ∙ y in cc)
test_passes true false c d o e y z = absurd (let q : false ≡ true = sym e ∙ y in cc)
test_passes false b c d o e y z = absurd (let q : false ≡ true = sym e ∙ y in cc)

-- there is a word that is 0
pub zero_there : true ≡ has_some (one 0)
zero_there = sym (some_from 4096 (one 0) 0 (lit< tt) refl)
