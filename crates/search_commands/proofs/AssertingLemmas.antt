-- When sets, assertions and lists of assertions are the same.
use Rattle.std.proofs.Common.{ℕ, ◌≡◌, ◌<◌, ◌≤◌, ◌+◌, ◌++◌, ◌∙◌, List, ap, arith, drop, get_or, length, map, sym, take}
use Rattle.std.proofs.lemmas.List.{get_or-map, get_or-take, length-append, length-map, take-append-drop, take-append-le, take_all, take_more_same}
use Rattle.wordset.specs.Lanes.{words}
use Rattle.wordset.specs.Words.{IsWithin, Words}
use Rattle.wordset.proofs.SetLemmas.{equal_words, words_past}
use Rattle.wordset.proofs.Tests.{both_ways}
use Rattle.declaration.specs.Declaration.{Assertion as Required, PlaceAssertion as RequiredAtPlaces, ReturnAssertion as RequiredAtReturns}
use Rattle.declaration.specs.DeclarationInCode.{assertion_of, place_assertion_of, return_assertion_of}
use Rattle.declaration.specs.declared.Assertion.{Assertion}
use Rattle.declaration.specs.declared.PlaceAssertion.{PlaceAssertion}
use Rattle.declaration.specs.declared.ReturnAssertion.{ReturnAssertion}
use Rattle.declaration.specs.declared.Subject.{Subject}

-- a set is within one that is equal
pub within_same : (a b : Words) → a ≡ b → IsWithin a b
within_same a b e v small has = sym (ap (λ (s : Words). s v) e) ∙ has

-- two sets, each within the other
pub same_sets : (a b : List ℕ) → IsWithin (words a) (words b) → IsWithin (words b) (words a) → words a ≡ words b
same_sets a b there back = equal_words (words a) (words b) (words_past a) (words_past b) (λ v h. both_ways (words a v) (words b v) (there v h) (back v h))

-- the images of two lists up to a place
abbrev pub AgreeBelow : {A B : Type 0} → (A → B) → ℕ → List A → List A → Type 0
AgreeBelow f n xs ys = take n (map f xs) ≡ take n (map f ys)

-- one more image is the same
pub agree_more : {A B : Type 0} (f : A → B) (xs ys : List A) (n m : ℕ) (x y : A) → m ≡ n + 1 → n < length xs → n < length ys → ((d : A) → x ≡ get_or xs n d)
    → ((d : A) → y ≡ get_or ys n d) → f x ≡ f y → AgreeBelow f n xs ys → AgreeBelow f m xs ys
agree_more f xs ys n m x y next left right is_x is_y same before =
    rw next (take_more_same (map f xs) (map f ys) n (f x) (omega (arith, left, length-map xs f)) (omega (arith, right, length-map ys f)) before
    (get_or-map f xs n x (f x) left ∙ ap f (sym (is_x x)) ∙ same ∙ ap f (is_y y) ∙ sym (get_or-map f ys n y (f x) right)))

-- the images at a place are the same if those up to behind it are
pub agree_there : {A B : Type 0} (f : A → B) (xs ys : List A) (n : ℕ) (x y : A) → n < length xs → n < length ys → ((d : A) → x ≡ get_or xs n d)
    → ((d : A) → y ≡ get_or ys n d) → AgreeBelow f (n + 1) xs ys → f x ≡ f y
agree_there f xs ys n x y left right is_x is_y same =
    ap f (is_x x) ∙ sym (get_or-map f xs n x (f x) left) ∙ sym (get_or-take (n + 1) (map f xs) n (f x) (omega arith))
    ∙ ap (λ (l : List _). get_or l n (f x)) same ∙ get_or-take (n + 1) (map f ys) n (f x) (omega arith)
    ∙ get_or-map f ys n y (f x) right ∙ ap f (sym (is_y y))

-- lists whose images are the same, or of which one begins with the images of the other, agree up to each place of both
pub agree_if_same : {A B : Type 0} (f : A → B) (xs ys : List A) (n : ℕ) → map f xs ≡ map f ys → AgreeBelow f n xs ys
agree_if_same f xs ys n e = ap (λ (l : List _). take n l) e

pub agree_if_begun : {A B : Type 0} (f : A → B) (xs ys : List A) (others : List B) (n : ℕ) → n ≤ length ys → map f xs ≡ map f ys ++ others → AgreeBelow f n xs ys
agree_if_begun f xs ys others n small e = ap (λ (l : List _). take n l) e ∙ take-append-le n (map f ys) others (omega (arith, small, length-map ys f))

-- lists of one length that agree up to their end
pub all_agree : {A B : Type 0} (f : A → B) (xs ys : List A) (n : ℕ) → length xs ≡ n → length ys ≡ n → AgreeBelow f n xs ys → map f xs ≡ map f ys
all_agree f xs ys n left right same =
    sym (take_all n (map f xs) (omega (arith, left, length-map xs f))) ∙ same ∙ take_all n (map f ys) (omega (arith, right, length-map ys f))

-- lists that agree up to the end of the second
pub begun : {A B : Type 0} (f : A → B) (xs ys : List A) (n : ℕ) → length ys ≡ n → AgreeBelow f n xs ys → (others : List B) × (map f xs ≡ map f ys ++ others)
begun f xs ys n right same =
    (drop n (map f xs), sym (take-append-drop n (map f xs)) ∙ ap (λ (l : List _). l ++ drop n (map f xs)) (same ∙ take_all n (map f ys) (omega (arith, right, length-map ys f))))

-- lists of different lengths have different images
pub same_lengths : {A B : Type 0} (f : A → B) (xs ys : List A) → map f xs ≡ map f ys → length xs ≡ length ys
same_lengths f xs ys e = sym (length-map xs f) ∙ ap (λ (l : List _). length l) e ∙ length-map ys f

-- a list that begins with the images of another is no shorter
pub no_shorter : {A B : Type 0} (f : A → B) (xs ys : List A) (others : List B) → map f xs ≡ map f ys ++ others → length ys ≤ length xs
no_shorter f xs ys others e =
    let whole : length (map f xs) ≡ length (map f ys) + length others = ap (λ (l : List _). length l) e ∙ length-append (map f ys) others in
    omega (arith, whole, length-map xs f, length-map ys f)

-- assertions of the same parts
pub same_assertions : (a b : Assertion) → a.subject ≡ b.subject → words a.words ≡ words b.words → assertion_of a ≡ assertion_of b
same_assertions a b e f =
    let make : Subject → Words → Required = λ s w. record { subject = s; words = w } in
    ap (λ (s : Subject). make s (words a.words)) e ∙ ap (make b.subject) f

pub same_at_places : (a b : PlaceAssertion) → words a.places ≡ words b.places → assertion_of a.assertion ≡ assertion_of b.assertion → place_assertion_of a ≡ place_assertion_of b
same_at_places a b e f =
    let make : Words → Required → RequiredAtPlaces = λ p r. record { places = p; assertion = r } in
    ap (λ (p : Words). make p (assertion_of a.assertion)) e ∙ ap (make (words b.places)) f

pub same_at_returns : (a b : ReturnAssertion) → a.entry ≡ b.entry → words a.offsets ≡ words b.offsets → assertion_of a.assertion ≡ assertion_of b.assertion
    → return_assertion_of a ≡ return_assertion_of b
same_at_returns a b e f h =
    let make : ℕ → Words → Required → RequiredAtReturns = λ n o r. record { entry = n; offsets = o; assertion = r } in
    ap (λ n. make n (words a.offsets) (assertion_of a.assertion)) e ∙ ap (λ (o : Words). make b.entry o (assertion_of a.assertion)) f ∙ ap (make b.entry (words b.offsets)) h
