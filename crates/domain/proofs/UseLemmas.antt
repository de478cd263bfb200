-- The places of an array that are in use, seen as a list of what they mean.
use Rattle.std.proofs.Common.{◌≡◌, ℕ, ◌<◌, ◌≤◌, List, map, take, get_or, length, ap, ◌∙◌, arith}
use Rattle.std.specs.Prelude.{slice_set}
use Rattle.std.proofs.Math.Seq.{take-set-lt}
use Rattle.std.proofs.lemmas.List.{map-set, get_or-map, get_or-take, length-map, length-take}

-- One in use is changed.
pub set_in_use : {A B : Type 0} (f : A → B) (xs : List A) (n i : ℕ) (y : A) → i < n → map f (take n (slice_set xs i y)) ≡ slice_set (map f (take n xs)) i (f y)
set_in_use f xs n i y lt = ap (map f) (take-set-lt n xs i y lt) ∙ map-set f (take n xs) i y

-- A place of the list is one in use.
pub count_in_use : {A B : Type 0} (f : A → B) (xs : List A) (n i : ℕ) → i < length (map f (take n xs)) → i < n
count_in_use f xs n i h = omega (arith, h, length-map (take n xs) f, length-take n xs)

-- What an array has at a place in use, whatever it is said to have past its end.
pub place_in_use : {A B : Type 0} (f : A → B) (xs : List A) (n i : ℕ) (x : A) (d : B) → i < n → n ≤ length xs → get_or (map f (take n xs)) i d ≡ f (get_or xs i x)
place_in_use f xs n i x d lt le =
    let inside : i < length (take n xs) = omega (arith, length-take n xs) in
    get_or-map f (take n xs) i x d inside ∙ ap f (get_or-take n xs i x lt)
