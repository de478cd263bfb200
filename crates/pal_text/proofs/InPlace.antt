-- A list changed in place, element by element.
use Rattle.std.proofs.Common.{◌≡◌, ◌∙◌, sym, ap, ℕ, ◌+◌, ◌<◌, List, [], ◌∷◌, ◌++◌, arith, length, take, drop, set, get_or, append_assoc}
use Rattle.std.specs.Prelude.{map}
use Rattle.std.proofs.lemmas.List.{drop_more, get_or_at, set_at, map_more, length-map, length-take-le}

pub in_place_more : {X : Type 0} (f : X → X) (xs ys : List X) (i : ℕ) (d : X) → ys ≡ map f (take i xs) ++ drop i xs → i < length xs
    → set ys i (f (get_or ys i d)) ≡ map f (take (i + 1) xs) ++ drop (i + 1) xs
in_place_more f xs ys i d is h =
    let front : length (map f (take i xs)) ≡ i = length-map (take i xs) f ∙ length-take-le i xs (omega arith) in
    let split : ys ≡ map f (take i xs) ++ get_or xs i d ∷ drop (i + 1) xs = is ∙ ap (λ l. map f (take i xs) ++ l) (drop_more xs i d h) in
    let here : get_or ys i d ≡ get_or xs i d = ap (λ l. get_or l i d) split ∙ get_or_at (map f (take i xs)) (get_or xs i d) (drop (i + 1) xs) d i front in
    ap (λ x. set ys i (f x)) here
    ∙ ap (λ l. set l i (f (get_or xs i d))) split
    ∙ set_at (map f (take i xs)) (get_or xs i d) (drop (i + 1) xs) (f (get_or xs i d)) i front
    ∙ sym (append_assoc (map f (take i xs)) (f (get_or xs i d) ∷ []) (drop (i + 1) xs))
    ∙ ap (λ l. l ++ drop (i + 1) xs) (sym (map_more f xs i d h))
