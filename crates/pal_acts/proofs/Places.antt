-- A place in a list of acts: what stands before it, newest first.
use Rattle.std.proofs.Common.{◌≡◌, ◌∙◌, sym, ap, ℕ, suc, ◌+◌, ◌<◌, List, [], ◌∷◌, ◌++◌, length, take, drop, get_or, add-one, drop-cons, Some}
use Rattle.std.specs.Prelude.{reverse, slice_get, Ok}
use Rattle.std.proofs.lemmas.List.{take_more, take-append-drop, reverse-append, reverse-reverse}
use Rattle.std.proofs.lemmas.Option.{slice_get-get_or}
use Rattle.pal_text.specs.declared.names.Name.{Name}
use Rattle.pal_acts.specs.Acts.{PlacedAct}
use Rattle.pal_acts.specs.Values.{known}
use Rattle.pal_acts.specs.Meaning.{location_after, location, taken, next_taken, Defines, one_more}
use Rattle.pal_acts.proofs.Grown.{next_extends, act_stays, stays}

some_is : {X : Type 0} (x y : X) → Some x ≡ Some y → x ≡ y
some_is x y e = cc

there : {X : Type 0} (xs : List X) (i : ℕ) (x : X) → i < length xs → slice_get xs i ≡ Some x → get_or xs i x ≡ x
there xs i x h e = some_is (get_or xs i x) x (sym (slice_get-get_or xs i x h) ∙ e)

-- the elements up to one more, the newest first
pub turned_more : {X : Type 0} (xs : List X) (i : ℕ) (x : X) → i < length xs → slice_get xs i ≡ Some x → reverse (take (i + 1) xs) ≡ x ∷ reverse (take i xs)
turned_more xs i x h e =
    ap reverse (take_more xs i x h) ∙ reverse-append (take i xs) (get_or xs i x ∷ []) ∙ ap (λ y. y ∷ reverse (take i xs)) (there xs i x h e)

pub split_at : {X : Type 0} (xs : List X) (i : ℕ) (x : X) → i < length xs → slice_get xs i ≡ Some x → xs ≡ reverse (reverse (take i xs)) ++ x ∷ drop (i + 1) xs
split_at xs i x h e =
    let rest : drop i xs ≡ x ∷ drop (i + 1) xs = rw add-one (drop-cons xs i x h ∙ ap (λ y. y ∷ drop (suc i) xs) (there xs i x h e)) in
    sym (take-append-drop i xs) ∙ ap (λ l. take i xs ++ l) rest ∙ ap (λ l. l ++ x ∷ drop (i + 1) xs) (sym (reverse-reverse (take i xs)))

-- an act went through
pub record Comes (perm : List (Name × ℕ)) (limit : ℕ) (acts : List PlacedAct) (symbols : List (Name × ℕ)) (here : ℕ) : Type 0 where
  pub defines : Defines perm limit acts symbols
  pub here_is : here ≡ location (known perm symbols) acts

pub goes_on : (perm : List (Name × ℕ)) (limit : ℕ) (before : List PlacedAct) (next : PlacedAct) (symbols new : List (Name × ℕ)) (here here' : ℕ)
    → Comes perm limit before symbols here → taken perm limit symbols here next.terms next.act ≡ Ok new
    → here' ≡ location_after (known perm symbols) here next.terms next.act → Comes perm limit (next ∷ before) new here'
goes_on perm limit before next symbols new here here' c took_it moved =
    let e : next_taken perm limit symbols before next ≡ Ok new = ap (λ l. taken perm limit symbols l next.terms next.act) (sym c.here_is) ∙ took_it in
    record {
      defines = one_more before next symbols new c.defines e;
      here_is = moved ∙ ap (λ l. location_after (known perm symbols) l next.terms next.act) c.here_is
          ∙ sym (act_stays perm limit symbols new (known perm new) (location (known perm symbols) before) next.terms next.act (next_extends perm limit before next symbols new e) e)
          ∙ sym (ap (λ l. location_after (known perm new) l next.terms next.act) (stays perm limit before symbols (known perm new) c.defines (next_extends perm limit before next symbols new e)));
    }
