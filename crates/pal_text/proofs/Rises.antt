-- Tokens stand in order and within the part.
use Rattle.std.proofs.Common.{◌≡◌, ◌∙◌, sym, ap, refl, subst, ℕ, ◌+◌, ◌≤◌, List, [], ◌∷◌, ◌++◌, Bool, ◌||◌, ◌&&◌, if◌then◌else◌, Option, Some, None, arith, length, take, drop, zero, suc}
use Rattle.std.specs.Prelude.{nat_eq, reverse, map}
use Rattle.std.specs.List.{AllByRecursion}
use Rattle.std.proofs.lemmas.Bool.{cond_both}
use Rattle.std.proofs.lemmas.List.{length-reverse, reverse-reverse, map-append, take_at}
use Rattle.pal_text.specs.declared.characters.Meaning.{Meaning}
use Rattle.pal_text.specs.declared.characters.Meaning.TheVariants.{Ignored, LineEnd, Character}
use Rattle.pal_text.specs.declared.tokens.TokenKind.{TokenKind}
use Rattle.pal_text.specs.declared.tokens.TokenKind.TheVariants.{End}
use Rattle.pal_text.specs.declared.tokens.Token.{Token}
use Rattle.pal_text.specs.Characters.{line, in_comment, meaning_after}
use Rattle.pal_text.specs.Tokens.{is_space, absorbs, longer, token, kind_of, end_token}
use Rattle.pal_text.specs.Adding.{with_kind, without_space, joined, one_or_both, added, grown, tokens, ended, all_read}
use Rattle.pal_text.specs.Names.{IsWithin, named, part_tokens}
use Rattle.pal_text.specs.Order.{IsOrdered}
use Rattle.pal_text.proofs.Grows.{turned}
use Rattle.pal_text.proofs.CountedLemmas.{part_are}

pub later : (ts : List Token) (m n : ℕ) → m ≤ n → IsOrdered m ts → IsOrdered n ts
later [] m n h r = tt
later (t ∷ ts) m n h r = (r.0, omega (arith, r.1), r.2)

-- what a joined token needs
Joins : ℕ → List Token → Option Token → Type 0
Joins n ts None = Unit {0}
Joins n ts (Some one) = IsOrdered n (one ∷ ts)

one_or_both_ordered : (n : ℕ) (next t : Token) (ts : List Token) (o : Option Token) → Joins n ts o → IsOrdered n (next ∷ t ∷ ts) → IsOrdered n (one_or_both next t ts o)
unfolding Joins
one_or_both_ordered n next t ts None j r = r
one_or_both_ordered n next t ts (Some one) j r = j

without_space_joins : (n : ℕ) (next t : Token) (ts : List Token) → IsOrdered n (next ∷ t ∷ ts) → Joins n ts (without_space t next)
unfolding Joins
without_space_joins n next t ts r =
    cond_both (is_space next.kind && absorbs t.kind) (Some t) (if is_space t.kind && absorbs next.kind then Some next else None) (λ o. Joins n ts o)
    (λ is. (r.2.0, omega (arith, r.0, r.1, r.2.1), r.2.2))
    (λ is. cond_both (is_space t.kind && absorbs next.kind) (Some next) None (λ o. Joins n ts o)
    (λ too. (r.0, r.1, later ts t.start next.start (omega (arith, r.2.0, r.2.1)) r.2.2)) (λ too. tt))

with_kind_joins : (n : ℕ) (next t : Token) (ts : List Token) (o : Option TokenKind) → IsOrdered n (next ∷ t ∷ ts) → Joins n ts (with_kind t next o)
unfolding Joins
with_kind_joins n next t ts None r = without_space_joins n next t ts r
with_kind_joins n next t ts (Some k) r = (omega (arith, r.0, r.2.0, r.2.1), r.1, r.2.2)

added_ordered : (n : ℕ) (next : Token) (ts : List Token) → IsOrdered n (next ∷ ts) → IsOrdered n (added next ts)
added_ordered n next [] r = cond_both (is_space next.kind) [] (next ∷ []) (λ l. IsOrdered n l) (λ is. tt) (λ is. r)
added_ordered n next (t ∷ ts) r = one_or_both_ordered n next t ts (joined t next) (with_kind_joins n next t ts (longer t.kind next.kind) r) r

grown_ordered : (at n : ℕ) (comment : Bool) (m : Meaning) (ts : List Token) → IsOrdered at ts → IsOrdered (at + 1) (grown at n comment m ts)
grown_ordered at n comment Ignored ts r = later ts at (at + 1) (omega arith) r
grown_ordered at n comment LineEnd ts r = added_ordered (at + 1) (token End n at) ts (omega arith, omega arith, r)
grown_ordered at n comment (Character c) ts r =
    cond_both (comment || nat_eq c 47) ts (added (token (kind_of c) n at) ts) (λ l. IsOrdered (at + 1) l) (λ is. later ts at (at + 1) (omega arith) r)
    (λ is. added_ordered (at + 1) (token (kind_of c) n at) ts (omega arith, omega arith, r))

pub tokens_ordered : (bytes : List ℕ) → IsOrdered (length bytes) (tokens bytes)
tokens_ordered [] = tt
tokens_ordered (b ∷ before) =
    let e : length before + 1 ≡ length (b ∷ before) = omega arith in
    let P : ℕ → Type 0 = λ n. IsOrdered n (tokens (b ∷ before)) in
    subst P e (grown_ordered (length before) (line before) (in_comment before) (meaning_after before b) (tokens before) (tokens_ordered before))

pub ended_ordered : (bytes : List ℕ) → IsOrdered (length bytes) (ended bytes)
ended_ordered bytes = added_ordered (length bytes) (end_token bytes) (tokens bytes) (omega arith, omega arith, tokens_ordered bytes)

-- names don't move tokens
named_ordered : (source : List ℕ) (n : ℕ) (ts : List Token) → IsOrdered n ts → IsOrdered n (map (named source) ts)
named_ordered source n [] r = tt
named_ordered source n (t ∷ ts) r = (r.0, r.1, named_ordered source t.start ts r.2)

pub map_reverse : {X Y : Type 0} (f : X → Y) (xs : List X) → map f (reverse xs) ≡ reverse (map f xs)
map_reverse f [] = refl
map_reverse f (x ∷ xs) = ap (map f) (turned x xs) ∙ map-append f (reverse xs) (x ∷ []) ∙ ap (λ l. l ++ f x ∷ []) (map_reverse f xs) ∙ sym (turned (f x) (map f xs))

pub part_tokens_ordered : (source : List ℕ) → IsOrdered (length source) (reverse (part_tokens source))
part_tokens_ordered source =
    let e : reverse (part_tokens source) ≡ map (named source) (ended (reverse source)) = ap reverse (part_are source) ∙ ap reverse (map_reverse (named source) (ended (reverse source))) ∙ reverse-reverse (map (named source) (ended (reverse source))) in
    let P : List Token → Type 0 = λ ts. IsOrdered (length source) ts in
    let Q : ℕ → Type 0 = λ n. IsOrdered n (ended (reverse source)) in
    subst P (sym e) (named_ordered source (length source) (ended (reverse source)) (subst Q (length-reverse source) (ended_ordered (reverse source))))

-- each token of tokens in order stands within
pub ordered_within : (n m : ℕ) (ts : List Token) → m ≤ n → IsOrdered m ts → AllByRecursion (IsWithin n) ts
ordered_within n m [] h r = tt
ordered_within n m (t ∷ ts) h r = (record { forward = r.0; inside = omega (arith, r.1) }, ordered_within n t.start ts (omega (arith, r.0, r.1)) r.2)

pub all_append : {X : Type 0} (P : X → Type 0) (xs ys : List X) → AllByRecursion P xs → AllByRecursion P ys → AllByRecursion P (xs ++ ys)
all_append P [] ys h k = k
all_append P (x ∷ xs) ys h k = (h.0, all_append P xs ys h.1 k)

pub all_reverse : {X : Type 0} (P : X → Type 0) (xs : List X) → AllByRecursion P xs → AllByRecursion P (reverse xs)
all_reverse P [] h = tt
all_reverse {X = X} P (x ∷ xs) h = let Q : List X → Type 0 = λ l. AllByRecursion P l in subst Q (sym (turned x xs)) (all_append P (reverse xs) (x ∷ []) (all_reverse P xs h.1) (h.0, tt))

pub all_take : {X : Type 0} (P : X → Type 0) (n : ℕ) (xs : List X) → AllByRecursion P xs → AllByRecursion P (take n xs)
all_take P zero xs h = tt
all_take P (suc n) [] h = tt
all_take P (suc n) (x ∷ xs) h = (h.0, all_take P n xs h.1)

pub all_drop : {X : Type 0} (P : X → Type 0) (n : ℕ) (xs : List X) → AllByRecursion P xs → AllByRecursion P (drop n xs)
all_drop P zero xs h = h
all_drop P (suc n) [] h = tt
all_drop P (suc n) (x ∷ xs) h = all_drop P n xs h.1

pub all_tokens_within : (source : List ℕ) → AllByRecursion (IsWithin (length source)) (all_read source)
all_tokens_within source = all_reverse (IsWithin (length source)) (ended (reverse source)) (ordered_within (length source) (length (reverse source)) (ended (reverse source)) (omega (arith, length-reverse source)) (ended_ordered (reverse source)))

named_within : (source : List ℕ) (n : ℕ) (ts : List Token) → AllByRecursion (IsWithin n) ts → AllByRecursion (IsWithin n) (map (named source) ts)
named_within source n [] h = tt
named_within source n (t ∷ ts) h = (record { forward = h.0.forward; inside = h.0.inside }, named_within source n ts h.1)

pub part_tokens_within : (source : List ℕ) → AllByRecursion (IsWithin (length source)) (part_tokens source)
part_tokens_within source = subst (λ ts. AllByRecursion (IsWithin (length source)) ts) (sym (part_are source)) (named_within source (length source) (all_read source) (all_tokens_within source))

-- a vector whose elements were changed through a slice
pub written_back : {X : Type 0} (items new : List X) (n : ℕ) → length items ≡ n → length new ≡ n → take n (new ++ drop (length new) items) ≡ new
written_back items new n e f = take_at new (drop (length new) items) n f
