-- A statement's first token is no space, and stays the first: so where one was read, the statement has a token.
use Rattle.std.proofs.Common.{◌≡◌, ◌∙◌, sym, ap, refl, subst, ℕ, ◌+◌, ◌<◌, List, [], ◌∷◌, ◌++◌, Bool, true, false, ◌||◌, ◌&&◌, if◌then◌else◌, Option, Some, None, inl, inr, ◌⊎◌, length, drop, get_or}
use Rattle.std.specs.Prelude.{reverse, map, nat_eq, slice_get}
use Rattle.std.specs.List.{AllByRecursion}
use Rattle.std.proofs.lemmas.Bool.{cond_both}
use Rattle.std.proofs.lemmas.List.{reverse-append, reverse-reverse, length-reverse, length-map, map-append}
use Rattle.pal_text.specs.declared.characters.Meaning.{Meaning}
use Rattle.pal_text.specs.declared.characters.Meaning.TheVariants.{Ignored, LineEnd, Character}
use Rattle.pal_text.specs.declared.tokens.TokenKind.{TokenKind}
use Rattle.pal_text.specs.declared.tokens.TokenKind.TheVariants as kind
use Rattle.pal_text.specs.declared.tokens.Token.{Token}
use Rattle.pal_text.specs.declared.scan.CodeEffect.TheVariants.{One}
use Rattle.pal_text.specs.declared.scan.Place.{Place}
use Rattle.pal_text.specs.Characters.{code, line, in_comment, meaning_after}
use Rattle.pal_text.specs.Tokens.{is_space, absorbs, longer, token, kind_of, end_token, is_end}
use Rattle.pal_text.specs.Adding.{with_kind, without_space, joined, one_or_both, added, grown, tokens, ended, all_read}
use Rattle.pal_text.specs.Names.{named, part_tokens}
use Rattle.pal_text.specs.Readers.{HasToken}
use Rattle.pal_text.specs.Scan.{brings, front, IsCut, IsOpen, IsPlaceIn}
use Rattle.pal_text.proofs.Apart.{joined_cut, added_apart, grown_apart}
use Rattle.pal_text.proofs.CountedLemmas.{part_are}
use Rattle.pal_text.proofs.Fronts.{Reading, reading_added}
use Rattle.pal_text.proofs.Grows.{turned}
use Rattle.pal_text.proofs.Nexts.{split_source, with_name_open}
use Rattle.pal_text.proofs.Rises.{all_reverse}
use Rattle.pal_text.proofs.Steps.{one_grows}

-- a token that isn't a space and ends no statement
abbrev Begins : TokenKind → Type 0
Begins k = (is_space k ≡ false) × (is_end k ≡ false)

abbrev KindBegins : Option TokenKind → Type 0
KindBegins None = Unit {0}
KindBegins (Some k) = Begins k

abbrev OneBegins : Option Token → Type 0
OneBegins None = Unit {0}
OneBegins (Some t) = Begins t.kind

-- with one more character it is another such token
longer_begins : (k n : TokenKind) → is_space k ≡ false → KindBegins (longer k n)
longer_begins kind.Symbol kind.Symbol h = (refl, refl)
longer_begins kind.Symbol kind.Number h = (refl, refl)
longer_begins kind.Number kind.Number h = (refl, refl)
longer_begins kind.Number kind.Symbol h = (refl, refl)
longer_begins kind.Mixed kind.Symbol h = (refl, refl)
longer_begins kind.Mixed kind.Number h = (refl, refl)
longer_begins kind.Space _ h = cc
longer_begins _ _ h = tt

without_begins : (t next : Token) → Begins t.kind → OneBegins (without_space t next)
without_begins t next h =
    cond_both (is_space next.kind && absorbs t.kind) (Some t) (if is_space t.kind && absorbs next.kind then Some next else None) (λ o. OneBegins o) (λ is. h)
    (λ is. subst (λ o. OneBegins o) (sym (ap (λ b. if b && absorbs next.kind then Some next else None) h.0)) tt)

kind_begins : (t next : Token) (o : Option TokenKind) → KindBegins o → Begins t.kind → OneBegins (with_kind t next o)
kind_begins t next None k h = without_begins t next h
kind_begins t next (Some k') k h = k

joined_begins : (t next : Token) → Begins t.kind → OneBegins (joined t next)
joined_begins t next h = kind_begins t next (longer t.kind next.kind) (longer_begins t.kind next.kind h.0) h

-- the first of some tokens, which have the newest first, is such a token
abbrev Begun : List Token → Type 0
Begun [] = ⊥
Begun (t ∷ []) = Begins t.kind
Begun (t ∷ u ∷ ts) = Begun (u ∷ ts)

both_begun : (next t : Token) (ts : List Token) (o : Option Token) → OneBegins o → Begun (t ∷ []) → Begun (one_or_both next t [] o)
both_begun next t ts None h k = k
both_begun next t ts (Some one) h k = h

any_begun : (next t u : Token) (ts : List Token) (o : Option Token) → Begun (u ∷ ts) → Begun (one_or_both next t (u ∷ ts) o)
any_begun next t u ts None h = h
any_begun next t u ts (Some one) h = h

added_begun : (next : Token) (ts : List Token) → Begun ts → Begun (added next ts)
added_begun next [] h = absurd h
added_begun next (t ∷ []) h = both_begun next t [] (joined t next) (joined_begins t next h) h
added_begun next (t ∷ u ∷ ts) h = any_begun next t u ts (joined t next) h

grown_begun : (at n : ℕ) (comment : Bool) (m : Meaning) (ts : List Token) → Begun ts → Begun (grown at n comment m ts)
grown_begun at n comment Ignored ts h = h
grown_begun at n comment LineEnd ts h = added_begun (token kind.End n at) ts h
grown_begun at n comment (Character c) ts h =
    cond_both (comment || nat_eq c 47) ts (added (token (kind_of c) n at) ts) (λ us. Begun us) (λ is. h) (λ is. added_begun (token (kind_of c) n at) ts h)

-- tokens that begin so after others, of which the newest ends a statement
record After (before ts : List Token) : Type 0 where
  own : List Token
  is : ts ≡ own ++ before
  begun : Begun own

after_grown : (at n : ℕ) (comment : Bool) (m : Meaning) (b ts : List Token) → IsCut b → After b ts → After b (grown at n comment m ts)
after_grown at n comment m b ts cut a = record {
  own = grown at n comment m a.own;
  is = ap (grown at n comment m) a.is ∙ grown_apart at n comment m a.own b cut;
  begun = grown_begun at n comment m a.own a.begun;
}

after_more : (bytes before : List ℕ) (b : List Token) → IsCut b → After b (tokens before) → After b (tokens (bytes ++ before))
after_more [] before b cut a = a
after_more (x ∷ bytes) before b cut a =
    let f : List ℕ = bytes ++ before in
    after_grown (length f) (line f) (in_comment f) (meaning_after f x) b (tokens f) cut (after_more bytes before b cut a)

after_ended : (bytes before : List ℕ) (b : List Token) → IsCut b → After b (tokens before) → After b (ended (bytes ++ before))
after_ended bytes before b cut a =
    let m : Token = end_token (bytes ++ before) in
    let k : After b (tokens (bytes ++ before)) = after_more bytes before b cut a in
    record { own = added m k.own; is = ap (added m) k.is ∙ added_apart m k.own b cut; begun = added_begun m k.own k.begun }

-- such a token in order
record First (ts : List Token) : Type 0 where
  first : Token
  rest : List Token
  is : reverse ts ≡ first ∷ rest
  ends_none : is_end first.kind ≡ false

first_of : (ts : List Token) → Begun ts → First ts
first_of [] h = absurd h
first_of (t ∷ []) h = record { first = t; rest = []; is = refl; ends_none = h.1 }
first_of (t ∷ u ∷ ts) h =
    let k : First (u ∷ ts) = first_of (u ∷ ts) h in
    record { first = k.first; rest = k.rest ++ t ∷ []; is = turned t (u ∷ ts) ∙ ap (λ l. l ++ t ∷ []) k.is; ends_none = k.ends_none }

nth_seam : (xs ys : List Token) (y : Token) → slice_get (xs ++ y ∷ ys) (length xs) ≡ Some y
nth_seam [] ys y = refl
nth_seam (x ∷ xs) ys y = nth_seam xs ys y

has_token : (source : List ℕ) (at : ℕ) (b : List Token) → IsCut b → After b (tokens (front source at)) → HasToken source (length b)
has_token source at b cut a =
    let k : After b (ended (reverse (drop at source) ++ front source at)) = after_ended (reverse (drop at source)) (front source at) b cut a in
    let f : First k.own = first_of k.own k.begun in
    let own : List Token = map (named source) (reverse b) in
    let all : all_read source ≡ reverse b ++ (f.first ∷ f.rest) = ap (λ g. reverse (ended g)) (split_source source at) ∙ ap reverse k.is ∙ reverse-append k.own b ∙ ap (λ l. reverse b ++ l) f.is in
    let is : part_tokens source ≡ own ++ (named source f.first ∷ map (named source) f.rest) = part_are source ∙ ap (map (named source)) all ∙ map-append (named source) (reverse b) (f.first ∷ f.rest) in
    let size : length b ≡ length own = sym (length-map (reverse b) (named source) ∙ length-reverse b) in (
      named source f.first,
      (λ i. slice_get (is i) (size i)) ∙ nth_seam own (map (named source) f.rest) (named source f.first),
      with_name_open source f.first f.first.kind f.ends_none,
    )

-- no space stands at the front, or after the end of a statement
abbrev Spaced : List Token → Type 0
Spaced [] = Unit {0}
Spaced (t ∷ []) = is_space t.kind ≡ false
Spaced (t ∷ u ∷ ts) = (is_end u.kind ≡ true → is_space t.kind ≡ false) × Spaced (u ∷ ts)

abbrev NoSpace : Option Token → Type 0
NoSpace None = Unit {0}
NoSpace (Some t) = is_space t.kind ≡ false

kind_no_space : (t next : Token) (o : Option TokenKind) → KindBegins o → is_space t.kind ≡ false → NoSpace (with_kind t next o)
kind_no_space t next (Some k) h n = h.0
kind_no_space t next None h n =
    cond_both (is_space next.kind && absorbs t.kind) (Some t) (if is_space t.kind && absorbs next.kind then Some next else None) (λ o. NoSpace o) (λ is. n)
    (λ is. subst (λ o. NoSpace o) (sym (ap (λ b. if b && absorbs next.kind then Some next else None) n)) tt)

joined_no_space : (t next : Token) → is_space t.kind ≡ false → NoSpace (joined t next)
joined_no_space t next n = kind_no_space t next (longer t.kind next.kind) (longer_begins t.kind next.kind n) n

-- beside an end a space doesn't stand
no_space_by : (b : Bool) (e : Token) → (if b && true then Some e else None) ≡ None → b ≡ false
no_space_by true e h = cc
no_space_by false e h = refl

stands_no_space : (e next : Token) → joined e next ≡ None → is_end e.kind ≡ true → is_space next.kind ≡ false
stands_no_space e next h ends = no_space_by (is_space next.kind) e (sym (joined_cut e next ends) ∙ h)

alone_spaced : (next t : Token) (o : Option Token) → joined t next ≡ o → NoSpace o → is_space t.kind ≡ false → Spaced (one_or_both next t [] o)
alone_spaced next t None e n h = (stands_no_space t next e, h)
alone_spaced next t (Some one) e n h = n

more_spaced : (next t u : Token) (ts : List Token) (o : Option Token) → joined t next ≡ o → (is_end u.kind ≡ true → NoSpace o) → Spaced (t ∷ u ∷ ts) → Spaced (one_or_both next t (u ∷ ts) o)
more_spaced next t u ts None e n h = (stands_no_space t next e, h)
more_spaced next t u ts (Some one) e n h = (n, h.1)

added_spaced : (next : Token) (ts : List Token) → Spaced ts → Spaced (added next ts)
added_spaced next [] h = cond_both (is_space next.kind) [] (next ∷ []) (λ ts. Spaced ts) (λ is. tt) (λ is. is)
added_spaced next (t ∷ []) h = alone_spaced next t (joined t next) refl (joined_no_space t next h) h
added_spaced next (t ∷ u ∷ ts) h = more_spaced next t u ts (joined t next) refl (λ ends. joined_no_space t next (h.0 ends)) h

grown_spaced : (at n : ℕ) (comment : Bool) (m : Meaning) (ts : List Token) → Spaced ts → Spaced (grown at n comment m ts)
grown_spaced at n comment Ignored ts h = h
grown_spaced at n comment LineEnd ts h = added_spaced (token kind.End n at) ts h
grown_spaced at n comment (Character c) ts h =
    cond_both (comment || nat_eq c 47) ts (added (token (kind_of c) n at) ts) (λ us. Spaced us) (λ is. h) (λ is. added_spaced (token (kind_of c) n at) ts h)

tokens_spaced : (f : List ℕ) → Spaced (tokens f)
tokens_spaced [] = tt
tokens_spaced (b ∷ f) = grown_spaced (length f) (line f) (in_comment f) (meaning_after f b) (tokens f) (tokens_spaced f)

-- so the first token of a statement is none
first_begins : (t : Token) (b : List Token) → IsCut b → Spaced (t ∷ b) → is_end t.kind ≡ false → Begins t.kind
first_begins t [] cut h o = (h, o)
first_begins t (e ∷ b) cut h o = (h.0 cut, o)

begun_by : (ts b : List Token) → IsCut b → AllByRecursion IsOpen ts → Spaced (ts ++ b) → (ts ≡ []) ⊎ Begun ts
begun_by [] b cut o h = inl refl
begun_by (t ∷ []) b cut o h = inr (first_begins t b cut h o.0)
begun_by (t ∷ u ∷ ts) b cut o h = elim (begun_by (u ∷ ts) b cut o.1 h.1) [
  | inl none ↦ cc
  | inr some ↦ inr some
]

next_begun : (next : Token) (ts : List Token) → (ts ≡ [] → is_space next.kind ≡ false) → is_end next.kind ≡ false → (ts ≡ []) ⊎ Begun ts → Begun (added next ts)
next_begun next ts n o (inl none) =
    let plain : is_space next.kind ≡ false = n none in
    let P : List Token → Type 0 = λ us. Begun us in
    subst P (sym (ap (added next) none ∙ ap (λ b. if b then [] else next ∷ []) plain)) (plain, o)
next_begun next ts n o (inr some) = added_begun next ts some

-- memory was refused for a token of the statement at a place
pub token_refused : (source : List ℕ) (place : Place) (at : ℕ) (was : Bool) (own : List Token) (k : TokenKind) → IsPlaceIn source place → at < length source → brings (code (get_or source at 0)) ≡ One k
    → Reading source place at was own → (own ≡ [] → is_space k ≡ false) → HasToken source (length (tokens (front source place.at)))
token_refused source place at was own k p h b r plain =
    let cut_before : List Token = tokens (front source place.at) in
    let next : Token = token k place.line at in
    let S : List Token → Type 0 = λ ts. Spaced ts in
    let spaced : Spaced (reverse own ++ cut_before) = subst S r.0.tokens_are (tokens_spaced (front source at)) in
    let is_open : is_end k ≡ false = (one_grows (front source at) (get_or source at 0) k r.2 b).ends_none in
    let empty : reverse own ≡ [] → is_space k ≡ false = λ e. plain (sym (reverse-reverse own) ∙ ap reverse e) in
    let begun : Begun (added next (reverse own)) = next_begun next (reverse own) empty is_open (begun_by (reverse own) cut_before p.cut (all_reverse IsOpen own r.0.ends_none) spaced) in
    let is : tokens (front source (at + 1)) ≡ added next (reverse own) ++ cut_before =
    reading_added source place at was own (reverse (added next (reverse own))) k p h b r (reverse-reverse (added next (reverse own))) ∙ ap (λ l. l ++ cut_before) (reverse-reverse (added next (reverse own))) in
    has_token source (at + 1) cut_before p.cut (record { own = added next (reverse own); is = is; begun = begun })
