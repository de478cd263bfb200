-- Tokens that are read one character after another are the runs without the spaces that don't count.
use Rattle.std.proofs.Common.{◌≡◌, ◌∙◌, sym, ap, refl, ℕ, List, [], ◌∷◌, Bool, true, false, ◌||◌, ◌&&◌, if◌then◌else◌, Option, Some, None, inl, inr, length}
use Rattle.std.specs.Prelude.{reverse, map, nat_eq}
use Rattle.std.specs.Option.{option_map_or}
use Rattle.std.proofs.lemmas.Bool.{cases_Bool}
use Rattle.pal_text.specs.declared.characters.Meaning.{Meaning}
use Rattle.pal_text.specs.declared.characters.Meaning.TheVariants.{Ignored, LineEnd, Character}
use Rattle.pal_text.specs.declared.tokens.TokenKind.{TokenKind}
use Rattle.pal_text.specs.declared.tokens.TokenKind.TheVariants.{Symbol, Number, Mixed, Space, End}
use Rattle.pal_text.specs.declared.tokens.Token.{Token}
use Rattle.pal_text.specs.Characters.{line, in_comment, meaning_after}
use Rattle.pal_text.specs.Tokens.{is_space, longer, kind_of, token, with_next, runs, absorbs, absorbs_after, counted, end_token, all_tokens}
use Rattle.pal_text.specs.Tokens.{tokens as counted_tokens}
use Rattle.pal_text.specs.Adding.{without_space, with_kind, joined, one_or_both, added, grown, tokens, all_read}
use Rattle.pal_text.specs.Names.{named, part_tokens}
use Rattle.pal_text.proofs.Apart.{longer_to_end}
use Rattle.pal_text.proofs.ByMeaning.{runs_with}

-- Runs with one more character, by the kind that the last one becomes.
abbrev lengthened : Token → Token → List Token → Option TokenKind → List Token
lengthened next last ts o = option_map_or (λ k. record last { kind = k; end = next.end } ∷ ts) o (next ∷ last ∷ ts)

-- ---- kinds

space_absorbs : (k : TokenKind) → is_space k ≡ true → absorbs k ≡ false
space_absorbs Space h = refl
space_absorbs _ h = cc

spaces_join : (k n : TokenKind) → is_space k ≡ true → is_space n ≡ true → longer k n ≡ Some Space
spaces_join Space Space h e = refl
spaces_join _ _ h e = cc

space_ends : (k n : TokenKind) → is_space k ≡ true → is_space n ≡ false → longer k n ≡ None
space_ends Space Space h e = cc
space_ends Space _ h e = refl
space_ends _ n h e = cc

absorbing_no_space : (k : TokenKind) → absorbs k ≡ true → is_space k ≡ false
absorbing_no_space Space h = cc
absorbing_no_space _ h = refl

absorbing_alone : (k n : TokenKind) → absorbs k ≡ true → longer k n ≡ None
absorbing_alone Symbol n h = cc
absorbing_alone Number n h = cc
absorbing_alone Mixed n h = cc
absorbing_alone Space n h = cc
absorbing_alone _ n h = refl

-- a longer token is no space, and absorbs as little
abbrev Alike : TokenKind → Option TokenKind → Type 0
Alike k None = Unit {0}
Alike k (Some l) = (is_space l ≡ false) × (absorbs l ≡ absorbs k)

longer_alike : (k n : TokenKind) → is_space k ≡ false → Alike k (longer k n)
longer_alike Symbol Symbol h = (refl, refl)
longer_alike Symbol Number h = (refl, refl)
longer_alike Number Number h = (refl, refl)
longer_alike Number Symbol h = (refl, refl)
longer_alike Mixed Symbol h = (refl, refl)
longer_alike Mixed Number h = (refl, refl)
longer_alike Space _ h = cc
longer_alike _ _ h = tt

-- ---- spaces

abbrev run_of : TokenKind → Token → Token → Token
run_of k t next = record { kind = k; line = t.line; start = t.start; end = next.end }

stays : (f : Bool) (t : Token) (ts : List Token) → is_space t.kind ≡ false → counted f (t ∷ ts) ≡ t ∷ counted (absorbs t.kind) ts
stays f t ts h = ap (λ s. if s && (f || absorbs_after ts) then counted false ts else t ∷ counted (absorbs t.kind) ts) h

goes : (f : Bool) (t : Token) (ts : List Token) → is_space t.kind ≡ true → (f || absorbs_after ts) ≡ true → counted f (t ∷ ts) ≡ counted false ts
goes f t ts h k = λ i. if h i && k i then counted false ts else t ∷ counted (absorbs t.kind) ts

joins : (f : Bool) (t : Token) (ts : List Token) → is_space t.kind ≡ true → (f || absorbs_after ts) ≡ false → counted f (t ∷ ts) ≡ t ∷ counted false ts
joins f t ts h k = (λ i. if h i && k i then counted false ts else t ∷ counted (absorbs t.kind) ts) ∙ ap (λ b. t ∷ counted b ts) (space_absorbs t.kind h)

always : (a : Bool) (b : Bool) → b ≡ true → (a || b) ≡ true
always true b h = refl
always false b h = h

-- of two neighbours of which neither is a space both stand
neither_space : (t next : Token) → is_space t.kind ≡ false → is_space next.kind ≡ false → without_space t next ≡ None
neither_space t next h e = (λ i. if e i && absorbs t.kind then Some t else if h i && absorbs next.kind then Some next else None)

next_space : (t next : Token) (b : Bool) → is_space t.kind ≡ false → is_space next.kind ≡ true → absorbs t.kind ≡ b → without_space t next ≡ (if b then Some t else None)
next_space t next b h e a = (λ i. if e i && a i then Some t else if h i && absorbs next.kind then Some next else None)

last_space : (t next : Token) (b : Bool) → is_space t.kind ≡ true → is_space next.kind ≡ false → absorbs next.kind ≡ b → without_space t next ≡ (if b then Some next else None)
last_space t next b h e a = (λ i. if e i && absorbs t.kind then Some t else if h i && a i then Some next else None)

-- ---- one more character

-- after a run that is no space
after_run : (next t : Token) (ts : List Token) (o : Option TokenKind) → is_space t.kind ≡ false → Alike t.kind o → one_or_both next t (counted (absorbs t.kind) ts) (with_kind t next o) ≡ counted false (lengthened next t ts o)
after_run next t ts (Some k) h l =
    ap (λ b. run_of k t next ∷ counted b ts) (sym l.1) ∙ sym (stays false (run_of k t next) ts l.0)
after_run next t ts None h l =
    let rest : List Token = counted (absorbs t.kind) ts in
    let own : (f : Bool) → counted f (t ∷ ts) ≡ t ∷ rest = λ f. stays f t ts h in
    elim (cases_Bool (is_space next.kind)) [
      | inr other ↦ ap (one_or_both next t rest) (neither_space t next h other) ∙ sym (stays false next (t ∷ ts) other ∙ ap (λ l. next ∷ l) (own (absorbs next.kind)))
      | inl space ↦ elim (cases_Bool (absorbs t.kind)) [
        | inl absorbing ↦ ap (one_or_both next t rest) (next_space t next true h space absorbing) ∙ sym (goes false next (t ∷ ts) space absorbing ∙ own false)
        | inr not_absorbing ↦ ap (one_or_both next t rest) (next_space t next false h space not_absorbing) ∙ sym (joins false next (t ∷ ts) space not_absorbing ∙ ap (λ l. next ∷ l) (own false))
      ]
    ]

-- after spaces that don't count
after_absorbing : (next : Token) (ts : List Token) → absorbs_after ts ≡ true → added next (counted false ts) ≡ (if is_space next.kind then counted false ts else next ∷ counted false ts)
after_absorbing next [] h = refl
after_absorbing next (u ∷ us) h =
    let plain : is_space u.kind ≡ false = absorbing_no_space u.kind h in
    let rest : List Token = counted (absorbs u.kind) us in
    let own : counted false (u ∷ us) ≡ u ∷ rest = stays false u us plain in
    let joined_is : joined u next ≡ without_space u next = ap (with_kind u next) (absorbing_alone u.kind next.kind h) in
    ap (added next) own ∙ ap (one_or_both next u rest) joined_is ∙ elim (cases_Bool (is_space next.kind)) [
      | inl space ↦ ap (one_or_both next u rest) (next_space u next true plain space h) ∙ sym (ap (λ s. if s then counted false (u ∷ us) else next ∷ counted false (u ∷ us)) space ∙ own)
      | inr other ↦ ap (one_or_both next u rest) (neither_space u next plain other) ∙ sym (ap (λ s. if s then counted false (u ∷ us) else next ∷ counted false (u ∷ us)) other ∙ ap (λ l. next ∷ l) own)
    ]

after_lost : (next t : Token) (ts : List Token) → is_space t.kind ≡ true → absorbs_after ts ≡ true → added next (counted false (t ∷ ts)) ≡ counted false (with_next next (t ∷ ts))
after_lost next t ts h a = ap (added next) (goes false t ts h a) ∙ after_absorbing next ts a ∙ elim (cases_Bool (is_space next.kind)) [
  | inl space ↦ ap (λ s. if s then counted false ts else next ∷ counted false ts) space
      ∙ sym (ap (λ o. counted false (lengthened next t ts o)) (spaces_join t.kind next.kind h space) ∙ goes false (run_of Space t next) ts refl a)
  | inr other ↦ ap (λ s. if s then counted false ts else next ∷ counted false ts) other
      ∙ sym (ap (λ o. counted false (lengthened next t ts o)) (space_ends t.kind next.kind h other) ∙ stays false next (t ∷ ts) other
      ∙ ap (λ l. next ∷ l) (goes (absorbs next.kind) t ts h (always (absorbs next.kind) (absorbs_after ts) a)))
]

-- after spaces that may count
after_space : (next t : Token) (ts : List Token) → is_space t.kind ≡ true → absorbs_after ts ≡ false → added next (counted false (t ∷ ts)) ≡ counted false (with_next next (t ∷ ts))
after_space next t ts h a = ap (added next) (joins false t ts h a) ∙ elim (cases_Bool (is_space next.kind)) [
  | inl space ↦ ap (λ o. one_or_both next t (counted false ts) (with_kind t next o)) (spaces_join t.kind next.kind h space)
      ∙ sym (ap (λ o. counted false (lengthened next t ts o)) (spaces_join t.kind next.kind h space) ∙ joins false (run_of Space t next) ts refl a)
  | inr other ↦ ap (λ o. one_or_both next t (counted false ts) (with_kind t next o)) (space_ends t.kind next.kind h other)
      ∙ elim (cases_Bool (absorbs next.kind)) [
        | inl absorbing ↦ ap (one_or_both next t (counted false ts)) (last_space t next true h other absorbing)
            ∙ sym (ap (λ o. counted false (lengthened next t ts o)) (space_ends t.kind next.kind h other) ∙ stays false next (t ∷ ts) other
            ∙ ap (λ b. next ∷ counted b (t ∷ ts)) absorbing ∙ ap (λ l. next ∷ l) (goes true t ts h refl))
        | inr not_absorbing ↦ ap (one_or_both next t (counted false ts)) (last_space t next false h other not_absorbing)
            ∙ sym (ap (λ o. counted false (lengthened next t ts o)) (space_ends t.kind next.kind h other) ∙ stays false next (t ∷ ts) other
            ∙ ap (λ b. next ∷ counted b (t ∷ ts)) not_absorbing ∙ ap (λ l. next ∷ l) (joins false t ts h a))
      ]
]

added_counted : (next : Token) (rs : List Token) → added next (counted false rs) ≡ counted false (with_next next rs)
added_counted next [] = elim (cases_Bool (is_space next.kind)) [
  | inl space ↦ ap (λ s. if s then [] else next ∷ []) space ∙ sym (goes false next [] space refl)
  | inr other ↦ ap (λ s. if s then [] else next ∷ []) other ∙ sym (stays false next [] other)
]
added_counted next (t ∷ ts) = elim (cases_Bool (is_space t.kind)) [
  | inr other ↦ ap (added next) (stays false t ts other) ∙ after_run next t ts (longer t.kind next.kind) other (longer_alike t.kind next.kind other)
  | inl space ↦ elim (cases_Bool (absorbs_after ts)) [
    | inl lost ↦ after_lost next t ts space lost
    | inr kept ↦ after_space next t ts space kept
  ]
]

grown_counted : (at n : ℕ) (comment : Bool) (m : Meaning) (rs : List Token) → grown at n comment m (counted false rs) ≡ counted false (runs_with at n comment m rs)
grown_counted at n comment Ignored rs = refl
grown_counted at n comment LineEnd rs = added_counted (token End n at) rs
grown_counted at n comment (Character c) rs = elim (cases_Bool (comment || nat_eq c 47)) [
  | inl inside ↦ ap (λ b. if b then counted false rs else added (token (kind_of c) n at) (counted false rs)) inside ∙ sym (ap (λ b. counted false (if b then rs else with_next (token (kind_of c) n at) rs)) inside)
  | inr outside ↦ ap (λ b. if b then counted false rs else added (token (kind_of c) n at) (counted false rs)) outside ∙ added_counted (token (kind_of c) n at) rs
      ∙ sym (ap (λ b. counted false (if b then rs else with_next (token (kind_of c) n at) rs)) outside)
]

-- so these are the tokens
pub tokens_are : (f : List ℕ) → counted_tokens f ≡ tokens f
tokens_are [] = refl
tokens_are (b ∷ f) =
    sym (grown_counted (length f) (line f) (in_comment f) (meaning_after f b) (runs f)) ∙ ap (grown (length f) (line f) (in_comment f) (meaning_after f b)) (tokens_are f)

end_alone : (e : Token) (rs : List Token) → e.kind ≡ End → with_next e rs ≡ e ∷ rs
end_alone e [] h = refl
end_alone e (t ∷ ts) h = ap (lengthened e t ts) (ap (longer t.kind) h ∙ longer_to_end t.kind End refl)

pub all_are : (source : List ℕ) → all_tokens source ≡ all_read source
all_are source =
    let f : List ℕ = reverse source in
    ap reverse (ap (counted false) (sym (end_alone (end_token f) (runs f) refl)) ∙ sym (added_counted (end_token f) (runs f)) ∙ ap (added (end_token f)) (tokens_are f))

-- with the names of directions told
abbrev pub part_read : List ℕ → List Token
part_read source = map (named source) (all_read source)

pub part_are : (source : List ℕ) → part_tokens source ≡ part_read source
part_are source = ap (map (named source)) (all_are source)
