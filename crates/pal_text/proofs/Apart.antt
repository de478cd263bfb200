-- What ends a statement is never changed by what follows it, so the tokens of a statement grow by themselves.
use Rattle.std.proofs.Common.{◌≡◌, ◌∙◌, sym, ap, refl, ℕ, List, [], ◌∷◌, ◌++◌, Bool, true, false, ◌||◌, ◌&&◌, if◌then◌else◌, Option, Some, None, inl, inr, length}
use Rattle.std.specs.Prelude.{nat_eq}
use Rattle.std.proofs.lemmas.Bool.{cases_Bool}
use Rattle.pal_text.specs.declared.characters.Meaning.{Meaning}
use Rattle.pal_text.specs.declared.characters.Meaning.TheVariants.{Ignored, LineEnd, Character}
use Rattle.pal_text.specs.declared.tokens.TokenKind.{TokenKind}
use Rattle.pal_text.specs.declared.tokens.TokenKind.TheVariants.{Symbol, Number, Mixed, Space, End, Dollar}
use Rattle.pal_text.specs.declared.tokens.Token.{Token}
use Rattle.pal_text.specs.Characters.{line, in_comment, meaning_after}
use Rattle.pal_text.specs.Tokens.{is_space, absorbs, longer, token, kind_of, end_token, is_end}
use Rattle.pal_text.specs.Adding.{with_kind, joined, one_or_both, added, grown, tokens, ended}
use Rattle.pal_text.specs.Scan.{IsCut, trimmed}

pub longer_end : (k n : TokenKind) → is_end k ≡ true → longer k n ≡ None
longer_end End n h = refl
longer_end Dollar n h = refl
longer_end _ n h = cc

absorbs_end : (k : TokenKind) → is_end k ≡ true → absorbs k ≡ true
absorbs_end End h = refl
absorbs_end Dollar h = refl
absorbs_end _ h = cc

no_space_end : (k : TokenKind) → is_end k ≡ true → is_space k ≡ false
no_space_end End h = refl
no_space_end Dollar h = refl
no_space_end _ h = cc

pub longer_to_end : (k n : TokenKind) → is_end n ≡ true → longer k n ≡ None
longer_to_end Symbol End h = refl
longer_to_end Number End h = refl
longer_to_end Mixed End h = refl
longer_to_end Space End h = refl
longer_to_end _ End h = refl
longer_to_end Symbol Dollar h = refl
longer_to_end Number Dollar h = refl
longer_to_end Mixed Dollar h = refl
longer_to_end Space Dollar h = refl
longer_to_end _ Dollar h = refl
longer_to_end k _ h = cc

-- beside the end of a statement a space is left out, and anything else stands
pub joined_cut : (e next : Token) → is_end e.kind ≡ true → joined e next ≡ (if is_space next.kind && true then Some e else None)
joined_cut e next h =
    ap (with_kind e next) (longer_end e.kind next.kind h)
    ∙ ap (λ b. if is_space next.kind && b then Some e else (if is_space e.kind && absorbs next.kind then Some next else None)) (absorbs_end e.kind h)
    ∙ ap (λ b. if is_space next.kind && true then Some e else (if b && absorbs next.kind then Some next else None)) (no_space_end e.kind h)

added_cut : (next e : Token) (b : List Token) → is_end e.kind ≡ true → added next (e ∷ b) ≡ added next [] ++ e ∷ b
added_cut next e b h = ap (one_or_both next e b) (joined_cut e next h) ∙ elim (cases_Bool (is_space next.kind)) [
  | inl space ↦ ap (λ s. one_or_both next e b (if s && true then Some e else None)) space ∙ sym (ap (λ s. (if s then [] else next ∷ []) ++ e ∷ b) space)
  | inr other ↦ ap (λ s. one_or_both next e b (if s && true then Some e else None)) other ∙ sym (ap (λ s. (if s then [] else next ∷ []) ++ e ∷ b) other)
]

added_none : (next : Token) (b : List Token) → IsCut b → added next b ≡ added next [] ++ b
added_none next [] h = elim (cases_Bool (is_space next.kind)) [
  | inl space ↦ ap (λ s. if s then [] else next ∷ []) space ∙ sym (ap (λ s. (if s then [] else next ∷ []) ++ []) space)
  | inr other ↦ ap (λ s. if s then [] else next ∷ []) other ∙ sym (ap (λ s. (if s then [] else next ∷ []) ++ []) other)
]
added_none next (e ∷ b) h = added_cut next e b h

one_or_both_apart : (next t : Token) (s b : List Token) (o : Option Token) → one_or_both next t (s ++ b) o ≡ one_or_both next t s o ++ b
one_or_both_apart next t s b None = refl
one_or_both_apart next t s b (Some one) = refl

pub added_apart : (next : Token) (s b : List Token) → IsCut b → added next (s ++ b) ≡ added next s ++ b
added_apart next [] b h = added_none next b h
added_apart next (t ∷ s) b h = one_or_both_apart next t s b (joined t next)

pub grown_apart : (at n : ℕ) (comment : Bool) (m : Meaning) (s b : List Token) → IsCut b → grown at n comment m (s ++ b) ≡ grown at n comment m s ++ b
grown_apart at n comment Ignored s b h = refl
grown_apart at n comment LineEnd s b h = added_apart (token End n at) s b h
grown_apart at n comment (Character c) s b h = elim (cases_Bool (comment || nat_eq c 47)) [
  | inl inside ↦ ap (λ x. if x then s ++ b else added (token (kind_of c) n at) (s ++ b)) inside ∙ sym (ap (λ x. (if x then s else added (token (kind_of c) n at) s) ++ b) inside)
  | inr outside ↦ ap (λ x. if x then s ++ b else added (token (kind_of c) n at) (s ++ b)) outside ∙ added_apart (token (kind_of c) n at) s b h ∙ sym (ap (λ x. (if x then s else added (token (kind_of c) n at) s) ++ b) outside)
]

-- tokens that were there before are there later
pub record Later (before after : List Token) : Type 0 where
  pub more : List Token
  pub is : after ≡ more ++ before

later_grown : (at n : ℕ) (comment : Bool) (m : Meaning) (b ts : List Token) → IsCut b → Later b ts → Later b (grown at n comment m ts)
later_grown at n comment m b ts h l = record { more = grown at n comment m l.more; is = ap (grown at n comment m) l.is ∙ grown_apart at n comment m l.more b h }

tokens_later : (bytes before : List ℕ) → IsCut (tokens before) → Later (tokens before) (tokens (bytes ++ before))
tokens_later [] before h = record { more = []; is = refl }
tokens_later (b ∷ bytes) before h =
    later_grown (length (bytes ++ before)) (line (bytes ++ before)) (in_comment (bytes ++ before)) (meaning_after (bytes ++ before) b) (tokens before) (tokens (bytes ++ before)) h (tokens_later bytes before h)

pub ended_later : (bytes before : List ℕ) → IsCut (tokens before) → Later (tokens before) (ended (bytes ++ before))
ended_later bytes before h =
    let l : Later (tokens before) (tokens (bytes ++ before)) = tokens_later bytes before h in
    record { more = added (end_token (bytes ++ before)) l.more; is = ap (added (end_token (bytes ++ before))) l.is ∙ added_apart (end_token (bytes ++ before)) l.more (tokens before) h }

-- a space at the end is left out by what ends the statement
joined_end : (t next : Token) → is_end next.kind ≡ true → joined t next ≡ (if is_space t.kind && true then Some next else None)
joined_end t next h =
    ap (with_kind t next) (longer_to_end t.kind next.kind h)
    ∙ ap (λ b. if b && absorbs t.kind then Some t else (if is_space t.kind && absorbs next.kind then Some next else None)) (no_space_end next.kind h)
    ∙ ap (λ b. if is_space t.kind && b then Some next else None) (absorbs_end next.kind h)

pub added_end : (next : Token) (ts : List Token) → is_end next.kind ≡ true → added next ts ≡ next ∷ trimmed ts
added_end next [] h = ap (λ s. if s then [] else next ∷ []) (no_space_end next.kind h)
added_end next (t ∷ ts) h = ap (one_or_both next t ts) (joined_end t next h) ∙ elim (cases_Bool (is_space t.kind)) [
  | inl space ↦ ap (λ s. one_or_both next t ts (if s && true then Some next else None)) space ∙ sym (ap (λ s. next ∷ (if s then ts else t ∷ ts)) space)
  | inr other ↦ ap (λ s. one_or_both next t ts (if s && true then Some next else None)) other ∙ sym (ap (λ s. next ∷ (if s then ts else t ∷ ts)) other)
]

-- the end of the part comes after all tokens that were there before
pub record Ends (before after : List Token) : Type 0 where
  pub mark : Token
  pub more : List Token
  pub is : after ≡ mark ∷ more ++ before
  pub is_mark : is_end mark.kind ≡ true

pub ended_on : (bytes before : List ℕ) → IsCut (tokens before) → Ends (tokens before) (ended (bytes ++ before))
ended_on bytes before h =
    let m : Token = end_token (bytes ++ before) in
    let l : Later (tokens before) (tokens (bytes ++ before)) = tokens_later bytes before h in
    record {
      mark = m;
      more = trimmed l.more;
      is = ap (added m) l.is ∙ added_apart m l.more (tokens before) h ∙ ap (λ ts. ts ++ tokens before) (added_end m l.more refl);
      is_mark = refl;
    }
