-- What one more byte does to the tokens, by what its code brings.
use Rattle.std.proofs.Common.{◌≡◌, ◌∙◌, sym, ap, refl, ℕ, ◌+◌, List, ◌∷◌, Bool, true, false, ◌||◌, ◌&&◌, if◌then◌else◌, inl, inr, length}
use Rattle.std.specs.Prelude.{nat_eq}
use Rattle.std.proofs.lemmas.Bool.{cases_Bool, eqb-true}
use Rattle.pal_text.specs.declared.characters.Meaning.{Meaning}
use Rattle.pal_text.specs.declared.characters.Meaning.TheVariants.{Ignored, LineEnd, Character}
use Rattle.pal_text.specs.declared.tokens.TokenKind.{TokenKind}
use Rattle.pal_text.specs.declared.tokens.TokenKind.TheVariants as kind
use Rattle.pal_text.specs.declared.tokens.Token.{Token}
use Rattle.pal_text.specs.declared.scan.CodeEffect.{CodeEffect}
use Rattle.pal_text.specs.declared.scan.CodeEffect.TheVariants.{Nothing, Feed, End, Comment, One}
use Rattle.pal_text.specs.Characters.{code, is_ignored, returned, meaning, in_comment, line}
use Rattle.pal_text.specs.Tokens.{kind_of, token, is_end}
use Rattle.pal_text.specs.Adding.{added, grown, tokens}
use Rattle.pal_text.specs.Scan.{returned_by, of_kind, brings, is_line_code, mark_kind, Closes}
use Rattle.pal_text.proofs.ByMeaning.{comment_by, line_by}

-- the same by the answers to the tests of a code, which are: ignored, a return, a feed, a tab, a slash
brings_by : Bool → Bool → Bool → Bool → Bool → TokenKind → CodeEffect
brings_by ig cr lf ta sl k = if ig then Nothing else if cr then End else if lf then Feed else if ta then One kind.Space else if sl then Comment else of_kind k

meaning_by : Bool → Bool → Bool → Bool → Bool → ℕ → Meaning
meaning_by ig cr lf ta r c = if ig then Ignored else if cr then LineEnd else if lf then (if r then Ignored else LineEnd) else if ta then Character 32 else Character c

returned_from : Bool → Bool → Bool → Bool → Bool
returned_from ig cr lf r = if cr then true else if ig || lf then r else false

mark_by : Bool → Bool → TokenKind → TokenKind
mark_by cr lf k = if cr || lf then kind.End else k

past_by : Bool → Bool → ℕ → ℕ
past_by cr lf n = if cr || lf then n + 1 else n

-- the kind that ends no statement
one_is : (k k' : TokenKind) → of_kind k ≡ One k' → (k ≡ k') × (is_end k ≡ false)
one_is k k' h = elim (cases_Bool (is_end k)) [
  | inl ends ↦ cc (sym (ap (λ b. if b then End else One k) ends) ∙ h)
  | inr other ↦ (cc (sym (ap (λ b. if b then End else One k) other) ∙ h), other)
]

end_is : (k : TokenKind) → of_kind k ≡ End → is_end k ≡ true
end_is k h = elim (cases_Bool (is_end k)) [
  | inl ends ↦ ends
  | inr other ↦ cc (sym (ap (λ b. if b then End else One k) other) ∙ h)
]

no_slash : (k : TokenKind) → of_kind k ≡ Comment → ⊥
no_slash k h = elim (cases_Bool (is_end k)) [
  | inl ends ↦ cc (sym (ap (λ b. if b then End else One k) ends) ∙ h)
  | inr other ↦ cc (sym (ap (λ b. if b then End else One k) other) ∙ h)
]

no_nothing : (k : TokenKind) → of_kind k ≡ Nothing → ⊥
no_nothing k h = elim (cases_Bool (is_end k)) [
  | inl ends ↦ cc (sym (ap (λ b. if b then End else One k) ends) ∙ h)
  | inr other ↦ cc (sym (ap (λ b. if b then End else One k) other) ∙ h)
]

no_feed : (k : TokenKind) → of_kind k ≡ Feed → ⊥
no_feed k h = elim (cases_Bool (is_end k)) [
  | inl ends ↦ cc (sym (ap (λ b. if b then End else One k) ends) ∙ h)
  | inr other ↦ cc (sym (ap (λ b. if b then End else One k) other) ∙ h)
]

record Quiets (m : Meaning) (before after : Bool) : Type 0 where
  meaning_is : m ≡ Ignored
  returned_is : after ≡ before

quiet_by : (ig cr lf ta sl r : Bool) (c : ℕ) → (ig && cr) ≡ false → brings_by ig cr lf ta sl (kind_of c) ≡ Nothing → Quiets (meaning_by ig cr lf ta r c) r (returned_from ig cr lf r)
unfolding brings_by meaning_by returned_from
quiet_by true true lf ta sl r c apart h = cc
quiet_by true false lf ta sl r c apart h = record { meaning_is = refl; returned_is = refl }
quiet_by false true lf ta sl r c apart h = cc
quiet_by false false true ta sl r c apart h = cc
quiet_by false false false true sl r c apart h = cc
quiet_by false false false false true r c apart h = cc
quiet_by false false false false false r c apart h = absurd (no_nothing (kind_of c) h)

feed_by : (ig cr lf ta sl r : Bool) (c : ℕ) → brings_by ig cr lf ta sl (kind_of c) ≡ Feed → r ≡ true → Quiets (meaning_by ig cr lf ta r c) r (returned_from ig cr lf r)
unfolding brings_by meaning_by returned_from
feed_by true cr lf ta sl r c h was = cc
feed_by false true lf ta sl r c h was = cc
feed_by false false true ta sl r c h was = record { meaning_is = ap (λ b. if b then Ignored else LineEnd) was; returned_is = refl }
feed_by false false false true sl r c h was = cc
feed_by false false false false true r c h was = cc
feed_by false false false false false r c h was = absurd (no_feed (kind_of c) h)

-- the byte ends a statement
record Ends (ig cr lf ta r : Bool) (c : ℕ) : Type 0 where
  grows : (at n : ℕ) (ts : List Token) → grown at n false (meaning_by ig cr lf ta r c) ts ≡ added (token (mark_by cr lf (kind_of c)) n at) ts
  is_mark : is_end (mark_by cr lf (kind_of c)) ≡ true
  line_is : (n : ℕ) → line_by n (meaning_by ig cr lf ta r c) ≡ past_by cr lf n
  returned_is : returned_from ig cr lf r ≡ cr
  comment_is : comment_by false (meaning_by ig cr lf ta r c) ≡ false

ends_by : (ig cr lf ta sl r : Bool) (c : ℕ) → nat_eq c 47 ≡ sl → brings_by ig cr lf ta sl (kind_of c) ≡ End → Ends ig cr lf ta r c
unfolding brings_by meaning_by returned_from mark_by past_by
ends_by true cr lf ta sl r c e h = cc
ends_by false true lf ta sl r c e h = record { grows = λ at n ts. refl; is_mark = refl; line_is = λ n. refl; returned_is = refl; comment_is = refl }
ends_by false false true ta sl r c e h = cc
ends_by false false false true sl r c e h = cc
ends_by false false false false true r c e h = cc
ends_by false false false false false r c e h = record {
  grows = λ at n ts. ap (λ b. if b then ts else added (token (kind_of c) n at) ts) e;
  is_mark = end_is (kind_of c) h;
  line_is = λ n. refl;
  returned_is = refl;
  comment_is = e;
}

fed_by : (ig cr lf ta sl r : Bool) (c : ℕ) → r ≡ false → brings_by ig cr lf ta sl (kind_of c) ≡ Feed → Ends ig cr lf ta r c
unfolding brings_by meaning_by returned_from mark_by past_by
fed_by true cr lf ta sl r c e h = cc
fed_by false true lf ta sl r c e h = cc
fed_by false false true ta sl true c e h = cc
fed_by false false true ta sl false c e h = record { grows = λ at n ts. refl; is_mark = refl; line_is = λ n. refl; returned_is = refl; comment_is = refl }
fed_by false false false true sl r c e h = cc
fed_by false false false false true r c e h = cc
fed_by false false false false false r c e h = absurd (no_feed (kind_of c) h)

-- a return or a feed within a comment, where no return stands right before
line_ends_by : (ig cr lf ta r : Bool) (c : ℕ) → (ig && cr) ≡ false → (ig && lf) ≡ false → r ≡ false → (cr || lf) ≡ true → meaning_by ig cr lf ta r c ≡ LineEnd
unfolding meaning_by
line_ends_by true true lf ta r c a b e h = cc
line_ends_by true false true ta r c a b e h = cc
line_ends_by true false false ta r c a b e h = cc
line_ends_by false true lf ta r c a b e h = refl
line_ends_by false false true ta r c a b e h = ap (λ x. if x then Ignored else LineEnd) e
line_ends_by false false false ta r c a b e h = cc

-- one character
record Brought (m : Meaning) (k : TokenKind) (after : Bool) : Type 0 where
  character : ℕ
  meaning_is : m ≡ Character character
  kind_is : kind_of character ≡ k
  plain : nat_eq character 47 ≡ false
  ends_none : is_end k ≡ false
  returned_is : after ≡ false

one_by : (ig cr lf ta sl r : Bool) (c : ℕ) (k : TokenKind) → nat_eq c 47 ≡ sl → brings_by ig cr lf ta sl (kind_of c) ≡ One k → Brought (meaning_by ig cr lf ta r c) k (returned_from ig cr lf r)
unfolding brings_by meaning_by returned_from
one_by true cr lf ta sl r c k e h = cc
one_by false true lf ta sl r c k e h = cc
one_by false false true ta sl r c k e h = cc
one_by false false false true sl r c k e h =
    let same : kind.Space ≡ k = cc in
    record { character = 32; meaning_is = refl; kind_is = same; plain = refl; ends_none = ap is_end (sym same); returned_is = refl }
one_by false false false false true r c k e h = cc
one_by false false false false false r c k e h =
    let found : (kind_of c ≡ k) × (is_end (kind_of c) ≡ false) = one_is (kind_of c) k h in
    record { character = c; meaning_is = refl; kind_is = found.0; plain = e; ends_none = ap is_end (sym found.0) ∙ found.1; returned_is = refl }

-- the front of a comment
record Slashed (m : Meaning) (after : Bool) : Type 0 where
  character : ℕ
  meaning_is : m ≡ Character character
  slash : nat_eq character 47 ≡ true
  returned_is : after ≡ false

slash_by : (ig cr lf ta sl r : Bool) (c : ℕ) → nat_eq c 47 ≡ sl → brings_by ig cr lf ta sl (kind_of c) ≡ Comment → Slashed (meaning_by ig cr lf ta r c) (returned_from ig cr lf r)
unfolding brings_by meaning_by returned_from
slash_by true cr lf ta sl r c e h = cc
slash_by false true lf ta sl r c e h = cc
slash_by false false true ta sl r c e h = cc
slash_by false false false true sl r c e h = cc
slash_by false false false false true r c e h = record { character = c; meaning_is = refl; slash = e; returned_is = refl }
slash_by false false false false false r c e h = absurd (no_slash (kind_of c) h)

-- no code has two meanings
thirteen : (c : ℕ) → c ≡ 13 → is_ignored c ≡ false
thirteen c e = ap is_ignored e

ten : (c : ℕ) → c ≡ 10 → is_ignored c ≡ false
ten c e = ap is_ignored e

no_ignored : (a b : Bool) → (b ≡ true → a ≡ false) → (a && b) ≡ false
no_ignored true true h = h refl
no_ignored true false h = refl
no_ignored false b h = refl

ignored_no_return : (c : ℕ) → (is_ignored c && nat_eq c 13) ≡ false
ignored_no_return c = no_ignored (is_ignored c) (nat_eq c 13) (λ h. thirteen c (eqb-true c 13 h))

ignored_no_feed : (c : ℕ) → (is_ignored c && nat_eq c 10) ≡ false
ignored_no_feed c = no_ignored (is_ignored c) (nat_eq c 10) (λ h. ten c (eqb-true c 10 h))

-- what a byte leaves as it was
pub record Kept (f : List ℕ) (b : ℕ) : Type 0 where
  pub tokens_are : tokens (b ∷ f) ≡ tokens f
  pub line_is : line (b ∷ f) ≡ line f
  pub returned_is : returned (b ∷ f) ≡ returned f
  pub comment_is : in_comment (b ∷ f) ≡ in_comment f

kept_by : (f : List ℕ) (b : ℕ) → Quiets (meaning (returned f) b) (returned f) (returned_by (returned f) b) → Kept f b
kept_by f b q = record {
  tokens_are = ap (λ m. grown (length f) (line f) (in_comment f) m (tokens f)) q.meaning_is;
  line_is = ap (line_by (line f)) q.meaning_is;
  returned_is = q.returned_is;
  comment_is = ap (comment_by (in_comment f)) q.meaning_is;
}

pub nothing_kept : (f : List ℕ) (b : ℕ) → brings (code b) ≡ Nothing → Kept f b
unfolding brings_by meaning_by returned_from
nothing_kept f b h = kept_by f b (quiet_by (is_ignored (code b)) (nat_eq (code b) 13) (nat_eq (code b) 10) (nat_eq (code b) 9) (nat_eq (code b) 47) (returned f) (code b) (ignored_no_return (code b)) h)

pub feed_kept : (f : List ℕ) (b : ℕ) → brings (code b) ≡ Feed → returned f ≡ true → Kept f b
unfolding brings_by meaning_by returned_from
feed_kept f b h was = kept_by f b (feed_by (is_ignored (code b)) (nat_eq (code b) 13) (nat_eq (code b) 10) (nat_eq (code b) 9) (nat_eq (code b) 47) (returned f) (code b) h was)

closes_by : (f : List ℕ) (b : ℕ) → in_comment f ≡ false → Ends (is_ignored (code b)) (nat_eq (code b) 13) (nat_eq (code b) 10) (nat_eq (code b) 9) (returned f) (code b) → Closes f b
unfolding meaning_by returned_from mark_by past_by
closes_by f b e h = record {
  tokens_are = ap (λ x. grown (length f) (line f) x (meaning (returned f) b) (tokens f)) e ∙ h.grows (length f) (line f) (tokens f);
  is_mark = h.is_mark;
  line_is = h.line_is (line f);
  returned_is = h.returned_is;
  comment_is = ap (λ x. comment_by x (meaning (returned f) b)) e ∙ h.comment_is;
}

pub end_closes : (f : List ℕ) (b : ℕ) → in_comment f ≡ false → brings (code b) ≡ End → Closes f b
unfolding brings_by
end_closes f b e h = closes_by f b e (ends_by (is_ignored (code b)) (nat_eq (code b) 13) (nat_eq (code b) 10) (nat_eq (code b) 9) (nat_eq (code b) 47) (returned f) (code b) refl h)

pub feed_closes : (f : List ℕ) (b : ℕ) → in_comment f ≡ false → brings (code b) ≡ Feed → returned f ≡ false → Closes f b
unfolding brings_by
feed_closes f b e h was = closes_by f b e (fed_by (is_ignored (code b)) (nat_eq (code b) 13) (nat_eq (code b) 10) (nat_eq (code b) 9) (nat_eq (code b) 47) (returned f) (code b) was h)

-- one character of a token
pub record Grows (f : List ℕ) (b : ℕ) (k : TokenKind) : Type 0 where
  pub tokens_are : tokens (b ∷ f) ≡ added (token k (line f) (length f)) (tokens f)
  pub line_is : line (b ∷ f) ≡ line f
  pub returned_is : returned (b ∷ f) ≡ false
  pub comment_is : in_comment (b ∷ f) ≡ false
  pub ends_none : is_end k ≡ false

grows_by : (f : List ℕ) (b : ℕ) (k : TokenKind) → in_comment f ≡ false → Brought (meaning (returned f) b) k (returned_by (returned f) b) → Grows f b k
grows_by f b k e h = record {
  tokens_are = ap (λ x. grown (length f) (line f) x (meaning (returned f) b) (tokens f)) e
      ∙ ap (λ m. grown (length f) (line f) false m (tokens f)) h.meaning_is
      ∙ ap (λ x. if x then tokens f else added (token (kind_of h.character) (line f) (length f)) (tokens f)) h.plain
      ∙ ap (λ x. added (token x (line f) (length f)) (tokens f)) h.kind_is;
  line_is = ap (line_by (line f)) h.meaning_is;
  returned_is = h.returned_is;
  comment_is = ap (λ x. comment_by x (meaning (returned f) b)) e ∙ ap (comment_by false) h.meaning_is ∙ h.plain;
  ends_none = h.ends_none;
}

pub one_grows : (f : List ℕ) (b : ℕ) (k : TokenKind) → in_comment f ≡ false → brings (code b) ≡ One k → Grows f b k
unfolding brings_by meaning_by returned_from
one_grows f b k e h = grows_by f b k e (one_by (is_ignored (code b)) (nat_eq (code b) 13) (nat_eq (code b) 10) (nat_eq (code b) 9) (nat_eq (code b) 47) (returned f) (code b) k refl h)

-- a comment begins, or goes on
pub record Comments (f : List ℕ) (b : ℕ) : Type 0 where
  pub tokens_are : tokens (b ∷ f) ≡ tokens f
  pub line_is : line (b ∷ f) ≡ line f
  pub returned_is : returned (b ∷ f) ≡ false
  pub comment_is : in_comment (b ∷ f) ≡ true

slash_comments : (f : List ℕ) (b : ℕ) → in_comment f ≡ false → Slashed (meaning (returned f) b) (returned_by (returned f) b) → Comments f b
slash_comments f b e h = record {
  tokens_are = ap (λ x. grown (length f) (line f) x (meaning (returned f) b) (tokens f)) e
      ∙ ap (λ m. grown (length f) (line f) false m (tokens f)) h.meaning_is
      ∙ ap (λ x. if x then tokens f else added (token (kind_of h.character) (line f) (length f)) (tokens f)) h.slash;
  line_is = ap (line_by (line f)) h.meaning_is;
  returned_is = h.returned_is;
  comment_is = ap (λ x. comment_by x (meaning (returned f) b)) e ∙ ap (comment_by false) h.meaning_is ∙ h.slash;
}

pub comment_begins : (f : List ℕ) (b : ℕ) → in_comment f ≡ false → brings (code b) ≡ Comment → Comments f b
unfolding brings_by meaning_by returned_from
comment_begins f b e h = slash_comments f b e (slash_by (is_ignored (code b)) (nat_eq (code b) 13) (nat_eq (code b) 10) (nat_eq (code b) 9) (nat_eq (code b) 47) (returned f) (code b) refl h)

commented : (m : Meaning) (at n : ℕ) (ts : List Token) → (m ≡ LineEnd → ⊥) → (grown at n true m ts ≡ ts) × (line_by n m ≡ n) × (comment_by true m ≡ true)
commented Ignored at n ts h = (refl, refl, refl)
commented LineEnd at n ts h = absurd (h refl)
commented (Character c) at n ts h = (refl, refl, refl)

no_line_by : (ig cr lf ta r : Bool) (c : ℕ) → (cr || lf) ≡ false → meaning_by ig cr lf ta r c ≡ LineEnd → ⊥
unfolding meaning_by
no_line_by ig true lf ta r c e h = cc
no_line_by ig false true ta r c e h = cc
no_line_by true false false ta r c e h = cc
no_line_by false false false true r c e h = cc
no_line_by false false false false r c e h = cc

not_returned_by : (ig cr lf r : Bool) → (cr || lf) ≡ false → r ≡ false → returned_from ig cr lf r ≡ false
unfolding returned_from
not_returned_by ig true lf r e h = cc
not_returned_by ig false true r e h = cc
not_returned_by true false false r e h = h
not_returned_by false false false r e h = refl

pub comment_more : (f : List ℕ) (b : ℕ) → in_comment f ≡ true → returned f ≡ false → is_line_code (code b) ≡ false → Comments f b
unfolding meaning_by returned_from
comment_more f b e was h =
    let m : Meaning = meaning (returned f) b in
    let k : (grown (length f) (line f) true m (tokens f) ≡ tokens f) × (line_by (line f) m ≡ line f) × (comment_by true m ≡ true) =
    commented m (length f) (line f) (tokens f) (no_line_by (is_ignored (code b)) (nat_eq (code b) 13) (nat_eq (code b) 10) (nat_eq (code b) 9) (returned f) (code b) h) in
    record {
      tokens_are = ap (λ x. grown (length f) (line f) x m (tokens f)) e ∙ k.0;
      line_is = k.1;
      returned_is = not_returned_by (is_ignored (code b)) (nat_eq (code b) 13) (nat_eq (code b) 10) (returned f) h was;
      comment_is = ap (λ x. comment_by x m) e ∙ k.2;
    }

-- a byte that ends a line is a return or a feed
line_code_by : (ig cr lf ta r : Bool) (c : ℕ) → meaning_by ig cr lf ta r c ≡ LineEnd → (cr || lf) ≡ true
unfolding meaning_by
line_code_by ig true lf ta r c e = refl
line_code_by ig false true ta r c e = refl
line_code_by true false false ta r c e = cc
line_code_by false false false true r c e = cc
line_code_by false false false false r c e = cc

line_returns_by : (ig cr lf ta r : Bool) (c : ℕ) → meaning_by ig cr lf ta r c ≡ LineEnd → returned_from ig cr lf r ≡ cr
unfolding meaning_by returned_from
line_returns_by ig true lf ta r c e = refl
line_returns_by true false lf ta r c e = cc
line_returns_by false false true ta true c e = cc
line_returns_by false false true ta false c e = refl
line_returns_by false false false true r c e = cc
line_returns_by false false false false r c e = cc

pub line_is_code : (f : List ℕ) (b : ℕ) → meaning (returned f) b ≡ LineEnd → is_line_code (code b) ≡ true
unfolding meaning_by
line_is_code f b e = line_code_by (is_ignored (code b)) (nat_eq (code b) 13) (nat_eq (code b) 10) (nat_eq (code b) 9) (returned f) (code b) e

pub line_closes : (f : List ℕ) (b : ℕ) → meaning (returned f) b ≡ LineEnd → Closes f b
unfolding meaning_by returned_from
line_closes f b e =
    let h : is_line_code (code b) ≡ true = line_is_code f b e in
    let mark : kind.End ≡ mark_kind (code b) = sym (ap (λ x. if x then kind.End else kind_of (code b)) h) in
    record {
      tokens_are = ap (λ m. grown (length f) (line f) (in_comment f) m (tokens f)) e ∙ ap (λ k. added (token k (line f) (length f)) (tokens f)) mark;
      is_mark = ap is_end (sym mark);
      line_is = ap (line_by (line f)) e ∙ sym (ap (λ x. if x then line f + 1 else line f) h);
      returned_is = line_returns_by (is_ignored (code b)) (nat_eq (code b) 13) (nat_eq (code b) 10) (nat_eq (code b) 9) (returned f) (code b) e;
      comment_is = ap (comment_by (in_comment f)) e;
    }

pub comment_closes : (f : List ℕ) (b : ℕ) → returned f ≡ false → is_line_code (code b) ≡ true → Closes f b
unfolding meaning_by
comment_closes f b was h =
    line_closes f b (line_ends_by (is_ignored (code b)) (nat_eq (code b) 13) (nat_eq (code b) 10) (nat_eq (code b) 9) (returned f) (code b) (ignored_no_return (code b)) (ignored_no_feed (code b)) was h)
