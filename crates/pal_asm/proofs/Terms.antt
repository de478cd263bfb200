-- Terms taken one by one.
use Rattle.std.proofs.Common.{◌≡◌, ◌∙◌, sym, ap, refl, ℕ, ◌+◌, ◌<◌, ◌≤◌, List, [], ◌∷◌, ◌++◌, append_assoc, true, false, if◌then◌else◌, length, get_or, drop}
use Rattle.std.specs.Prelude.{Result, Ok, Err}
use Rattle.std.proofs.lemmas.Bool.{cond-true, cond-false}
use Rattle.std.proofs.lemmas.List.{drop_more, drop_all, append-nil}
use Rattle.pal_text.specs.declared.tokens.Token.{Token}
use Rattle.pal_text.specs.Grammar.{is_joiner}
use Rattle.pal_acts.specs.declared.act.Sign.{Sign}
use Rattle.pal_acts.specs.declared.act.Sign.TheVariants.{Or}
use Rattle.pal_acts.specs.declared.act.ExpressionTerm.{ExpressionTerm}
use Rattle.pal_acts.specs.declared.act.SignedTerm.{SignedTerm}
use Rattle.pal_acts.specs.declared.fault_code.FaultCode.{FaultCode}
use Rattle.pal_asm.specs.Expressions.{sign_of, term, in_front, joins}

-- a term that joins what stands before it so
abbrev pub join : Sign → ExpressionTerm → SignedTerm
join s t = record { sign = s; term = t }

-- these terms before others
abbrev pub with_front : List SignedTerm → Result (List SignedTerm) FaultCode → Result (List SignedTerm) FaultCode
with_front xs (Ok ys) = Ok (xs ++ ys)
with_front xs (Err c) = Err c

pub with_none : (r : Result (List SignedTerm) FaultCode) → with_front [] r ≡ r
with_none (Ok ys) = refl
with_none (Err c) = refl

one_more : (xs : List SignedTerm) (s : Sign) (t : ExpressionTerm) (r : Result (List SignedTerm) FaultCode) → with_front xs (in_front s (Ok t) r) ≡ with_front (xs ++ join s t ∷ []) r
one_more xs s t (Ok ys) = ap Ok (sym (append_assoc xs (join s t ∷ []) ys))
one_more xs s t (Err c) = refl

module _ (b : ℕ) (source : List ℕ) (xs : List SignedTerm) (s : Sign) (ts : List Token) (i : ℕ) (d : Token) (h : i < length ts) where
  left : joins b source s (drop i ts)
      ≡ (if is_joiner (get_or ts i d).kind then joins b source (sign_of (get_or ts i d).kind) (drop (i + 1) ts) else in_front s (term b source (get_or ts i d)) (joins b source Or (drop (i + 1) ts)))
  left = ap (joins b source s) (drop_more ts i d h)

  pub joiner_left : is_joiner (get_or ts i d).kind ≡ true → with_front xs (joins b source s (drop i ts)) ≡ with_front xs (joins b source (sign_of (get_or ts i d).kind) (drop (i + 1) ts))
  joiner_left is = ap (with_front xs) (left ∙ cond-true (is_joiner (get_or ts i d).kind) _ _ is)

  pub term_left : (t : ExpressionTerm) → is_joiner (get_or ts i d).kind ≡ false → term b source (get_or ts i d) ≡ Ok t
      → with_front xs (joins b source s (drop i ts)) ≡ with_front (xs ++ join s t ∷ []) (joins b source Or (drop (i + 1) ts))
  term_left t is reads =
      ap (with_front xs) (left ∙ cond-false (is_joiner (get_or ts i d).kind) _ _ is ∙ ap (λ r. in_front s r (joins b source Or (drop (i + 1) ts))) reads)
      ∙ one_more xs s t (joins b source Or (drop (i + 1) ts))

  pub bad_left : (c : FaultCode) → is_joiner (get_or ts i d).kind ≡ false → term b source (get_or ts i d) ≡ Err c → with_front xs (joins b source s (drop i ts)) ≡ Err c
  bad_left c is reads =
      ap (with_front xs) (left ∙ cond-false (is_joiner (get_or ts i d).kind) _ _ is ∙ ap (λ r. in_front s r (joins b source Or (drop (i + 1) ts))) reads)

-- what is left once a token was read
module _ (b : ℕ) (source : List ℕ) (xs new : List SignedTerm) (s next : Sign) (ts : List Token) (i : ℕ) (d : Token) (all : Result (List SignedTerm) FaultCode) (h : i < length ts) (so : with_front xs (joins b source s (drop i ts)) ≡ all) where
  pub after_joiner : is_joiner (get_or ts i d).kind ≡ true → new ≡ xs → next ≡ sign_of (get_or ts i d).kind → with_front new (joins b source next (drop (i + 1) ts)) ≡ all
  after_joiner is e f =
      ap (λ l. with_front l (joins b source next (drop (i + 1) ts))) e ∙ ap (λ k. with_front xs (joins b source k (drop (i + 1) ts))) f ∙ sym (joiner_left b source xs s ts i d h is) ∙ so

  pub after_term : (t : ExpressionTerm) → is_joiner (get_or ts i d).kind ≡ false → term b source (get_or ts i d) ≡ Ok t → new ≡ xs ++ join s t ∷ [] → next ≡ Or → with_front new (joins b source next (drop (i + 1) ts)) ≡ all
  after_term t is reads e f =
      ap (λ l. with_front l (joins b source next (drop (i + 1) ts))) e ∙ ap (λ k. with_front (xs ++ join s t ∷ []) (joins b source k (drop (i + 1) ts))) f ∙ sym (term_left b source xs s ts i d h t is reads) ∙ so

pub none_left : (b : ℕ) (source : List ℕ) (xs : List SignedTerm) (s : Sign) (ts : List Token) → ts ≡ [] → with_front xs (joins b source s ts) ≡ Ok xs
none_left b source xs s ts e = ap (λ l. with_front xs (joins b source s l)) e ∙ ap Ok (append-nil xs)

-- none is left
pub all_left : (b : ℕ) (source : List ℕ) (xs : List SignedTerm) (s : Sign) (ts : List Token) (i : ℕ) → length ts ≤ i → with_front xs (joins b source s (drop i ts)) ≡ Ok xs
all_left b source xs s ts i h = none_left b source xs s (drop i ts) (drop_all i ts h)
