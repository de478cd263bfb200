-- What the tokens of a statement are, by the first of them.
use Rattle.std.proofs.Common.{◌≡◌, ◌∙◌, sym, ap, refl, ◌-◌, ◌<◌, ◌≤◌, List, [], ◌∷◌, ◌&&◌, true, false, arith, length, get_or, take, drop}
use Rattle.std.proofs.lemmas.List.{take_all}
use Rattle.pal_text.specs.declared.tokens.Token.{Token}
use Rattle.std.proofs.lemmas.Bool.{cond-true, cond-false}
use Rattle.pal_text.specs.declared.grammar.Form.TheVariants as form
use Rattle.pal_text.specs.Tokens.{is_sign}
use Rattle.pal_text.specs.Grammar.{is_term, is_joiner, is_star, is_equals, is_name, is_terms, is_expression}
use Rattle.pal_text.specs.Reading.{if_expression, single, body}

pub terms_on : (ts : List Token) (d e : Token) → 2 ≤ length ts → is_term (get_or ts 0 d).kind ≡ true → is_joiner (get_or ts 1 e).kind ≡ true → is_terms ts ≡ is_terms (take (length ts - 2) (drop 2 ts))
terms_on [] d e h a b = absurd (omega arith)
terms_on (t ∷ []) d e h a b = absurd (omega arith)
terms_on (t ∷ j ∷ ts) d e h a b =
    ap (λ x. x && is_joiner j.kind && is_terms ts) a ∙ ap (λ x. x && is_terms ts) b ∙ ap is_terms (sym (take_all (length (t ∷ j ∷ ts) - 2) ts (omega arith)))

pub no_term : (ts : List Token) (d : Token) → 2 ≤ length ts → is_term (get_or ts 0 d).kind ≡ false → false ≡ is_terms ts
no_term [] d h a = absurd (omega arith)
no_term (t ∷ []) d h a = absurd (omega arith)
no_term (t ∷ j ∷ ts) d h a = sym (ap (λ x. x && is_joiner j.kind && is_terms ts) a)

pub no_joiner : (ts : List Token) (d e : Token) → 2 ≤ length ts → is_term (get_or ts 0 d).kind ≡ true → is_joiner (get_or ts 1 e).kind ≡ false → false ≡ is_terms ts
no_joiner [] d e h a b = absurd (omega arith)
no_joiner (t ∷ []) d e h a b = absurd (omega arith)
no_joiner (t ∷ j ∷ ts) d e h a b = sym (ap (λ x. x && is_joiner j.kind && is_terms ts) a ∙ ap (λ x. x && is_terms ts) b)

pub one_term : (ts : List Token) (d : Token) → 1 ≤ length ts → length ts < 2 → is_term (get_or ts 0 d).kind ≡ is_terms ts
one_term [] d h k = absurd (omega arith)
one_term (t ∷ []) d h k = refl
one_term (t ∷ j ∷ ts) d h k = absurd (omega arith)

pub none_are : (ts : List Token) → length ts < 1 → false ≡ is_terms ts
none_are [] h = refl
none_are (t ∷ ts) h = absurd (omega arith)

pub one_body : (ts : List Token) (d : Token) → 1 ≤ length ts → length ts < 2 → single (get_or ts 0 d).kind ≡ body ts
one_body [] d h k = absurd (omega arith)
one_body (t ∷ []) d h k = refl
one_body (t ∷ u ∷ ts) d h k = absurd (omega arith)

pub star_body : (ts : List Token) (d : Token) → 2 ≤ length ts → is_star (get_or ts 0 d).kind ≡ true → if_expression (take (length ts - 1) (drop 1 ts)) form.Origin ≡ body ts
star_body [] d h a = absurd (omega arith)
star_body (t ∷ []) d h a = absurd (omega arith)
star_body (t ∷ u ∷ ts) d h a = ap (λ l. if_expression l form.Origin) (take_all (length (t ∷ u ∷ ts) - 1) (u ∷ ts) (omega arith)) ∙ sym (cond-true (is_star t.kind) _ _ a)

pub equals_body : (ts : List Token) (d e : Token) → 2 ≤ length ts → is_star (get_or ts 0 d).kind ≡ false → is_name (get_or ts 0 d).kind ≡ true → is_equals (get_or ts 1 e).kind ≡ true
    → if_expression (take (length ts - 2) (drop 2 ts)) form.Assign ≡ body ts
equals_body [] d e h a b c = absurd (omega arith)
equals_body (t ∷ []) d e h a b c = absurd (omega arith)
equals_body (t ∷ u ∷ ts) d e h a b c =
    ap (λ l. if_expression l form.Assign) (take_all (length (t ∷ u ∷ ts) - 2) ts (omega arith))
    ∙ sym (cond-false (is_star t.kind) _ _ a ∙ cond-true (is_name t.kind && is_equals u.kind) _ _ (ap (λ x. x && is_equals u.kind) b ∙ c))

-- neither an origin nor an assignment
word_by : (ts : List Token) (d e : Token) → 2 ≤ length ts → is_star (get_or ts 0 d).kind ≡ false → (is_name (get_or ts 0 d).kind && is_equals (get_or ts 1 e).kind) ≡ false → if_expression ts form.Word ≡ body ts
word_by [] d e h a b = absurd (omega arith)
word_by (t ∷ []) d e h a b = absurd (omega arith)
word_by (t ∷ u ∷ ts) d e h a b = sym (cond-false (is_star t.kind) _ _ a ∙ cond-false (is_name t.kind && is_equals u.kind) _ _ b)

pub nameless_body : (ts : List Token) (d : Token) → 2 ≤ length ts → is_star (get_or ts 0 d).kind ≡ false → is_name (get_or ts 0 d).kind ≡ false → if_expression ts form.Word ≡ body ts
nameless_body ts d h a b = word_by ts d d h a (ap (λ x. x && is_equals (get_or ts 1 d).kind) b)

pub unequal_body : (ts : List Token) (d e : Token) → 2 ≤ length ts → is_star (get_or ts 0 d).kind ≡ false → is_name (get_or ts 0 d).kind ≡ true → is_equals (get_or ts 1 e).kind ≡ false → if_expression ts form.Word ≡ body ts
unequal_body ts d e h a b c = word_by ts d e h a (ap (λ x. x && is_equals (get_or ts 1 e).kind) b ∙ c)

pub signed : (ts : List Token) (d : Token) → 1 ≤ length ts → is_sign (get_or ts 0 d).kind ≡ true → is_terms (take (length ts - 1) (drop 1 ts)) ≡ is_expression ts
signed [] d h a = absurd (omega arith)
signed (t ∷ ts) d h a = ap is_terms (take_all (length (t ∷ ts) - 1) ts (omega arith)) ∙ sym (cond-true (is_sign t.kind) _ _ a)
