-- What is read from the tokens of a statement is what the grammar spells, and all that it spells.
use Rattle.std.proofs.Common.{◌≡◌, ◌∙◌, sym, ap, refl, ℕ, ◌+◌, List, [], ◌∷◌, Bool, true, false, ◌&&◌, if◌then◌else◌, Option, Some, None, arith, ◌≤◌, ◌-◌, length, take, drop, get_or, subst}
use Rattle.std.proofs.lemmas.List.{take_all}
use Rattle.std.proofs.lemmas.Bool.{cond_both}
use Rattle.pal_text.specs.declared.tokens.TokenKind.{TokenKind}
use Rattle.pal_text.specs.declared.tokens.TokenKind.TheVariants as kind
use Rattle.pal_text.specs.declared.tokens.Token.{Token}
use Rattle.pal_text.specs.declared.grammar.Form.{Form}
use Rattle.pal_text.specs.declared.grammar.Form.TheVariants as form
use Rattle.pal_text.specs.declared.grammar.Shape.{Shape}
use Rattle.pal_text.specs.Tokens.{is_sign}
use Rattle.pal_text.specs.Grammar.{is_term, is_joiner, is_direction, is_name, is_terms, is_expression, Said, IsStatement, nothing, origin, assign, assign_direction, decimal, octal, pause, word, tagged}
use Rattle.pal_text.proofs.Sayings.{Nothing, Origin, Assign, AssignDirection, Decimal, Octal, Pause, Word}
use Rattle.pal_text.specs.Reading.{is_star, is_equals, is_comma, is_tag, if_expression, single, body, shaped, shape}

-- a tag is taken off the front of the tokens
pub strip : (xs : List Token) (n : ℕ) (d e : Token) → 2 ≤ length xs → is_tag (get_or xs 0 d).kind (get_or xs 1 e).kind ≡ true → shape n xs ≡ shape (n + 1) (take (length xs - 2) (drop 2 xs))
strip [] n d e h t = absurd (omega arith)
strip (x ∷ []) n d e h t = absurd (omega arith)
strip (x ∷ y ∷ xs) n d e h t =
    let all : take (length (x ∷ y ∷ xs) - 2) xs ≡ xs = take_all (length (x ∷ y ∷ xs) - 2) xs (omega arith) in
    ap (λ b. if b then shape (n + 1) xs else shaped n (body (x ∷ y ∷ xs))) t ∙ ap (λ l. shape (n + 1) l) (sym all)

is_star-Star : (k : TokenKind) → is_star k ≡ true → k ≡ kind.Star
is_star-Star kind.Star h = refl
is_star-Star _ h = cc

is_equals-Equals : (k : TokenKind) → is_equals k ≡ true → k ≡ kind.Equals
is_equals-Equals kind.Equals h = refl
is_equals-Equals _ h = cc

is_comma-Comma : (k : TokenKind) → is_comma k ≡ true → k ≡ kind.Comma
is_comma-Comma kind.Comma h = refl
is_comma-Comma _ h = cc

-- both sides of an and
pub both : (a b : Bool) → (a && b) ≡ true → (a ≡ true) × (b ≡ true)
both true b h = (refl, h)
both false b h = cc

-- of two tests of which one fails, not both hold
second_fails : (a b : Bool) → b ≡ false → (a && b) ≡ false
second_fails true b h = h
second_fails false b h = refl

first_fails : (a b : Bool) → a ≡ false → (a && b) ≡ false
first_fails true b h = cc
first_fails false b h = refl

-- ---- the tags and what is said after them, as a function of the tokens

record Saying : Type 0 where
  tags : List Token
  said : Said

abbrev saying : List Token → Said → Saying
saying tags s = record { tags = tags; said = s }

abbrev if_said : List Token → Said → Option Said
if_said e s = if is_expression e then Some s else None

abbrev assigned_by : TokenKind → Token → List Token → Said
assigned_by kind.Symbol t e = Assign t e
assigned_by _ t e = AssignDirection e

abbrev direction_said : TokenKind → Option Said
direction_said kind.Decimal = Some Decimal
direction_said kind.Octal = Some Octal
direction_said kind.Pause = Some Pause
direction_said _ = None

abbrev single_by : TokenKind → Token → Option Said
single_by k t = if is_term k then Some (Word (t ∷ [])) else direction_said k

abbrev body_said : List Token → Option Said
body_said [] = Some Nothing
body_said (t ∷ []) = single_by t.kind t
body_said (t ∷ u ∷ ts) =
    if is_star t.kind then if_said (u ∷ ts) (Origin (u ∷ ts)) else
    if is_name t.kind && is_equals u.kind then if_said ts (assigned_by t.kind t ts) else if_said (t ∷ u ∷ ts) (Word (t ∷ u ∷ ts))

abbrev untagged : Option Said → Option Saying
untagged None = None
untagged (Some s) = Some (saying [] s)

abbrev with_tag : Token → Option Saying → Option Saying
with_tag t None = None
with_tag t (Some r) = Some (saying (t ∷ r.tags) r.said)

abbrev reading : List Token → Option Saying
reading [] = untagged (body_said [])
reading (t ∷ []) = untagged (body_said (t ∷ []))
reading (t ∷ u ∷ ts) = if is_tag t.kind u.kind then with_tag t (reading ts) else untagged (body_said (t ∷ u ∷ ts))

-- ---- what is read is a statement

means : (ts : List Token) (s q : Said) → Some q ≡ Some s → IsStatement ts [] q → IsStatement ts [] s
means ts s q e h = let same : q ≡ s = cc in subst (λ x. IsStatement ts [] x) same h

means_expression : (ts e : List Token) (s q : Said) → (is_expression e ≡ true → IsStatement ts [] q) → if_said e q ≡ Some s → IsStatement ts [] s
means_expression ts e s q holds =
    cond_both (is_expression e) (Some q) None (λ o. o ≡ Some s → IsStatement ts [] s) (λ ok h. means ts s q h (holds ok)) (λ bad h. cc)

means_direction : (t : Token) (k : TokenKind) (s : Said) → t.kind ≡ k → direction_said k ≡ Some s → IsStatement (t ∷ []) [] s
means_direction t kind.Decimal s is h = means (t ∷ []) s Decimal h (decimal t is)
means_direction t kind.Octal s is h = means (t ∷ []) s Octal h (octal t is)
means_direction t kind.Pause s is h = means (t ∷ []) s Pause h (pause t is)
means_direction t _ s is h = cc

term_no_sign : (k : TokenKind) → is_term k ≡ true → is_sign k ≡ false
term_no_sign kind.Plus h = cc
term_no_sign kind.Minus h = cc
term_no_sign _ h = refl

-- a term alone is an expression
term_expression : (t : Token) → is_term t.kind ≡ true → is_expression (t ∷ []) ≡ true
term_expression t h = ap (λ b. if b then is_terms [] else is_terms (t ∷ [])) (term_no_sign t.kind h) ∙ h

means_single : (t : Token) (s : Said) → single_by t.kind t ≡ Some s → IsStatement (t ∷ []) [] s
means_single t s =
    cond_both (is_term t.kind) (Some (Word (t ∷ []))) (direction_said t.kind) (λ o. o ≡ Some s → IsStatement (t ∷ []) [] s)
    (λ ok h. means (t ∷ []) s (Word (t ∷ [])) h (word (t ∷ []) (term_expression t ok))) (λ bad h. means_direction t t.kind s refl h)

means_assigned : (t u : Token) (ts : List Token) (k : TokenKind) → t.kind ≡ k → is_name k ≡ true → u.kind ≡ kind.Equals → is_expression ts ≡ true → IsStatement (t ∷ u ∷ ts) [] (assigned_by k t ts)
means_assigned t u ts kind.Symbol is h e x = assign t u ts is e x
means_assigned t u ts _ is h e x = assign_direction t u ts (ap is_direction is ∙ h) e x

body_means : (ts : List Token) (s : Said) → body_said ts ≡ Some s → IsStatement ts [] s
body_means [] s h = means [] s Nothing h nothing
body_means (t ∷ []) s h = means_single t s h
body_means (t ∷ u ∷ ts) s h =
    let others : Option Said = if is_name t.kind && is_equals u.kind then if_said ts (assigned_by t.kind t ts) else if_said (t ∷ u ∷ ts) (Word (t ∷ u ∷ ts)) in
    let Says : Option Said → Type 0 = λ o. o ≡ Some s → IsStatement (t ∷ u ∷ ts) [] s in
    cond_both (is_star t.kind) (if_said (u ∷ ts) (Origin (u ∷ ts))) others Says
    (λ star. means_expression (t ∷ u ∷ ts) (u ∷ ts) s (Origin (u ∷ ts)) (λ e. origin t (u ∷ ts) (is_star-Star t.kind star) e))
    (λ none. cond_both (is_name t.kind && is_equals u.kind) (if_said ts (assigned_by t.kind t ts)) (if_said (t ∷ u ∷ ts) (Word (t ∷ u ∷ ts))) Says
    (λ is. means_expression (t ∷ u ∷ ts) ts s (assigned_by t.kind t ts)
    (λ e. let tests = both (is_name t.kind) (is_equals u.kind) is in means_assigned t u ts t.kind refl tests.0 (is_equals-Equals u.kind tests.1) e))
    (λ plain. means_expression (t ∷ u ∷ ts) (t ∷ u ∷ ts) s (Word (t ∷ u ∷ ts)) (λ e. word (t ∷ u ∷ ts) e))) h

at_body : (ts : List Token) (o : Option Said) (r : Saying) → body_said ts ≡ o → untagged o ≡ Some r → IsStatement ts r.tags r.said
at_body ts None r e h = cc
at_body ts (Some s) r e h =
    let same : saying [] s ≡ r = cc in
    subst (λ x. IsStatement ts x.tags x.said) same (body_means ts s e)

tag_then : (t u : Token) (ts : List Token) (o : Option Saying) (r : Saying) → is_tag t.kind u.kind ≡ true → reading ts ≡ o → with_tag t o ≡ Some r → ((q : Saying) → reading ts ≡ Some q → IsStatement ts q.tags q.said)
    → IsStatement (t ∷ u ∷ ts) r.tags r.said
tag_then t u ts None r is e h k = cc
tag_then t u ts (Some q) r is e h k =
    let same : saying (t ∷ q.tags) q.said ≡ r = cc in
    let tests = both (is_name t.kind) (is_comma u.kind) is in
    subst (λ x. IsStatement (t ∷ u ∷ ts) x.tags x.said) same (tagged t u ts q.tags q.said tests.0 (is_comma-Comma u.kind tests.1) (k q e))

sound : (ts : List Token) (r : Saying) → reading ts ≡ Some r → IsStatement ts r.tags r.said
sound [] r h = at_body [] (body_said []) r refl h
sound (t ∷ []) r h = at_body (t ∷ []) (body_said (t ∷ [])) r refl h
sound (t ∷ u ∷ ts) r h =
    cond_both (is_tag t.kind u.kind) (with_tag t (reading ts)) (untagged (body_said (t ∷ u ∷ ts))) (λ o. o ≡ Some r → IsStatement (t ∷ u ∷ ts) r.tags r.said)
    (λ is e. tag_then t u ts (reading ts) r is refl e (λ q k. sound ts q k)) (λ plain e. at_body (t ∷ u ∷ ts) (body_said (t ∷ u ∷ ts)) r refl e) h

-- ---- each statement is read

term_no_star : (k : TokenKind) → is_term k ≡ true → is_star k ≡ false
term_no_star kind.Star h = cc
term_no_star _ h = refl

sign_no_star : (k : TokenKind) → is_sign k ≡ true → is_star k ≡ false
sign_no_star kind.Star h = cc
sign_no_star _ h = refl

sign_no_name : (k : TokenKind) → is_sign k ≡ true → is_name k ≡ false
sign_no_name kind.Plus h = refl
sign_no_name kind.Minus h = refl
sign_no_name _ h = cc

joiner_no_comma : (k : TokenKind) → is_joiner k ≡ true → is_comma k ≡ false
joiner_no_comma kind.Comma h = cc
joiner_no_comma _ h = refl

joiner_no_equals : (k : TokenKind) → is_joiner k ≡ true → is_equals k ≡ false
joiner_no_equals kind.Equals h = cc
joiner_no_equals _ h = refl

direction_name : (k : TokenKind) → is_direction k ≡ true → is_name k ≡ true
direction_name kind.Symbol h = refl
direction_name _ h = h

direction_no_star : (k : TokenKind) → is_direction k ≡ true → is_star k ≡ false
direction_no_star kind.Star h = cc
direction_no_star _ h = refl

direction_assigned : (k : TokenKind) (t : Token) (e : List Token) → is_direction k ≡ true → assigned_by k t e ≡ AssignDirection e
direction_assigned kind.Symbol t e h = cc
direction_assigned _ t e h = refl

-- how an expression of two or more tokens begins
record Begins (k j : TokenKind) : Type 0 where
  no_star : is_star k ≡ false
  no_tag : is_tag k j ≡ false
  no_value : (is_name k && is_equals j) ≡ false

begins_by_sign : (k j : TokenKind) → is_sign k ≡ true → Begins k j
begins_by_sign k j s = record {
  no_star = sign_no_star k s;
  no_tag = first_fails (is_name k) (is_comma j) (sign_no_name k s);
  no_value = first_fails (is_name k) (is_equals j) (sign_no_name k s);
}

begins_by_term : (t u : Token) (ts : List Token) → is_terms (t ∷ u ∷ ts) ≡ true → Begins t.kind u.kind
begins_by_term t u ts h =
    let front : (is_term t.kind ≡ true) × (is_joiner u.kind ≡ true) = both (is_term t.kind) (is_joiner u.kind) (both (is_term t.kind && is_joiner u.kind) (is_terms ts) h).0 in
    record {
      no_star = term_no_star t.kind front.0;
      no_tag = second_fails (is_name t.kind) (is_comma u.kind) (joiner_no_comma u.kind front.1);
      no_value = second_fails (is_name t.kind) (is_equals u.kind) (joiner_no_equals u.kind front.1);
    }

begins : (t u : Token) (ts : List Token) → is_expression (t ∷ u ∷ ts) ≡ true → Begins t.kind u.kind
begins t u ts =
    cond_both (is_sign t.kind) (is_terms (u ∷ ts)) (is_terms (t ∷ u ∷ ts)) (λ b. b ≡ true → Begins t.kind u.kind)
    (λ s h. begins_by_sign t.kind u.kind s) (λ s h. begins_by_term t u ts h)

single_word : (t : Token) → is_expression (t ∷ []) ≡ true → single_by t.kind t ≡ Some (Word (t ∷ []))
single_word t =
    cond_both (is_sign t.kind) (is_terms []) (is_terms (t ∷ [])) (λ b. b ≡ true → single_by t.kind t ≡ Some (Word (t ∷ []))) (λ s h. cc)
    (λ s h. ap (λ b. if b then Some (Word (t ∷ [])) else direction_said t.kind) h)

word_read : (e : List Token) → is_expression e ≡ true → reading e ≡ Some (saying [] (Word e))
word_read [] h = cc
word_read (t ∷ []) h = ap untagged (single_word t h)
word_read (t ∷ u ∷ ts) h =
    let b : Begins t.kind u.kind = begins t u ts h in
    ap (λ x. if x then with_tag t (reading ts) else untagged (body_said (t ∷ u ∷ ts))) b.no_tag
    ∙ ap (λ x. untagged (if x then if_said (u ∷ ts) (Origin (u ∷ ts)) else (if is_name t.kind && is_equals u.kind then if_said ts (assigned_by t.kind t ts) else if_said (t ∷ u ∷ ts) (Word (t ∷ u ∷ ts))))) b.no_star
    ∙ ap (λ x. untagged (if x then if_said ts (assigned_by t.kind t ts) else if_said (t ∷ u ∷ ts) (Word (t ∷ u ∷ ts)))) b.no_value
    ∙ ap (λ x. untagged (if x then Some (Word (t ∷ u ∷ ts)) else None)) h

origin_read : (t : Token) (e : List Token) → t.kind ≡ kind.Star → is_expression e ≡ true → reading (t ∷ e) ≡ Some (saying [] (Origin e))
origin_read t [] is h = cc
origin_read t (u ∷ e) is h =
    ap (λ x. if x then with_tag t (reading e) else untagged (body_said (t ∷ u ∷ e))) (first_fails (is_name t.kind) (is_comma u.kind) (ap is_name is))
    ∙ ap (λ x. untagged (if x then if_said (u ∷ e) (Origin (u ∷ e)) else (if is_name t.kind && is_equals u.kind then if_said e (assigned_by t.kind t e) else if_said (t ∷ u ∷ e) (Word (t ∷ u ∷ e))))) (ap is_star is)
    ∙ ap (λ x. untagged (if x then Some (Origin (u ∷ e)) else None)) h

assign_read : (t u : Token) (e : List Token) (s : Said) → is_name t.kind ≡ true → is_star t.kind ≡ false → u.kind ≡ kind.Equals → is_expression e ≡ true → assigned_by t.kind t e ≡ s → reading (t ∷ u ∷ e) ≡ Some (saying [] s)
assign_read t u e s name no_star is h says =
    ap (λ x. if x then with_tag t (reading e) else untagged (body_said (t ∷ u ∷ e))) (second_fails (is_name t.kind) (is_comma u.kind) (ap is_comma is))
    ∙ ap (λ x. untagged (if x then if_said (u ∷ e) (Origin (u ∷ e)) else (if is_name t.kind && is_equals u.kind then if_said e (assigned_by t.kind t e) else if_said (t ∷ u ∷ e) (Word (t ∷ u ∷ e))))) no_star
    ∙ (λ i. untagged (if name i && is_equals (is i) then if_said e (assigned_by t.kind t e) else if_said (t ∷ u ∷ e) (Word (t ∷ u ∷ e))))
    ∙ ap (λ x. untagged (if x then Some (assigned_by t.kind t e) else None)) h
    ∙ ap (λ x. Some (saying [] x)) says

complete : (ts tags : List Token) (said : Said) → IsStatement ts tags said → reading ts ≡ Some (saying tags said)
complete ts tags said nothing = refl
complete ts tags said (origin t e is h) = origin_read t e is h
complete ts tags said (assign t u e is equals h) = assign_read t u e (Assign t e) (ap is_name is) (ap is_star is) equals h (ap (λ k. assigned_by k t e) is)
complete ts tags said (assign_direction t u e is equals h) = assign_read t u e (AssignDirection e) (direction_name t.kind is) (direction_no_star t.kind is) equals h (direction_assigned t.kind t e is)
complete ts tags said (decimal t is) = ap (λ k. untagged (single_by k t)) is
complete ts tags said (octal t is) = ap (λ k. untagged (single_by k t)) is
complete ts tags said (pause t is) = ap (λ k. untagged (single_by k t)) is
complete ts tags said (word e h) = word_read e h
complete ts tags said (tagged t u own more q name comma s) =
    (λ i. if name i && is_comma (comma i) then with_tag t (reading own) else untagged (body_said (t ∷ u ∷ own))) ∙ ap (with_tag t) (complete own more q s)

-- ---- the code's reading

abbrev form_in : Option Said → Option Form
form_in None = None
form_in (Some s) = Some s.form

abbrev shape_by : ℕ → Option Saying → Option Shape
shape_by n None = None
shape_by n (Some r) = Some (record { tags = n + length r.tags; form = r.said.form })

chosen : {X Y : Type 0} (f : X → Y) (b : Bool) (x y : Y) (p q : X) → x ≡ f p → y ≡ f q → (if b then x else y) ≡ f (if b then p else q)
chosen f true x y p q h k = h
chosen f false x y p q h k = k

if_form : (e : List Token) (f : Form) (s : Said) → f ≡ s.form → if_expression e f ≡ form_in (if_said e s)
if_form e f s h = chosen form_in (is_expression e) (Some f) None (Some s) None (ap Some h) refl

assigned_form : (k : TokenKind) (t : Token) (e : List Token) → form.Assign ≡ (assigned_by k t e).form
assigned_form kind.Symbol t e = refl
assigned_form _ t e = refl

single_form : (k : TokenKind) (t : Token) → single k ≡ form_in (single_by k t)
single_form kind.Symbol t = refl
single_form _ t = refl

body_form : (ts : List Token) → body ts ≡ form_in (body_said ts)
body_form [] = refl
body_form (t ∷ []) = single_form t.kind t
body_form (t ∷ u ∷ ts) =
    chosen form_in (is_star t.kind) (if_expression (u ∷ ts) form.Origin) (if is_name t.kind && is_equals u.kind then if_expression ts form.Assign else if_expression (t ∷ u ∷ ts) form.Word)
    (if_said (u ∷ ts) (Origin (u ∷ ts))) (if is_name t.kind && is_equals u.kind then if_said ts (assigned_by t.kind t ts) else if_said (t ∷ u ∷ ts) (Word (t ∷ u ∷ ts)))
    (if_form (u ∷ ts) form.Origin (Origin (u ∷ ts)) refl)
    (chosen form_in (is_name t.kind && is_equals u.kind) (if_expression ts form.Assign) (if_expression (t ∷ u ∷ ts) form.Word) (if_said ts (assigned_by t.kind t ts)) (if_said (t ∷ u ∷ ts) (Word (t ∷ u ∷ ts)))
    (if_form ts form.Assign (assigned_by t.kind t ts) (assigned_form t.kind t ts)) (if_form (t ∷ u ∷ ts) form.Word (Word (t ∷ u ∷ ts)) refl))

abbrev made : ℕ → Form → Shape
made n f = record { tags = n; form = f }

untagged_shape : (n : ℕ) (o : Option Said) → shaped n (form_in o) ≡ shape_by n (untagged o)
untagged_shape n None = refl
untagged_shape n (Some s) = let place : n ≡ n + 0 = omega arith in ap (λ k. Some (made k s.form)) place

tag_shape : (n : ℕ) (t : Token) (o : Option Saying) → shape_by (n + 1) o ≡ shape_by n (with_tag t o)
tag_shape n t None = refl
tag_shape n t (Some r) = let place : (n + 1) + length r.tags ≡ n + length (t ∷ r.tags) = omega arith in ap (λ k. Some (made k r.said.form)) place

shape_is : (ts : List Token) (n : ℕ) → shape n ts ≡ shape_by n (reading ts)
shape_is [] n = untagged_shape n (body_said [])
shape_is (t ∷ []) n = ap (shaped n) (body_form (t ∷ [])) ∙ untagged_shape n (body_said (t ∷ []))
shape_is (t ∷ u ∷ ts) n =
    chosen (shape_by n) (is_tag t.kind u.kind) (shape (n + 1) ts) (shaped n (body (t ∷ u ∷ ts))) (with_tag t (reading ts)) (untagged (body_said (t ∷ u ∷ ts)))
    (shape_is ts (n + 1) ∙ tag_shape n t (reading ts)) (ap (shaped n) (body_form (t ∷ u ∷ ts)) ∙ untagged_shape n (body_said (t ∷ u ∷ ts)))

-- what the code reads
pub record IsRead (ts : List Token) (read : Shape) : Type 0 where
  pub names : List Token
  pub said : Said
  pub reads : IsStatement ts names said
  pub tags : read.tags ≡ length names
  pub form : read.form ≡ said.form

read_by : (ts : List Token) (read : Shape) (o : Option Saying) → reading ts ≡ o → shape_by 0 o ≡ Some read → IsRead ts read
read_by ts read None e h = cc
read_by ts read (Some r) e h =
    let same : made (0 + length r.tags) r.said.form ≡ read = cc in
    let tags_in : Shape → ℕ = λ x. x.tags in
    let form_in' : Shape → Form = λ x. x.form in
    let count : 0 + length r.tags ≡ length r.tags = omega arith in
    record { names = r.tags; said = r.said; reads = sound ts r e; tags = sym (ap tags_in same) ∙ count; form = sym (ap form_in' same) }

-- what is read is a statement
pub shape_sound : (ts : List Token) (read : Shape) → shape 0 ts ≡ Some read → IsRead ts read
shape_sound ts read h = read_by ts read (reading ts) refl (sym (shape_is ts 0) ∙ h)

-- what nothing reads is none
pub shape_none : (ts : List Token) → shape 0 ts ≡ None → (names : List Token) (said : Said) → IsStatement ts names said → ⊥
shape_none ts h names said s =
    let read : Some (made (0 + length names) said.form) ≡ None = sym (ap (shape_by 0) (complete ts names said s)) ∙ sym (shape_is ts 0) ∙ h in
    absurd (cc)

some_same : {X : Type 0} (x y : X) → Some x ≡ Some y → x ≡ y
some_same x y e = cc

-- tokens are one statement
pub one_said : (ts names others : List Token) (said other : Said) → IsStatement ts names said → IsStatement ts others other → (names ≡ others) × (said ≡ other)
one_said ts names others said other s t =
    let e : saying names said ≡ saying others other = some_same {X = Saying} (saying names said) (saying others other) (sym (complete ts names said s) ∙ complete ts others other t) in
    let tags_in : Saying → List Token = λ x. x.tags in
    let said_in : Saying → Said = λ x. x.said in
    (ap tags_in e, ap said_in e)
