-- How a statement is read from its tokens, for private contracts. That this is the grammar is proved of it.
use Rattle.std.specs.Prelude.{ℕ, ◌+◌, Bool, true, false, ◌&&◌, if◌then◌else◌, List, [], ◌∷◌, Option, Some, None}
use Rattle.pal_text.specs.declared.tokens.TokenKind.{TokenKind}
use Rattle.pal_text.specs.declared.tokens.TokenKind.TheVariants.{Decimal, Octal, Pause, Comma, Equals, Star}
use Rattle.pal_text.specs.declared.tokens.Token.{Token}
use Rattle.pal_text.specs.declared.grammar.Form.{Form}
use Rattle.pal_text.specs.declared.grammar.Form.TheVariants as form
use Rattle.pal_text.specs.declared.grammar.Shape.{Shape}
use Rattle.pal_text.specs.Grammar.{is_term, is_name, is_expression}

abbrev pub is_star : TokenKind → Bool
is_star Star = true
is_star _ = false

abbrev pub is_equals : TokenKind → Bool
is_equals Equals = true
is_equals _ = false

abbrev pub is_comma : TokenKind → Bool
is_comma Comma = true
is_comma _ = false

abbrev pub is_tag : TokenKind → TokenKind → Bool
is_tag n k = is_name n && is_comma k

abbrev pub if_expression : List Token → Form → Option Form
if_expression e f = if is_expression e then Some f else None

abbrev pub direction : TokenKind → Option Form
direction Decimal = Some form.Decimal
direction Octal = Some form.Octal
direction Pause = Some form.Pause
direction _ = None

abbrev pub single : TokenKind → Option Form
single k = if is_term k then Some form.Word else direction k

abbrev pub body : List Token → Option Form
body [] = Some form.Empty
body (t ∷ []) = single t.kind
body (t ∷ u ∷ ts) =
    if is_star t.kind then if_expression (u ∷ ts) form.Origin else
    if is_name t.kind && is_equals u.kind then if_expression ts form.Assign else if_expression (t ∷ u ∷ ts) form.Word

abbrev pub shaped : ℕ → Option Form → Option Shape
shaped n None = None
shaped n (Some f) = Some (record { tags = n; form = f })

abbrev pub shape : ℕ → List Token → Option Shape
shape n [] = shaped n (body [])
shape n (t ∷ []) = shaped n (body (t ∷ []))
shape n (t ∷ u ∷ ts) = if is_tag t.kind u.kind then shape (n + 1) ts else shaped n (body (t ∷ u ∷ ts))
