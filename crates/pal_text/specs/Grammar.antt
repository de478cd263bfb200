-- The grammar of a statement, on the whole list of its tokens.
use Rattle.std.specs.Prelude.{◌≡◌, Bool, true, false, ◌&&◌, if◌then◌else◌, List, [], ◌∷◌, Option, Some, None}
use Rattle.pal_text.specs.declared.tokens.TokenKind.{TokenKind}
use Rattle.pal_text.specs.declared.tokens.TokenKind.TheVariants as kind
use Rattle.pal_text.specs.declared.tokens.Token.{Token}
use Rattle.pal_text.specs.declared.grammar.Form.{Form}
use Rattle.pal_text.specs.declared.grammar.Form.TheVariants as form
use Rattle.pal_text.specs.Tokens.{is_sign}

-- A number, a symbol or the current location. DECIMAL, OCTAL and PAUSE are no terms.
abbrev pub is_term : TokenKind → Bool
is_term kind.Symbol = true
is_term kind.Number = true
is_term kind.Here = true
is_term _ = false

-- What stands between two terms.
abbrev pub is_joiner : TokenKind → Bool
is_joiner kind.Space = true
is_joiner k = is_sign k

-- A token of this kind is one of the words DECIMAL, OCTAL and PAUSE, which direct the assembler.
abbrev pub is_direction : TokenKind → Bool
is_direction kind.Decimal = true
is_direction kind.Octal = true
is_direction kind.Pause = true
is_direction _ = false

-- What may be a tag or be assigned by its form, though DECIMAL, OCTAL and PAUSE cannot be given a value.
abbrev pub is_name : TokenKind → Bool
is_name kind.Symbol = true
is_name k = is_direction k

-- Terms with a joiner between each two.
abbrev pub is_terms : List Token → Bool
is_terms [] = false
is_terms (t ∷ []) = is_term t.kind
is_terms (t ∷ j ∷ ts) = is_term t.kind && is_joiner j.kind && is_terms ts

-- Terms, after a sign or without one.
abbrev pub is_expression : List Token → Bool
is_expression [] = false
is_expression (t ∷ ts) = if is_sign t.kind then is_terms ts else is_terms (t ∷ ts)

-- What a statement says after its tags: its form, the symbol that it assigns a value, if it does, and its expression, of no
-- tokens where it has none.
pub record Said : Type 0 where
  pub form : Form
  pub name : Option Token
  pub operand : List Token

-- What a statement says, made of its form, the symbol that it assigns a value, if it does, and the tokens of its
-- expression.
abbrev pub says : Form → Option Token → List Token → Said
says f name e = record { form = f; name = name; operand = e }

-- These tokens are a statement with these tags, which says this.
pub data IsStatement : List Token → List Token → Said → Type 0 where
  nothing : IsStatement [] [] (says form.Empty None [])
  origin : (star : Token) (e : List Token) → star.kind ≡ kind.Star → is_expression e ≡ true → IsStatement (star ∷ e) [] (says form.Origin None e)
  assign : (name equals : Token) (e : List Token) → name.kind ≡ kind.Symbol → equals.kind ≡ kind.Equals → is_expression e ≡ true → IsStatement (name ∷ equals ∷ e) [] (says form.Assign (Some name) e)
  assign_direction : (name equals : Token) (e : List Token) → is_direction name.kind ≡ true → equals.kind ≡ kind.Equals → is_expression e ≡ true → IsStatement (name ∷ equals ∷ e) [] (says form.Assign None e)
  decimal : (t : Token) → t.kind ≡ kind.Decimal → IsStatement (t ∷ []) [] (says form.Decimal None [])
  octal : (t : Token) → t.kind ≡ kind.Octal → IsStatement (t ∷ []) [] (says form.Octal None [])
  pause : (t : Token) → t.kind ≡ kind.Pause → IsStatement (t ∷ []) [] (says form.Pause None [])
  word : (e : List Token) → is_expression e ≡ true → IsStatement e [] (says form.Word None e)
  -- a tag, and a statement after it
  tagged : (name comma : Token) (own tags : List Token) (said : Said) → is_name name.kind ≡ true → comma.kind ≡ kind.Comma → IsStatement own tags said → IsStatement (name ∷ comma ∷ own) (name ∷ tags) said
