-- Expressions, by their tokens in order.
use Rattle.std.specs.Prelude.{ℕ, if◌then◌else◌, List, [], ◌∷◌, Result, Ok, Err}
use Rattle.std.specs.Result.{result_map_both}
use Rattle.pal_text.specs.declared.names.Name.{Name}
use Rattle.pal_text.specs.declared.tokens.TokenKind.{TokenKind}
use Rattle.pal_text.specs.declared.tokens.TokenKind.TheVariants as kind
use Rattle.pal_text.specs.declared.tokens.Token.{Token}
use Rattle.pal_text.specs.Characters.{characters}
use Rattle.pal_text.specs.Names.{name, bytes_of}
use Rattle.pal_text.specs.Grammar.{is_joiner}
use Rattle.pal_acts.specs.declared.act.Sign.{Sign}
use Rattle.pal_acts.specs.declared.act.Sign.TheVariants.{Plus, Minus, Or}
use Rattle.pal_acts.specs.declared.act.ExpressionTerm.{ExpressionTerm}
use Rattle.pal_acts.specs.declared.act.ExpressionTerm.TheVariants.{Number, Symbol, Here}
use Rattle.pal_acts.specs.declared.act.SignedTerm.{SignedTerm}
use Rattle.pal_acts.specs.declared.fault_code.FaultCode.{FaultCode}
use Rattle.pal_asm.specs.Numbers.{number}

-- How what follows joins what comes before it: a plus and a minus say it, and a space is an or.
abbrev pub sign_of : TokenKind → Sign
sign_of kind.Plus = Plus
sign_of kind.Minus = Minus
sign_of _ = Or

-- The name of a symbol's token.
abbrev pub name_of : List ℕ → Token → Name
name_of source t = record { letters = name (bytes_of source t) }

-- A term by what its token is.
abbrev pub term_by : ℕ → List ℕ → Token → TokenKind → Result ExpressionTerm FaultCode
term_by b source t kind.Number = result_map_both Number (λ c. c) (number b (characters (bytes_of source t)))
term_by b source t kind.Here = Ok Here
term_by b source t _ = Ok (Symbol (name_of source t))

-- A term of a part in a base: a number, the current location or a symbol; or what is wrong with its digits.
abbrev pub term : ℕ → List ℕ → Token → Result ExpressionTerm FaultCode
term b source t = term_by b source t t.kind

-- A term, which joins what comes before it by this sign, before others. Of what is wrong, the leftmost is told.
abbrev pub in_front : Sign → Result ExpressionTerm FaultCode → Result (List SignedTerm) FaultCode → Result (List SignedTerm) FaultCode
in_front s (Err c) others = Err c
in_front s (Ok t) others = result_map_both (λ js. record { sign = s; term = t } ∷ js) (λ c. c) others

-- The terms of an expression, the first of which joins what comes before it by this sign.
abbrev pub joins : ℕ → List ℕ → Sign → List Token → Result (List SignedTerm) FaultCode
joins b source s [] = Ok []
joins b source s (t ∷ ts) = if is_joiner t.kind then joins b source (sign_of t.kind) ts else in_front s (term b source t) (joins b source Or ts)

-- An expression of a part: a first term without a sign joins 0 by or.
abbrev pub expression : ℕ → List ℕ → List Token → Result (List SignedTerm) FaultCode
expression b source ts = joins b source Or ts
