-- The values of names and of expressions. A word is a number below 4096.
use Rattle.std.specs.Prelude.{ℕ, ◌+◌, ◌-◌, ◌%◌, Bool, List, [], ◌∷◌, ◌++◌, Option, Some, None, Result, Err, bit_or, nat_eq}
use Rattle.std.specs.Cmp.Lexicographic.{pointwise}
use Rattle.std.specs.List.{list_any}
use Rattle.std.specs.Option.{option_and_then}
use Rattle.std.specs.Map.{lookup}
use Rattle.pal_text.specs.declared.names.Name.{Name}
use Rattle.pal_acts.specs.declared.act.Sign.{Sign}
use Rattle.pal_acts.specs.declared.act.Sign.TheVariants.{Plus, Minus, Or}
use Rattle.pal_acts.specs.declared.act.ExpressionTerm.{ExpressionTerm}
use Rattle.pal_acts.specs.declared.act.ExpressionTerm.TheVariants.{Number, Symbol, Here}
use Rattle.pal_acts.specs.declared.act.SignedTerm.{SignedTerm}
use Rattle.pal_acts.specs.declared.fault_code.FaultCode.{FaultCode}
use Rattle.pal_acts.specs.declared.fault_code.FaultCode.TheVariants.{Undefined}

-- Two names are the same where all their characters are.
abbrev pub same : Name → Name → Bool
same a b = pointwise nat_eq a.letters b.letters

-- A name is among these.
abbrev pub has : List Name → Name → Bool
has ns n = list_any (same n) ns

-- The value of each name that has one.
abbrev pub Values : Type 0
Values = Name → Option ℕ

-- The values by the permanent symbols, and then by the source's own: that of a name's first entry.
abbrev pub known : List (Name × ℕ) → List (Name × ℕ) → Values
known permanent own n = lookup (same n) (permanent ++ own)

-- The value of a term at a location.
abbrev pub term_value : Values → ℕ → ExpressionTerm → Option ℕ
term_value σ here (Number w) = Some w
term_value σ here (Symbol n) = σ n
term_value σ here Here = Some here

-- Two values joined: their sum or their difference modulo 4096, or their bitwise or.
abbrev pub joined : Sign → ℕ → ℕ → ℕ
joined Plus a b = (a + b) % 4096
joined Minus a b = (a + (4096 - b)) % 4096
joined Or a b = bit_or a b

-- The terms joined to a value, from left to right; no value where a name has none.
abbrev pub value_after : Values → ℕ → ℕ → List SignedTerm → Option ℕ
value_after σ here a [] = Some a
value_after σ here a (j ∷ js) = option_and_then (λ v. value_after σ here (joined j.sign a v) js) (term_value σ here j.term)

-- The value of an expression at a location: its terms joined to 0.
abbrev pub value : Values → ℕ → List SignedTerm → Option ℕ
value σ here js = value_after σ here 0 js

-- What a value gives; without one a symbol is undefined.
abbrev pub needed : {X : Type 0} → Option ℕ → (ℕ → Result X FaultCode) → Result X FaultCode
needed None f = Err Undefined
needed (Some v) f = f v
