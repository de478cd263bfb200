-- The word that an expression is.
use Rattle.std.specs.Prelude.{ℕ, ◌/◌, ◌%◌, Bool, true, false, ◌&&◌, not, if◌then◌else◌, List, [], ◌∷◌, Option, Some, None, Result, Ok, Err, ok_or, nat_eq, nat_lt, bit_or, codes}
use Rattle.pal_text.specs.declared.names.Name.{Name}
use Rattle.pal_acts.specs.declared.act.Sign.{Sign}
use Rattle.pal_acts.specs.declared.act.Sign.TheVariants.{Or}
use Rattle.pal_acts.specs.declared.act.ExpressionTerm.{ExpressionTerm}
use Rattle.pal_acts.specs.declared.act.ExpressionTerm.TheVariants.{Symbol}
use Rattle.pal_acts.specs.declared.act.SignedTerm.{SignedTerm}
use Rattle.pal_acts.specs.declared.act.Act.{Act}
use Rattle.pal_acts.specs.declared.act.Act.TheVariants as act
use Rattle.pal_acts.specs.declared.fault_code.FaultCode.{FaultCode}
use Rattle.pal_acts.specs.declared.fault_code.FaultCode.TheVariants.{Undefined, IllegalReference}
use Rattle.pal_acts.specs.Values.{Values, has, term_value, value, needed}

-- The name with these six characters.
abbrev pub named : List ℕ → Name
named letters = record { letters = letters }

-- The operations that take an address.
abbrev pub references : List Name
references =
    named (codes "AND   ") ∷ named (codes "TAD   ") ∷ named (codes "ISZ   ")
    ∷ named (codes "DCA   ") ∷ named (codes "JMS   ") ∷ named (codes "JMP   ") ∷ []

-- What joins by this sign is one of these symbols, and begins an expression or follows a space.
abbrev pub is_one_of : List Name → Sign → ExpressionTerm → Bool
is_one_of ns Or (Symbol n) = has ns n
is_one_of ns _ _ = false

-- What joins is this symbol, a mark as I or Z, and it begins an expression or follows a space.
abbrev pub is_mark : Name → SignedTerm → Bool
is_mark n j = is_one_of (n ∷ []) j.sign j.term

-- What follows an operation that takes an address: whether I stands there, whether Z does, and the address after them.
pub record Marked : Type 0 where
  pub indirect : Bool
  pub zero : Bool
  pub address : List SignedTerm

-- What follows an operation, made of whether I stands there, whether Z does, and the terms of the address.
abbrev pub marked : Bool → Bool → List SignedTerm → Marked
marked i z js = record { indirect = i; zero = z; address = js }

-- I, which is the mark of an indirect reference, and Z, that of page zero, in either order, each at most once; the rest
-- is the address. Whether each of them stood before is given.
abbrev pub marks_after : Bool → Bool → List SignedTerm → Marked
marks_after indirect zero [] = marked indirect zero []
marks_after indirect zero (j ∷ js) =
    if not indirect && is_mark (named (codes "I     ")) j then marks_after true zero js else
    if not zero && is_mark (named (codes "Z     ")) j then marks_after indirect true js else marked indirect zero (j ∷ js)

-- The marks and the address in all that follows an operation, where neither I nor Z stood before.
abbrev pub marks : List SignedTerm → Marked
marks js = marks_after false false js

-- A reference to an address: below 0200 it is coded on page zero; in the page of the location with 0200, unless Z stands
-- there; no other address can be referred to.
abbrev pub addressed : ℕ → Bool → ℕ → ℕ → Result ℕ FaultCode
addressed base zero here a =
    if nat_lt a 0o200 then Ok (bit_or base a)
    else if zero then Err IllegalReference
    else if nat_eq (a / 0o200) (here / 0o200) then Ok (bit_or (bit_or base 0o200) (a % 0o200))
    else Err IllegalReference

-- An operation with the address that follows it, and with 0400 where the reference is indirect.
abbrev pub reference : Values → ℕ → Option ℕ → Marked → Result ℕ FaultCode
reference σ here operation m = needed operation (λ o. needed (value σ here m.address) (addressed (if m.indirect then bit_or o 0o400 else o) m.zero here))

-- The word that an expression is at a location, or why it is none: a reference where it begins with an operation that
-- takes an address, and its value otherwise. With a symbol that has no value it is none.
abbrev pub word_value : Values → ℕ → List SignedTerm → Result ℕ FaultCode
word_value σ here [] = ok_or (value σ here []) Undefined
word_value σ here (j ∷ js) = if is_one_of references j.sign j.term then reference σ here (term_value σ here j.term) (marks js) else ok_or (value σ here (j ∷ js)) Undefined

-- The word of an act at this location, or why it is none; an act that is not to be a word has neither.
abbrev pub word_of : Values → ℕ → List SignedTerm → Act → Option (Result ℕ FaultCode)
word_of σ here e act.Word = Some (word_value σ here e)
word_of σ here e _ = None
