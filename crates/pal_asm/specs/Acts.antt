-- What statements do, in the order in which faults are looked for.
use Rattle.std.specs.Prelude.{◌≡◌, ℕ, Bool, if◌then◌else◌, List, [], ◌∷◌, ◌++◌, length, map, Option, Some, None, Result, Ok, Err}
use Rattle.pal_text.specs.declared.tokens.TokenKind.{TokenKind}
use Rattle.pal_text.specs.declared.tokens.TokenKind.TheVariants as kind
use Rattle.pal_text.specs.declared.tokens.Token.{Token}
use Rattle.pal_text.specs.declared.grammar.Form.{Form}
use Rattle.pal_text.specs.declared.grammar.Form.TheVariants as form
use Rattle.pal_text.specs.declared.statement.PartEnd.{PartEnd}
use Rattle.pal_text.specs.Grammar.{Said, IsStatement}
use Rattle.pal_text.specs.Names.{part_tokens}
use Rattle.pal_text.specs.Statements.{Piece, own, closing}
use Rattle.pal_acts.specs.declared.act.SignedTerm.{SignedTerm}
use Rattle.pal_acts.specs.declared.act.Act.{Act}
use Rattle.pal_acts.specs.declared.act.Act.TheVariants as act
use Rattle.pal_acts.specs.declared.act.SourcePlace.{SourcePlace}
use Rattle.pal_acts.specs.declared.fault_code.FaultCode.{FaultCode}
use Rattle.pal_acts.specs.declared.fault_code.FaultCode.TheVariants.{DuplicateTag}
use Rattle.pal_acts.specs.Acts.{PlacedAct, placed, place}
use Rattle.pal_asm.specs.declared.number.Radix.{Radix}
use Rattle.pal_asm.specs.Numbers.{base, radix_after}
use Rattle.pal_asm.specs.Expressions.{name_of, expression}

-- What a tag does, by what its token is.
abbrev pub tag_by : List ℕ → Token → TokenKind → Act
tag_by source t kind.Symbol = act.Tag (name_of source t)
tag_by source t _ = act.Wrong DuplicateTag

-- A tag gives its symbol the current location; DECIMAL, OCTAL and PAUSE cannot be given one.
abbrev pub tag_act : SourcePlace → List ℕ → Token → PlacedAct
tag_act p source t = placed p [] (tag_by source t t.kind)

-- What is assigned a value: a symbol, or a direction, which cannot be given one.
abbrev pub assigned : List ℕ → Option Token → Act
assigned source (Some name) = act.Assign (name_of source name)
assigned source None = act.AssignDirection

-- What is said after the tags in this form does this, where its expression has these terms. PAUSE is a fault in the last part.
abbrev pub said_acts : SourcePlace → Bool → List ℕ → Option Token → List SignedTerm → Form → List PlacedAct
said_acts p last source name js form.Origin = placed p js act.Origin ∷ []
said_acts p last source name js form.Assign = placed p js (assigned source name) ∷ []
said_acts p last source name js form.Word = placed p js act.Word ∷ []
said_acts p last source name js form.Pause = if last then placed p [] act.LastPause ∷ [] else []
said_acts p last source name js _ = []

-- What a statement at this place with these tags does, which says this, where its expression has these terms: what its tags do,
-- and then the rest. With a bad number it is that fault and nothing else.
abbrev pub acts_with : SourcePlace → Bool → List ℕ → List Token → Said → Result (List SignedTerm) FaultCode → List PlacedAct
acts_with p last source tags said (Err c) = placed p [] (act.Wrong c) ∷ []
acts_with p last source tags said (Ok js) = map (tag_act p source) tags ++ said_acts p last source said.name js said.form

-- A statement at this place with these tags, which says this.
abbrev pub statement_acts : SourcePlace → ℕ → Bool → List ℕ → List Token → Said → List PlacedAct
statement_acts p b last source tags said = acts_with p last source tags said (expression b source said.operand)

-- These pieces of a part with this number and these bytes have these acts, where numbers are written so before them. Then they
-- are written so, and the part ends so.
pub data Does (n : ℕ) (last : Bool) (source : List ℕ) : Radix → List Piece → List PlacedAct → Radix → PartEnd → Type 0 where
  ends : (r : Radix) (p : Piece) (ps : List Piece) (tags : List Token) (said : Said) (c : PartEnd) → IsStatement (own (part_tokens source) p) tags said
      → closing (length source) (own (part_tokens source) p) p.mark said.form ≡ Some c
      → Does n last source r (p ∷ ps) (statement_acts (place n p.mark.line) (base r) last source tags said) (radix_after r said.form) c
  goes_on : (r r' : Radix) (p : Piece) (ps : List Piece) (tags : List Token) (said : Said) (later : List PlacedAct) (c : PartEnd) → IsStatement (own (part_tokens source) p) tags said
      → closing (length source) (own (part_tokens source) p) p.mark said.form ≡ None
      → Does n last source (radix_after r said.form) ps later r' c
      → Does n last source r (p ∷ ps) (statement_acts (place n p.mark.line) (base r) last source tags said ++ later) r' c
