-- What a source means, and what its fault is.
use Rattle.std.specs.Prelude.{◌≡◌, ◌≢◌, ℕ, ◌+◌, Bool, ◌||◌, nat_eq, nat_lt, if◌then◌else◌, List, [], ◌∷◌, ◌++◌, length, map, take, slice_range, Option, Some, None, ◌⊎◌}
use Rattle.std.specs.Borrow.{Bor}
use Rattle.pal_text.specs.declared.statement.PartEnd.{PartEnd}
use Rattle.pal_text.specs.declared.statement.Ending.TheVariants.{Dollar}
use Rattle.pal_text.specs.declared.lines.Line.{Line}
use Rattle.pal_text.specs.declared.names.Name.{Name}
use Rattle.pal_text.specs.Lines.{all_lines}
use Rattle.pal_text.specs.Names.{part_tokens}
use Rattle.pal_text.specs.Statements.{pieces}
use Rattle.pal_text.specs.Parts.{IsIllegal}
use Rattle.pal_acts.specs.declared.act.Act.TheVariants as act
use Rattle.pal_acts.specs.declared.act.SourcePlace.{SourcePlace}
use Rattle.pal_acts.specs.declared.act.PlacedWord.{PlacedWord}
use Rattle.pal_acts.specs.declared.fault_code.FaultCode.{FaultCode}
use Rattle.pal_acts.specs.declared.fault_code.FaultCode.TheVariants.{IllegalCharacter, TooLong}
use Rattle.pal_acts.specs.Acts.{PlacedAct, placed, place}
use Rattle.pal_acts.specs.Sources.{IsSource, all_words}
use Rattle.pal_acts.specs.Values.{known}
use Rattle.pal_acts.specs.Faults.{IsRefused}
use Rattle.pal_asm.specs.declared.number.Radix.{Radix}
use Rattle.pal_asm.specs.declared.number.Radix.TheVariants.{Octal}
use Rattle.pal_asm.specs.declared.fault.PalFault.{PalFault}
use Rattle.pal_asm.specs.declared.fault.AssembleFault.{AssembleFault}
use Rattle.pal_asm.specs.declared.fault.AssembleFault.TheVariants.{Source, NoMemory}
use Rattle.pal_asm.specs.Acts.{Does}

-- The fault with this code at this part and line.
abbrev pub fault_at : FaultCode → ℕ → ℕ → PalFault
fault_at code part line = record { code = code; part = part; line = line }

-- The fault of the first part that is too long, at its line 0, where the first of these has this number.
abbrev pub first_long : ℕ → List (List ℕ) → Option PalFault
first_long n [] = None
first_long n (p ∷ ps) = if nat_lt 65536 (length p) then Some (fault_at TooLong n 0) else first_long (n + 1) ps

-- The fault that is told before all others: too few or too many parts, and then a part that is too long.
abbrev pub size_fault : List (List ℕ) → Option PalFault
size_fault parts = if nat_lt (length parts) 1 || nat_lt 16 (length parts) then Some (fault_at TooLong 0 0) else first_long 1 parts

-- A line of a source: where it stands, and its bytes without those that end it.
pub record TextLine : Type 0 where
  pub place : SourcePlace
  pub bytes : List ℕ

-- The lines of a part, the first of which has this number.
abbrev pub text_lines : ℕ → ℕ → List ℕ → List Line → List TextLine
text_lines part n source [] = []
text_lines part n source (l ∷ ls) = record { place = place part n; bytes = slice_range source l.start l.end } ∷ text_lines part (n + 1) source ls

-- The lines of a part up to where it ends.
abbrev pub part_lines : ℕ → List ℕ → PartEnd → List TextLine
part_lines n source c = text_lines n 1 source (all_lines (take c.stop source))

-- The acts of a part with this number, where numbers are written so before it. Then they are written so, and the part ends so.
abbrev pub PartDoes : ℕ → Bool → Radix → List ℕ → List PlacedAct → Radix → PartEnd → Type 0
PartDoes n last r source acts r' c = Does n last source r (pieces 0 0 (part_tokens source)) acts r' c

-- These parts, the first of which has this number, have these acts and these lines.
pub data Reads : ℕ → Radix → List (List ℕ) → List PlacedAct → List TextLine → Type 0 where
  no_part : (n : ℕ) (r : Radix) → Reads n r [] [] []
  -- a statement without a form is that one fault in the place of its part, and nothing after it is looked at
  broken : (n : ℕ) (r : Radix) (p : List ℕ) (ps : List (List ℕ)) (line : ℕ) → IsIllegal p line → Reads n r (p ∷ ps) (placed (place n line) [] (act.Wrong IllegalCharacter) ∷ []) []
  -- nor is anything after a dollar sign
  last_part : (n : ℕ) (r r' : Radix) (p : List ℕ) (ps : List (List ℕ)) (acts : List PlacedAct) (c : PartEnd) → PartDoes n (nat_eq (length ps) 0) r p acts r' c → c.ending ≡ Dollar
      → Reads n r (p ∷ ps) acts (part_lines n p c)
  next_part : (n : ℕ) (r r' : Radix) (p : List ℕ) (ps : List (List ℕ)) (acts more : List PlacedAct) (lines : List TextLine) (c : PartEnd) → PartDoes n (nat_eq (length ps) 0) r p acts r' c → c.ending ≢ Dollar
      → Reads (n + 1) r' ps more lines → Reads n r (p ∷ ps) (acts ++ more) (part_lines n p c ++ lines)

-- Parts whose sizes are good have acts and lines of which this holds.
pub record IsReadSo (parts : List (List ℕ)) (So : List PlacedAct → List TextLine → Type 0) : Type 0 where
  pub acts : List PlacedAct
  pub lines : List TextLine
  pub sizes : size_fault parts ≡ None
  pub reads : Reads 1 Octal parts acts lines
  pub so : So acts lines

-- The meaning of a source of parts, over these permanent symbols: the symbols and the image of their acts.
abbrev pub Means : List (Name × ℕ) → List (List ℕ) → List (Name × ℕ) → List (Option ℕ) → Type 0
Means permanent parts symbols image = IsReadSo parts (λ acts lines. IsSource permanent 1024 acts symbols image)

-- The words of a source of parts, whose own symbols these are, each with its place in the source and its address, in the order of the
-- source.
abbrev pub HasWords : List (Name × ℕ) → List (List ℕ) → List (Name × ℕ) → List PlacedWord → Type 0
HasWords permanent parts own words = IsReadSo parts (λ acts lines. words ≡ all_words (known permanent own) acts)

-- The fault of a source: that of its sizes, or else the first one of the acts of its parts, told at the part and the line of its act.
abbrev pub IsFault : List (Name × ℕ) → List (List ℕ) → PalFault → Type 0
IsFault permanent parts fault = (size_fault parts ≡ Some fault) ⊎ IsReadSo parts (λ acts lines. IsRefused permanent 1024 acts (place fault.part fault.line) fault.code)

-- A source is refused so: by its fault, or memory was refused.
abbrev pub Refuses : List (Name × ℕ) → List (List ℕ) → AssembleFault → Type 0
Refuses permanent parts (Source fault) = IsFault permanent parts fault
Refuses permanent parts NoMemory = Unit {0}

-- The bytes of parts that were lent.
abbrev pub texts : List (Bor (List ℕ)) → List (List ℕ)
texts parts = map (λ p. p.now) parts
