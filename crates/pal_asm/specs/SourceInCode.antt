-- What a source does as it is kept in memory, for the private contracts below `assemble`.
use Rattle.std.specs.Prelude.{◌≡◌, ℕ, ◌+◌, ◌-◌, Bool, ◌||◌, ◌&&◌, nat_eq, nat_lt, if◌then◌else◌, List, [], ◌∷◌, ◌++◌, length, map, drop, Result, Ok, Err}
use Rattle.pal_text.specs.declared.tokens.TokenKind.{TokenKind}
use Rattle.pal_text.specs.declared.tokens.TokenKind.TheVariants as kind
use Rattle.pal_text.specs.declared.tokens.Token.{Token}
use Rattle.pal_text.specs.declared.grammar.Form.{Form}
use Rattle.pal_text.specs.declared.grammar.Form.TheVariants as form
use Rattle.pal_text.specs.declared.statement.Statement.{Statement}
use Rattle.pal_text.specs.declared.fault.StatementFault.{StatementFault}
use Rattle.pal_text.specs.declared.fault.StatementFault.TheVariants as text
use Rattle.pal_text.specs.declared.names.Name.{Name}
use Rattle.pal_text.specs.Characters.{characters}
use Rattle.pal_text.specs.Grammar.{Said, IsStatement}
use Rattle.pal_text.specs.Lines.{all_lines}
use Rattle.pal_text.specs.Parts.{IsIllegal}
use Rattle.pal_acts.specs.declared.act.SignedTerm.{SignedTerm}
use Rattle.pal_acts.specs.declared.act.Act.TheVariants as act
use Rattle.pal_acts.specs.declared.act.SourcePlace.{SourcePlace}
use Rattle.pal_acts.specs.declared.act.PlacedWord.{PlacedWord}
use Rattle.pal_acts.specs.declared.fault_code.FaultCode.{FaultCode}
use Rattle.pal_acts.specs.declared.assembly.ActsFault.{ActsFault}
use Rattle.pal_acts.specs.declared.assembly.ActsFault.TheVariants as refused
use Rattle.pal_acts.specs.Acts.{PlacedAct, placed, place}
use Rattle.pal_acts.specs.Faults.{IsRefused}
use Rattle.pal_asm.specs.declared.number.Radix.{Radix}
use Rattle.pal_asm.specs.declared.reading.Continuation.{Continuation}
use Rattle.pal_asm.specs.declared.reading.Continuation.TheVariants.{NextPart, NoPart}
use Rattle.pal_asm.specs.declared.reading.ReadingState.{ReadingState}
use Rattle.pal_asm.specs.declared.statement.NumberedPart.{NumberedPart}
use Rattle.pal_asm.specs.declared.part_text.PartText.{PartText}
use Rattle.pal_asm.specs.declared.listing.ListedLine.{ListedLine}
use Rattle.pal_asm.specs.declared.fault.PalFault.{PalFault}
use Rattle.pal_asm.specs.declared.fault.AssembleFault.{AssembleFault}
use Rattle.pal_asm.specs.declared.fault.AssembleFault.TheVariants.{Source, NoMemory}
use Rattle.pal_asm.specs.Expressions.{name_of}
use Rattle.pal_asm.specs.Sources.{fault_at, TextLine, text_lines, PartDoes, Reads}
use Rattle.pal_asm.specs.Listings.{is_at, line_text, without_front}

-- An expression that was read into these terms, or what is wrong with it.
abbrev pub read_of : List SignedTerm → Result (Unit {0}) FaultCode → Result (List SignedTerm) FaultCode
read_of js (Ok _) = Ok js
read_of js (Err c) = Err c

-- A statement with these tokens has this form, and so many tags.
pub record Says (tokens : List Token) (s : Statement) : Type 0 where
  pub names : List Token
  pub said : Said
  pub reads : IsStatement tokens names said
  pub tags : s.tags ≡ length names
  pub form : s.form ≡ said.form

-- The names of so many tags, each of which has a comma after it.
abbrev pub names_in : ℕ → List Token → List Token
names_in n [] = []
names_in n (t ∷ []) = []
names_in n (t ∷ c ∷ ts) = if nat_eq n 0 then [] else t ∷ names_in (n - 1) ts

-- What comes after them.
abbrev pub after_tags : ℕ → List Token → List Token
after_tags n [] = []
after_tags n (t ∷ []) = t ∷ []
after_tags n (t ∷ c ∷ ts) = if nat_eq n 0 then t ∷ c ∷ ts else after_tags (n - 1) ts

-- The expression of a statement of this form, by its tokens after the tags.
abbrev pub operand_by : Form → List Token → List Token
operand_by form.Origin ts = drop 1 ts
operand_by form.Assign ts = drop 2 ts
operand_by form.Word ts = ts
operand_by _ ts = []

-- What an assignment does, by what its first token is.
abbrev pub assign_by : SourcePlace → List ℕ → Token → List SignedTerm → TokenKind → List PlacedAct
assign_by p source t js kind.Symbol = placed p js (act.Assign (name_of source t)) ∷ []
assign_by p source t js _ = placed p js act.AssignDirection ∷ []

abbrev pub assign_acts : SourcePlace → List ℕ → List Token → List SignedTerm → List PlacedAct
assign_acts p source [] js = []
assign_acts p source (t ∷ ts) js = assign_by p source t js t.kind

-- What the tokens after the tags do in a statement of this form.
abbrev pub body_by : SourcePlace → Bool → List ℕ → List Token → Form → List SignedTerm → List PlacedAct
body_by p last source ts form.Origin js = placed p js act.Origin ∷ []
body_by p last source ts form.Assign js = assign_acts p source ts js
body_by p last source ts form.Word js = placed p js act.Word ∷ []
body_by p last source ts form.Pause js = if last then placed p [] act.LastPause ∷ [] else []
body_by p last source ts _ js = []

-- A part was read up to where it ends: its acts are kept.
pub record IsRead (part : NumberedPart) (before : Radix) (old new : List PlacedAct) (reached : ReadingState) : Type 0 where
  pub acts : List PlacedAct
  pub does : PartDoes part.number part.last before part.source.now acts reached.radix reached.close
  pub new_is : new ≡ old ++ acts

-- A part is not read to its end: a statement has no form, and what was kept so far is in front of what is kept now.
abbrev pub StopsPart : List ℕ → List PlacedAct → List PlacedAct → StatementFault → Type 0
StopsPart source old new (text.Illegal line) = IsIllegal source line × ((more : List PlacedAct) × (new ≡ old ++ more))
StopsPart source old new text.NoMemory = Unit {0}

-- What may follow a part: the acts and the lines of the next parts, or none.
abbrev pub Follows : Continuation → ℕ → List (List ℕ) → List PlacedAct → List TextLine → Type 0
Follows (NextPart r) n rest acts lines = Reads n r rest acts lines
Follows NoPart n rest acts lines = (acts ≡ []) × (lines ≡ [])

-- A part was read: it has more acts and more lines, whatever parts follow.
pub record Turns (n : ℕ) (r : Radix) (last : Bool) (part : List ℕ) (old new : List PlacedAct) (old_lines new_lines : List TextLine) (turn : Continuation) : Type 0 where
  pub more : List PlacedAct
  pub new_is : new ≡ old ++ more
  pub more_lines : List TextLine
  pub lines_are : new_lines ≡ old_lines ++ more_lines
  pub reads : (rest : List (List ℕ)) (acts : List PlacedAct) (lines : List TextLine) → last ≡ nat_eq (length rest) 0 → Follows turn (n + 1) rest acts lines → Reads n r (part ∷ rest) (more ++ acts) (more_lines ++ lines)

-- The line that stands there with these bytes.
abbrev pub text_line : SourcePlace → List ℕ → TextLine
text_line p bytes = record { place = p; bytes = bytes }

-- The line that is kept so.
abbrev pub shown_line : ListedLine → TextLine
shown_line l = text_line l.place l.bytes.now

-- The lines that are kept.
abbrev pub lines_in : List ListedLine → List TextLine
lines_in ls = map shown_line ls

-- The lines of parts by their bytes.
abbrev pub lines_of_fronts : List PartText → List TextLine
lines_of_fronts [] = []
lines_of_fronts (f ∷ fs) = text_lines f.number 1 f.bytes.now (all_lines f.bytes.now) ++ lines_of_fronts fs

-- A refusal of acts as that of their source.
abbrev pub fault_of : ActsFault → AssembleFault
fault_of (refused.Fault place code) = Source (fault_at code place.part place.line)
fault_of refused.NoMemory = NoMemory

-- The first fault of acts, told at the part and the line of its act.
abbrev pub IsFaultOf : List (Name × ℕ) → List PlacedAct → PalFault → Type 0
IsFaultOf permanent acts fault = IsRefused permanent 1024 acts (place fault.part fault.line) fault.code

-- Kept acts are refused so: by their fault, or memory was refused.
abbrev pub RefusesActs : List (Name × ℕ) → List PlacedAct → AssembleFault → Type 0
RefusesActs permanent acts (Source fault) = IsFaultOf permanent acts fault
RefusesActs permanent acts NoMemory = Unit {0}

-- A word stands before this place.
abbrev pub is_before : SourcePlace → PlacedWord → Bool
is_before p w = nat_lt w.place.part p.part || (nat_eq w.place.part p.part && nat_lt w.place.line p.line)

-- Words from the first one on that is not before this place.
abbrev pub skip : SourcePlace → List PlacedWord → List PlacedWord
skip p [] = []
skip p (w ∷ ws) = if is_before p w then skip p ws else w ∷ ws

-- The words at the front that stand at this place.
abbrev pub next_at : SourcePlace → List PlacedWord → List PlacedWord
next_at p [] = []
next_at p (w ∷ ws) = if is_at p w then w ∷ next_at p ws else []

-- Words after those at the front that stand at this place.
abbrev pub after_those : SourcePlace → List PlacedWord → List PlacedWord
after_those p [] = []
after_those p (w ∷ ws) = if is_at p w then after_those p ws else w ∷ ws

-- Lines that are given their words in one pass over words that are in order.
abbrev pub turns_text : List TextLine → List PlacedWord → List ℕ
turns_text [] ws = []
turns_text (l ∷ ls) ws = line_text (next_at l.place (skip l.place ws)) (without_front (characters l.bytes)) ++ turns_text ls (after_those l.place (skip l.place ws))
