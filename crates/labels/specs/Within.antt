-- The lines of a declaration that stand within a source, and the machine that a declaration names.
use Rattle.std.specs.Prelude.{ℕ, ◌≡◌, ◌<◌, ◌≤◌, ◌+◌, ◌%◌, ◌==◌, Bool, true, false, ◌&&◌, if◌then◌else◌, List, [], ◌∷◌, ◌++◌, length, slice_range, codes, Option, Result, Ok, Err, alloc_error, ◌⊎◌}
use Rattle.std.specs.declared.alloc.AllocError.{AllocError}
use Rattle.instruct.specs.declared.Profile.{Profile}
use Rattle.instruct.specs.declared.Profile.TheVariants.{Pdp8I, Pdp8E}
use Rattle.std.specs.Str.{bytes_eq}
use Rattle.std.specs.List.{after_first, list_any}
use Rattle.streams.specs.Text.{text_lines, words_of}
use Rattle.pal_text.specs.declared.tokens.Token.{Token}
use Rattle.pal_text.specs.declared.statement.Statement.{Statement}
use Rattle.pal_text.specs.declared.statement.Ending.{Ending}
use Rattle.pal_text.specs.declared.statement.Ending.TheVariants.{Dollar, Pause, Bytes}
use Rattle.pal_text.specs.declared.fault.TextFault.{TextFault}
use Rattle.pal_text.specs.declared.fault.TextFault.TheVariants.{Illegal, TooLong, NoMemory}
use Rattle.pal_text.specs.declared.lines.Line.{Line}
use Rattle.pal_text.specs.Characters.{characters}
use Rattle.pal_text.specs.Parts.{IsPart, IsIllegal}
use Rattle.pal_text.specs.declared.names.Name.{Name}
use Rattle.pal_acts.specs.declared.act.PlacedWord.{PlacedWord}
use Rattle.pal_acts.specs.declared.act.SourcePlace.{SourcePlace}
use Rattle.pal_acts.specs.Acts.{place}
use Rattle.pal_acts.specs.Permanent.{permanent_symbols}
use Rattle.pal_asm.specs.declared.fault.PalFault.{PalFault}
use Rattle.pal_asm.specs.Sources.{Means, HasWords, IsFault}
use Rattle.labels.specs.Located.{address_on, lacks_some, located}

-- The words are `profile 8e`.
abbrev pub is_8e : List (List ℕ) → Bool
is_8e (name ∷ machine ∷ []) = bytes_eq name (codes "profile") && bytes_eq machine (codes "8e")
is_8e other = false

-- A line of the text names the 8/E.
abbrev pub names_8e : List ℕ → Bool
names_8e text = list_any (λ line. is_8e (words_of line)) (text_lines text)

-- The machine that a declaration names: the 8/I, unless a line is `profile 8e`.
abbrev pub machine : List ℕ → Profile
machine text = if names_8e text then Pdp8E else Pdp8I

-- The byte is a slash, with channel 8 or without.
abbrev pub is_slash_code : ℕ → Bool
is_slash_code c = c % 128 == 47

-- What follows a colon at the front of some characters; nothing if none stands there.
abbrev pub after_colon : List ℕ → List ℕ
after_colon [] = []
after_colon (first ∷ more) = if first == 58 then more else []

-- The line of a declaration that the line of a source at a place holds, and a line feed: the characters behind the `/:` with which
-- its comment begins, and none if it does not begin so. What is no character is passed over, also between `/` and `:`. An address
-- that is left out is that of the first of these words that stands there.
abbrev pub declared_line : List PlacedWord → SourcePlace → List ℕ → List ℕ
declared_line words place line = located (address_on words place) (after_colon (characters (after_first is_slash_code line))) ++ 10 ∷ []

-- What these lines of a part with this number declare, a line for each, of which the first has the number n.
abbrev pub declared_part : List PlacedWord → ℕ → ℕ → List ℕ → List Line → List ℕ
declared_part words part n source [] = []
declared_part words part n source (line ∷ lines) =
    declared_line words (place part n) (slice_range source line.start line.end) ++ declared_part words part (n + 1) source lines

-- Behind a part that ends so the next one is read: behind any but one that a dollar sign ends.
abbrev pub reads_on : Ending → Bool
reads_on Dollar = false
reads_on Pause = true
reads_on Bytes = true

-- Behind a part with this fault no other is read; that memory was refused is told.
abbrev pub reads_on_after : TextFault → Result Bool AllocError
reads_on_after (Illegal n) = Ok false
reads_on_after TooLong = Ok false
reads_on_after NoMemory = Err alloc_error

-- What a part with this number declares, and whether the next one is read after it. A part that is too long or has a statement without
-- a form declares nothing, and ends the source. Another declares by its lines, up to where it ends.
pub data PartDeclares (words : List PlacedWord) (part : ℕ) (source : List ℕ) : Bool → List ℕ → Type 0 where
  unread : ((65536 < length source) ⊎ ((line : ℕ) × IsIllegal source line)) → PartDeclares words part source false []
  read : (tokens : List Token) (told : List Statement) (lines : List Line) (ending : Ending) → length source ≤ 65536 → IsPart source tokens told lines ending → PartDeclares words part source (reads_on ending) (declared_part words part 1 source lines)

-- This text stands as a declaration within these parts, the first of which has this number, where lines that leave out their address
-- have that of one of these words.
pub data Declared (words : List PlacedWord) : ℕ → List (List ℕ) → List ℕ → Type 0 where
  no_part : (n : ℕ) → Declared words n [] []
  last_part : (n : ℕ) (part : List ℕ) (parts : List (List ℕ)) (text : List ℕ) → PartDeclares words n part false text → Declared words n (part ∷ parts) text
  next_part : (n : ℕ) (part : List ℕ) (parts : List (List ℕ)) (text more : List ℕ) → PartDeclares words n part true text → Declared words (n + 1) parts more → Declared words n (part ∷ parts) (text ++ more)

-- What a part with this number declares was put after a text.
pub record Adds (words : List PlacedWord) (part : ℕ) (source : List ℕ) (on : Bool) (old new : List ℕ) : Type 0 where
  pub text : List ℕ
  pub says : PartDeclares words part source on text
  pub added : new ≡ old ++ text

-- The parts mean something on the machine that this text names, and these are their words, each with its place and its address.
pub record HasWordsFor (parts : List (List ℕ)) (text : List ℕ) (words : List PlacedWord) : Type 0 where
  pub symbols : List (Name × ℕ)
  pub image : List (Option ℕ)
  pub means : Means (permanent_symbols (machine text)) parts symbols image
  pub has : HasWords (permanent_symbols (machine text)) parts symbols words

-- The declaration within parts: what stands there, where each line has its address; or else that with the addresses of the words
-- of the parts, or, where the parts have a fault, without them.
pub data DeclaredWithin (parts : List (List ℕ)) : List ℕ → Type 0 where
  whole : (text : List ℕ) → Declared [] 1 parts text → lacks_some text ≡ false → DeclaredWithin parts text
  completed : (text all : List ℕ) (words : List PlacedWord) → Declared [] 1 parts text → HasWordsFor parts text words → Declared words 1 parts all → DeclaredWithin parts all
  faulty : (text : List ℕ) (fault : PalFault) → Declared [] 1 parts text → IsFault (permanent_symbols (machine text)) parts fault → DeclaredWithin parts text
