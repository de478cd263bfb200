-- Where results go, and when an output is an input, as far as the names tell.
use Rattle.std.specs.Prelude.{ℕ, ◌≡◌, Bool, true, false, ◌&&◌, ◌||◌, if◌then◌else◌, is_some, not, codes, drop, length, take, List, [], ◌∷◌, ◌-◌, Option, None, Some, unwrap_or}
use Rattle.std.specs.List.{list_any}
use Rattle.std.specs.Str.{bytes_eq}
use Rattle.clap.specs.declared.parser.matches.ArgMatches.{ArgMatches}
use Rattle.command_line.specs.declared.command_name.CommandName.{CommandName}
use Rattle.command_line.specs.declared.command_name.CommandName.TheVariants as kind
use Rattle.command_line.specs.declared.outputs.Destination.{Destination}
use Rattle.command_line.specs.declared.outputs.Destination.TheVariants.{EmptiedFirst, CheckedFirst, MadeLast}
use Rattle.command_line.specs.declared.outputs.SaveOptions.{SaveOptions}
use Rattle.command_line.specs.declared.program_command.ProgramCommand.{ProgramCommand}
use Rattle.command_line.specs.declared.program_command.ProgramCommand.TheVariants as command
use Rattle.command_line.specs.Options.{IsFlagGiven, operand, sources_given, value}

-- A name without `./` at its front.
abbrev pub without_here : List ℕ → List ℕ
without_here name = if bytes_eq (take 2 name) (codes "./") then drop 2 name else name

-- Two names are those of one file: `./` at the front does not matter.
abbrev pub is_same_file : List ℕ → List ℕ → Bool
is_same_file left right = bytes_eq (without_here left) (without_here right)

-- An input of this name is standard input.
abbrev pub is_standard_input : List ℕ → Bool
is_standard_input name = bytes_eq name (codes "-") || bytes_eq name (codes "/dev/stdin")

-- The name of the file that a result goes to.
abbrev pub file_of : Destination → List ℕ
file_of (EmptiedFirst name) = name.now
file_of (CheckedFirst name) = name.now
file_of (MadeLast name) = name.now

-- The file that an output goes to is one of these, as far as the names tell; standard output is no file.
abbrev pub is_taken : List ℕ → List (List ℕ) → Bool
is_taken name others = not (bytes_eq name (codes "-")) && list_any (λ other. is_same_file other name) others

-- A file of this name is the one that a result goes to; standard output is no file.
abbrev pub is_result_file : Destination → List ℕ → Bool
is_result_file out name = not (bytes_eq name (codes "-")) && is_same_file (file_of out) name

-- What the name of a source ends in.
abbrev pub source_endings : List (List ℕ)
source_endings =
    codes ".pal" ∷ codes ".PAL" ∷ codes ".pa" ∷ codes ".PA" ∷ codes ".pal8" ∷ codes ".PAL8" ∷ codes ".asm" ∷ codes ".ASM" ∷ codes ".src" ∷ codes ".SRC" ∷ []

-- A name ends in this.
abbrev pub ends_in : List ℕ → List ℕ → Bool
ends_in name ending = bytes_eq ending (drop (length name - length ending) name)

-- A name ends as that of a source does.
abbrev pub is_source_name : List ℕ → Bool
is_source_name name = list_any (ends_in name) source_endings

-- The command searches for its result: for a certificate, for a run, or for a declaration.
abbrev pub is_search : ProgramCommand → Bool
is_search command.Guess = true
is_search command.Refute = true
is_search command.Declare = true
is_search _ = false

-- The operand that the result goes to without `-o`, with a source or with a tape: OUT, or the second operand of a search after a source.
abbrev pub result_name : CommandName → Bool → List ℕ
result_name (kind.Program called) sourced = if is_search called && sourced then codes "DECLARATION" else codes "OUT"
result_name _ sourced = codes "OUT"

-- The same for what is found behind the name of a command.
abbrev pub result_operand : CommandName → ArgMatches → List ℕ
result_operand called found = result_name called (is_some (sources_given found))

-- The name of the file that the result goes to: the value of `-o`, and without it the operand.
abbrev pub result_file : CommandName → ArgMatches → List ℕ
result_file called found = unwrap_or (value found (codes "output")) (operand found (result_operand called found))

-- The file of the operand is emptied before an input is read: that is so of tapes and of certificates.
abbrev pub is_emptied : CommandName → Bool
is_emptied kind.Assemble = true
is_emptied kind.Migrate = true
is_emptied (kind.Program command.Guess) = true
is_emptied _ = false

-- A result goes to the value of `-o` if it is given, whose file is made last; otherwise to the operand, whose file is emptied first or is
-- only checked first.
abbrev pub IsSentTo : Option (List ℕ) → Bool → List ℕ → Destination → Type 0
IsSentTo (Some name) emptied operand (MadeLast file) = file.now ≡ name
IsSentTo None true operand (EmptiedFirst file) = file.now ≡ operand
IsSentTo None false operand (CheckedFirst file) = file.now ≡ operand
IsSentTo _ emptied operand _ = ⊥

-- The result of a command goes where it is said.
abbrev pub IsSent : CommandName → ArgMatches → Destination → Type 0
IsSent called found out = IsSentTo (value found (codes "output")) (is_emptied called) (operand found (result_operand called found)) out

-- The result of a command goes where it is said, and has the name of a source only if it is the result of `source`.
pub record IsResultGiven (called : CommandName) (found : ArgMatches) (out : Destination) : Type 0 where
  pub sent : IsSent called found out
  pub unlike : is_source_name (file_of out) ≡ true → called ≡ kind.Source

-- The endings of the files that `verify --save` may write: that of a declaration is one of them only where none is given.
abbrev pub saved_endings : Bool → List (List ℕ)
saved_endings true = codes ".declaration" ∷ codes ".certificate" ∷ codes ".events" ∷ []
saved_endings false = codes ".certificate" ∷ codes ".events" ∷ []

-- A name is that of the file which another name and this ending make; `./` at the front does not matter.
abbrev pub is_saved_as : List ℕ → List ℕ → List ℕ → Bool
is_saved_as saved ending name = ends_in name ending && is_same_file (take (length name - length ending) name) saved

-- One of these is a file that may be saved, as far as the names tell.
abbrev pub is_saved_over : SaveOptions → List (List ℕ) → Bool
is_saved_over save others = list_any (λ ending. list_any (is_saved_as save.name.now ending) others) (saved_endings save.proposed)

-- What the names of saved files begin with is the value of `--save`, a declaration may be one of them unless one is given, and they
-- replace other files only where `--force` is given.
pub record IsSaveNamed (found : ArgMatches) (declared : Bool) (save : SaveOptions) : Type 0 where
  pub proposed : declared ≡ not save.proposed
  pub name : value found (codes "save") ≡ Some save.name.now
  pub forced : IsFlagGiven found (codes "force") save.forced

-- Something is saved exactly if `--save` is given.
abbrev pub IsSaveGiven : ArgMatches → Bool → Option SaveOptions → Type 0
IsSaveGiven found declared None = value found (codes "save") ≡ None
IsSaveGiven found declared (Some save) = IsSaveNamed found declared save
