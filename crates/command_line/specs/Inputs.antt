-- What is read and what is written: one input at most is standard input, and no output is an input, as far as the names tell.
use Rattle.std.specs.Prelude.{ℕ, ◌≡◌, ◌≤◌, false, List, count_by}
use Rattle.clap.specs.declared.parser.matches.ArgMatches.{ArgMatches}
use Rattle.command_line.specs.declared.outputs.SaveOptions.{SaveOptions}
use Rattle.command_line.specs.Options.{named}
use Rattle.command_line.specs.Outputs.{is_standard_input, is_saved_over, is_taken}

-- Of the inputs that these operands and options give, so many at most are standard input.
abbrev pub AreReadAtMost : ℕ → ArgMatches → List (List ℕ) → Type 0
AreReadAtMost most found names = count_by is_standard_input (named found names) ≤ most

-- The file that an output goes to is none of the inputs that these operands and options give, as far as the names tell; standard output is no
-- file.
abbrev pub IsApart : ArgMatches → List (List ℕ) → List ℕ → Type 0
IsApart found names file = is_taken file (named found names) ≡ false

-- No file that may be saved is an input that these operands and options give, as far as the names tell.
abbrev pub IsSavedApart : ArgMatches → List (List ℕ) → SaveOptions → Type 0
IsSavedApart found names save = is_saved_over save (named found names) ≡ false
