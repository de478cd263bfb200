-- That inputs are read once and that outputs are apart from them, from what functions find of the names.
use Rattle.std.proofs.Common.{◌≡◌, ◌+◌, ℕ, Bool, true, false, List, Option, None, Some, ap, cond, count_by, map, option_map, refl, sym, true≢false}
use Rattle.std.proofs.lemmas.List.Folds.{fold-map}
use Rattle.std.specs.Prelude.{IfOk, Result, Ok, Err, is_some}
use Rattle.std.specs.Borrow.{Bor}
use Rattle.clap.specs.declared.parser.matches.ArgMatches.{ArgMatches}
use Rattle.command_line.specs.declared.program_command.ProgramCommand.{ProgramCommand}
use Rattle.command_line.specs.declared.programs.ProgramNames.{ProgramNames}
use Rattle.command_line.specs.declared.programs.ProgramNames.TheVariants.{Tape, Source}
use Rattle.command_line.specs.Machines.{tape_unless}
use Rattle.command_line.specs.Options.{sources_given}
use Rattle.command_line.specs.Requests.{AreInputsGiven, is_tape}

-- How many of some names pass a test is how many of their texts do.
pub counted : (p : List ℕ → Bool) (names : List (Bor (List ℕ))) → count_by (λ name. p name.now) names ≡ count_by p (map (λ name. name.now) names)
counted p names = sym (fold-map (λ a x. a + cond (p x) 1 0) (λ (name : Bor (List ℕ)). name.now) 0 names)

-- A tape is given only without a source.
pub tape_alone : (sources : Option (List (List ℕ))) (tape : Option (Bor (List ℕ))) (name : List ℕ) → option_map (λ it. it.now) tape ≡ tape_unless sources name
    → is_some tape ≡ true → sources ≡ None
tape_alone None tape name e is = refl
tape_alone (Some parts) None name e is = absurd (true≢false (sym is))
tape_alone (Some parts) (Some tape) name e is = absurd (true≢false (ap is_some e))

-- A program is given by its tape only without a source.
pub tape_only : (called : ProgramCommand) (found : ArgMatches) (program : ProgramNames) (declaration last : Option (List ℕ))
    → AreInputsGiven called found program declaration last → is_tape program ≡ true → sources_given found ≡ None
tape_only called found (Tape name) declaration last given is = given.0
tape_only called found (Source names) declaration last given is = absurd (true≢false (sym is))

-- What is known anyway is known of a result.
pub known_anyway : {A E P : Type 0} (result : Result A E) → P → IfOk result (λ it. P)
known_anyway (Ok it) known = known
known_anyway (Err refused) known = tt
