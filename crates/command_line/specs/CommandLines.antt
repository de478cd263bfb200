-- What a command line asks for: the request of the command that it names, with the words that were given.
use Rattle.std.specs.Prelude.{ℕ, ◌≡◌, List, [], Option, Some, codes, option_map}
use Rattle.std.specs.Borrow.{Bor}
use Rattle.clap.specs.Matches.{found_of, subcommand_name_of}
use Rattle.clap.specs.Simple.{HasMatchesOf, app_of, subcommand_rows_of}
use Rattle.clap.specs.Walk.{rows_of}
use Rattle.clap.specs.declared.builder.command.Command.{Command}
use Rattle.clap.specs.declared.parser.matches.ArgMatches.{ArgMatches}
use Rattle.command_line.specs.declared.command_name.CommandName.{CommandName}
use Rattle.command_line.specs.declared.command_name.CommandName.TheVariants as name
use Rattle.command_line.specs.declared.requests.CommandLine.{CommandLine}
use Rattle.command_line.specs.declared.requests.Request.{Request}
use Rattle.command_line.specs.declared.requests.Request.TheVariants as request
use Rattle.command_line.specs.CommandNames.{called_of}
use Rattle.command_line.specs.Machines.{IsMigrateGiven, IsSourceGiven}
use Rattle.command_line.specs.Options.{IsFlagGiven, value}
use Rattle.command_line.specs.Requests.{IsProgramRequestGiven, part_names, task_command}
use Rattle.command_line.specs.Sources.{IsAssembleGiven, IsListGiven, IsMachineGiven, IsPlaceGiven, machine_task_command}

-- What is explained has the code and the number that are given.
pub record IsExplainOf (found : ArgMatches) (code : Option (List ℕ)) (number : Option (List ℕ)) : Type 0 where
  pub code_is : code ≡ value found (codes "CODE")
  pub number_is : number ≡ value found (codes "NUMBER")

-- It is requested to explain a code.
abbrev pub IsExplainGiven : ArgMatches → Request → Type 0
IsExplainGiven found (request.Explain code number) = IsExplainOf found (option_map (λ text. text.now) code) (option_map (λ text. text.now) number)
IsExplainGiven found _ = ⊥

-- What is requested is what the command is called for, with its operands and as its options ask.
abbrev pub IsRequestGiven : CommandName → ArgMatches → Request → Type 0
IsRequestGiven (name.Machine command) found requested = IsMachineGiven command found requested
IsRequestGiven name.Assemble found (request.Assemble assemble) = IsAssembleGiven found assemble
IsRequestGiven name.List found (request.List listing) = IsListGiven found listing
IsRequestGiven name.Source found (request.Source source) = IsSourceGiven found source
IsRequestGiven name.Migrate found (request.Migrate migrate) = IsMigrateGiven found migrate
IsRequestGiven name.Place found (request.Program asked) = IsPlaceGiven found asked
IsRequestGiven name.Explain found requested = IsExplainGiven found requested
IsRequestGiven (name.Program command) found (request.Program asked) = IsProgramRequestGiven command found asked
IsRequestGiven _ found _ = ⊥

-- The command that makes a request.
abbrev pub request_command : Request → CommandName
request_command (request.Tape task) = name.Machine (machine_task_command task)
request_command (request.Sourced asked) = name.Machine (machine_task_command asked.task)
request_command (request.Assemble assemble) = name.Assemble
request_command (request.Source source) = name.Source
request_command (request.List listing) = name.List
request_command (request.Explain code number) = name.Explain
request_command (request.Migrate migrate) = name.Migrate
request_command (request.Program asked) = task_command asked.task

-- The names of the parts of the source of a request; none if it has no source.
abbrev pub request_parts : Request → List (Bor (List ℕ))
request_parts (request.Assemble assemble) = assemble.sources.items
request_parts (request.List listing) = listing.sources.items
request_parts (request.Sourced asked) = asked.parts.items
request_parts (request.Program asked) = part_names asked.program
request_parts _ = []

-- The request of a command line is that of the command which clap finds in the words, by some table of commands, with the operands and
-- the options that it finds behind the command's name; and so is the flag `--why`.
pub record IsLineGiven (words : List (List ℕ)) (line : CommandLine) : Type 0 where
  pub table : Command
  pub matches : ArgMatches
  pub parsed : HasMatchesOf (app_of table) words matches
  pub called : List ℕ
  pub named : Some called ≡ subcommand_name_of matches
  pub found : ArgMatches
  pub rows : Some (rows_of (found_of found)) ≡ option_map (λ row. row.1) (subcommand_rows_of matches)
  pub requested : IsRequestGiven (called_of called) found line.request
  pub explained : IsFlagGiven found (codes "why") line.explained
