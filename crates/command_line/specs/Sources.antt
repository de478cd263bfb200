-- What requests for a source, and requests to run a program, have of the words that were given.
use Rattle.std.specs.Prelude.{ℕ, ◌≡◌, ◌∷◌, true, false, List, [], Option, None, Some, codes, if◌then◌else◌, map, option_map}
use Rattle.clap.specs.declared.parser.matches.ArgMatches.{ArgMatches}
use Rattle.instruct.specs.declared.Profile.{Profile}
use Rattle.command_line.specs.declared.command_name.CommandName.TheVariants as kind
use Rattle.command_line.specs.declared.command_name.MachineCommand.{MachineCommand}
use Rattle.command_line.specs.declared.command_name.MachineCommand.TheVariants as command
use Rattle.command_line.specs.declared.place_options.PlaceOptions.{PlaceOptions}
use Rattle.command_line.specs.declared.programs.ProgramNames.{ProgramNames}
use Rattle.command_line.specs.declared.programs.ProgramNames.TheVariants.{Tape, Source}
use Rattle.command_line.specs.declared.programs.ProgramRequest.{ProgramRequest}
use Rattle.command_line.specs.declared.programs.Task.{Task}
use Rattle.command_line.specs.declared.programs.Task.TheVariants.{Place}
use Rattle.command_line.specs.declared.requests.Request.{Request}
use Rattle.command_line.specs.declared.requests.Request.TheVariants as request
use Rattle.command_line.specs.declared.source_programs.MachineTask.{MachineTask}
use Rattle.command_line.specs.declared.source_programs.MachineTask.TheVariants as task
use Rattle.command_line.specs.declared.source_programs.SourceProgramRequest.{SourceProgramRequest}
use Rattle.command_line.specs.declared.sources.AssembleRequest.{AssembleRequest}
use Rattle.command_line.specs.declared.sources.ListRequest.{ListRequest}
use Rattle.command_line.specs.Machines.{IsDumpGiven, IsOperatedRunGiven, IsRunGiven, IsTeletypeGiven}
use Rattle.command_line.specs.Options.{ArePlacesGiven, IsFlagGiven, IsRunWithOperator, has_value, machine_given, named, sources_given, value}
use Rattle.command_line.specs.Inputs.{AreReadAtMost, IsApart}
use Rattle.command_line.specs.Outputs.{IsResultGiven, file_of}

-- The operands that are parts of the source of `assemble`, `list` and `place`: with `-o` the first operand is one of them too.
abbrev pub part_operands : ArgMatches → List (List ℕ)
part_operands found = if has_value found (codes "output") then codes "OUT" ∷ codes "SOURCE" ∷ [] else codes "SOURCE" ∷ []

-- The operands and the option that give the inputs of `place`.
abbrev pub placed_operands : ArgMatches → List (List ℕ)
placed_operands found =
    if has_value found (codes "output") then codes "OUT" ∷ codes "SOURCE" ∷ codes "declaration" ∷ [] else codes "SOURCE" ∷ codes "declaration" ∷ []

-- The parts of the source that `assemble`, `list` and `place` are given.
abbrev pub source_operands : ArgMatches → List (List ℕ)
source_operands found = named found (part_operands found)

-- The source that is assembled has the parts that are given, in their order, for the machine that is requested, and the tape goes where it
-- is said, which is none of the parts. One part at most is standard input.
pub record IsAssembleGiven (found : ArgMatches) (assemble : AssembleRequest) : Type 0 where
  pub out : IsResultGiven kind.Assemble found assemble.out
  pub apart : IsApart found (part_operands found) (file_of assemble.out)
  pub once : AreReadAtMost 1 found (part_operands found)
  pub sources : map (λ name. name.now) assemble.sources.items ≡ source_operands found
  pub machine : machine_given found ≡ Some assemble.profile
  pub explained : IsFlagGiven found (codes "why") assemble.explained

-- The source that is listed has the parts that are given, in their order, for the machine that is requested, with a table of its symbols or
-- without one. One part at most is standard input.
pub record IsListGiven (found : ArgMatches) (listing : ListRequest) : Type 0 where
  pub sources : map (λ name. name.now) listing.sources.items ≡ source_operands found
  pub once : AreReadAtMost 1 found (part_operands found)
  pub machine : machine_given found ≡ Some listing.profile
  pub explained : IsFlagGiven found (codes "why") listing.explained
  pub crossed : IsFlagGiven found (codes "cross") listing.crossed

-- What is done with a program is what the command is called for, as its options ask. A run has an operator exactly if an option for one
-- is given.
abbrev pub IsMachineTaskGiven : MachineCommand → ArgMatches → PlaceOptions → MachineTask → Type 0
IsMachineTaskGiven command.Run found places (task.Run run) = IsRunWithOperator found false × IsRunGiven found places run
IsMachineTaskGiven command.Run found places (task.Session session) = IsRunWithOperator found true × IsOperatedRunGiven found places session
IsMachineTaskGiven command.Teletype found places (task.Teletype session) = IsTeletypeGiven found places session
IsMachineTaskGiven command.Dump found places (task.Dump dump) = IsDumpGiven found dump
IsMachineTaskGiven _ found places _ = ⊥

-- The command that asks for something that is done with a program.
abbrev pub machine_task_command : MachineTask → MachineCommand
machine_task_command (task.Run run) = command.Run
machine_task_command (task.Session session) = command.Run
machine_task_command (task.Teletype session) = command.Teletype
machine_task_command (task.Dump dump) = command.Dump

-- The machine for which something is done with a program.
abbrev pub machine_of : MachineTask → Profile
machine_of (task.Run run) = run.options.profile
machine_of (task.Session session) = session.options.run.profile
machine_of (task.Teletype session) = session.options.profile
machine_of (task.Dump dump) = dump.profile

-- A request is done with a tape as its operands and options ask; the words for cells and places are those that the options give.
pub record IsOnTape (called : MachineCommand) (found : ArgMatches) (task : MachineTask) : Type 0 where
  pub places : PlaceOptions
  pub places_are : ArePlacesGiven found places
  pub given : IsMachineTaskGiven called found places task

-- The parts of the source are those that are given, in their order, and so are the words for cells and places of a run. What is done is what
-- the options ask for, and more is said of a fault exactly if `--why` is given. No tape is given.
pub record IsSourcedGiven (called : MachineCommand) (found : ArgMatches) (asked : SourceProgramRequest) : Type 0 where
  pub parts : sources_given found ≡ Some (map (λ name. name.now) asked.parts.items)
  pub places : ArePlacesGiven found asked.places
  pub task : IsMachineTaskGiven called found asked.places asked.task
  pub explained : IsFlagGiven found (codes "why") asked.explained
  pub tape : has_value found (codes "TAPE") ≡ false

-- With a source, what is requested is done with that, and otherwise with a tape.
abbrev pub IsDoneWith : Option (List (List ℕ)) → MachineCommand → ArgMatches → Request → Type 0
IsDoneWith None called found (request.Tape task) = IsOnTape called found task
IsDoneWith (Some parts) called found (request.Sourced asked) = IsSourcedGiven called found asked
IsDoneWith _ called found _ = ⊥

-- What `run`, `teletype` or `dump` does is what its operands and options ask for.
abbrev pub IsMachineGiven : MachineCommand → ArgMatches → Request → Type 0
IsMachineGiven called found requested = IsDoneWith (sources_given found) called found requested

-- The parts of a source are those that are given, in their order.
abbrev pub ArePartsGiven : ArgMatches → ProgramNames → Type 0
ArePartsGiven found (Source names) = map (λ name. name.now) names.items ≡ source_operands found
ArePartsGiven found (Tape name) = ⊥

-- A declaration is written in numbers, and goes where it is said, which is none of the inputs.
abbrev pub IsPlaceTask : ArgMatches → Task → Type 0
IsPlaceTask found (Place out) = IsResultGiven kind.Place found out × IsApart found (placed_operands found) (file_of out)
IsPlaceTask found _ = ⊥

-- The declaration that is written in numbers is the one that is given, for the source whose parts are given. One of these inputs at most is
-- standard input.
pub record IsPlaceGiven (found : ArgMatches) (asked : ProgramRequest) : Type 0 where
  pub program : ArePartsGiven found asked.program
  pub declaration : option_map (λ name. name.now) asked.declaration ≡ value found (codes "declaration")
  pub task : IsPlaceTask found asked.task
  pub once : AreReadAtMost 1 found (placed_operands found)
  pub places : ArePlacesGiven found asked.places
  pub named : asked.asked ≡ false
  pub explained : IsFlagGiven found (codes "why") asked.explained
