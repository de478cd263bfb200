-- What requests on a program and its declaration have of the words that were given.
use Rattle.std.specs.Prelude.{ℕ, ◌≡◌, ◌&&◌, ◌||◌, not, Bool, true, false, is_some, List, [], ◌∷◌, Option, None, Some, codes, if◌then◌else◌, map, option_map, unwrap_or}
use Rattle.std.specs.Borrow.{Bor}
use Rattle.std.specs.List.{list_any}
use Rattle.std.specs.Option.{ForSome}
use Rattle.clap.specs.declared.parser.matches.ArgMatches.{ArgMatches}
use Rattle.command_line.specs.declared.command_name.CommandName.{CommandName}
use Rattle.command_line.specs.declared.command_name.CommandName.TheVariants as kind
use Rattle.command_line.specs.declared.program_command.ProgramCommand.{ProgramCommand}
use Rattle.command_line.specs.declared.program_command.ProgramCommand.TheVariants as command
use Rattle.command_line.specs.declared.operands.Operands.{Operands}
use Rattle.command_line.specs.declared.operator.WatchedSession.{WatchedSession}
use Rattle.command_line.specs.declared.programs.ProgramNames.{ProgramNames}
use Rattle.command_line.specs.declared.programs.ProgramNames.TheVariants.{Tape, Source}
use Rattle.command_line.specs.declared.programs.ProgramRequest.{ProgramRequest}
use Rattle.command_line.specs.declared.place_options.PlaceOptions.{PlaceOptions}
use Rattle.command_line.specs.declared.place_options.StopOptions.{StopOptions}
use Rattle.command_line.specs.declared.programs.Task.{Task}
use Rattle.command_line.specs.declared.programs.WatchedRunOptions.{WatchedRunOptions}
use Rattle.command_line.specs.declared.programs.Task.TheVariants.{Verify, Check, Report, Watch, WatchSession, Guess, Refute, Declare, Place}
use Rattle.command_line.specs.declared.outputs.Destination.{Destination}
use Rattle.command_line.specs.declared.outputs.SaveOptions.{SaveOptions}
use Rattle.command_line.specs.Inputs.{AreReadAtMost, IsApart, IsSavedApart}
use Rattle.command_line.specs.Outputs.{IsResultGiven, IsSaveGiven, file_of, is_result_file, is_search, is_source_name}
use Rattle.command_line.specs.Options.{AreDeclareOptions, ArePlacesGiven, AreRefinements, AreRefuteOptions, AreSessionOptions, AreVerifyOptions, IsFlagGiven, IsNumberNamed, IsStartOnce, IsVersionNamed, IsWatchedWithOperator, has_value, is_start_named, operand, sources_given, value}
use Rattle.command_line.specs.Places.{AreShownOn, IsStoppedOn}

-- The declaration that a command on a tape is given. Where `verify` and `declare` are given none, there is none, and so one is
-- proposed there and nowhere else.
abbrev pub declaration_given : ProgramCommand → ArgMatches → Option (List ℕ)
declaration_given command.Verify found = value found (codes "DECLARATION")
declaration_given command.Declare found = value found (codes "from")
declaration_given _ found = Some (operand found (codes "DECLARATION"))

-- The last input of a command on a tape, where it needs one after the declaration.
abbrev pub last_with_tape : ProgramCommand → ArgMatches → Option (List ℕ)
last_with_tape command.Check found = value found (codes "CERTIFICATE")
last_with_tape command.Report found = value found (codes "CERTIFICATE")
last_with_tape command.Watch found = value found (codes "EVENTS")
last_with_tape _ found = None

-- The declaration among the two words after a source: the first of two, where the command needs its last word; otherwise the first.
abbrev pub declaration_behind : Bool → Option (List ℕ) → Option (List ℕ) → Option (List ℕ)
declaration_behind true first second = if is_some second then first else None
declaration_behind false first second = first

-- The word that a command needs after a source: the last one, where it needs one.
abbrev pub last_behind : Bool → Option (List ℕ) → Option (List ℕ) → Option (List ℕ)
last_behind true first second = if is_some second then second else first
last_behind false first second = None

-- The input that a command needs after the declaration, where it needs one: a certificate, or the events of a run without an operator.
abbrev pub last_name : Bool → ProgramCommand → Option (List ℕ)
last_name operated command.Check = Some (codes "CERTIFICATE")
last_name operated command.Report = Some (codes "CERTIFICATE")
last_name operated command.Watch = if operated then None else Some (codes "EVENTS")
last_name operated _ = None

-- The operands and options that give a program, its declaration and a certificate.
abbrev pub with_certificate : Bool → List (List ℕ)
with_certificate sourced =
    if sourced then codes "source" ∷ codes "TAPE" ∷ codes "DECLARATION" ∷ [] else codes "TAPE" ∷ codes "DECLARATION" ∷ codes "CERTIFICATE" ∷ []

-- The operands and options that give the inputs of a command, with a source or with a tape. After a source, clap takes the declaration and
-- the last input for the operands that a tape and its declaration have.
abbrev pub input_names : ProgramCommand → Bool → List (List ℕ)
input_names command.Declare sourced = (if sourced then codes "source" else codes "TAPE") ∷ codes "from" ∷ []
input_names command.Watch sourced =
    if sourced then codes "source" ∷ codes "TAPE" ∷ codes "DECLARATION" ∷ codes "reader" ∷ codes "keys" ∷ []
    else codes "TAPE" ∷ codes "DECLARATION" ∷ codes "EVENTS" ∷ codes "reader" ∷ codes "keys" ∷ []
input_names command.Check sourced = with_certificate sourced
input_names command.Report sourced = with_certificate sourced
input_names _ sourced = if sourced then codes "source" ∷ codes "TAPE" ∷ [] else codes "TAPE" ∷ codes "DECLARATION" ∷ []

-- The operands and options that give the inputs of a command on a program, by what is found behind its name.
abbrev pub inputs_given : ProgramCommand → ArgMatches → List (List ℕ)
inputs_given called found = input_names called (is_some (sources_given found))

-- The declaration of a command on a source, where this word stands for it after the source: that of `declare` is the value of `--from`.
abbrev pub declaration_of_source : ProgramCommand → ArgMatches → Option (List ℕ) → Option (List ℕ)
declaration_of_source command.Declare found behind = value found (codes "from")
declaration_of_source _ found behind = behind

-- The command takes a declaration after a source.
abbrev pub takes_declaration : ProgramCommand → Bool
takes_declaration command.Declare = false
takes_declaration _ = true

-- The command takes two operands after a source: the second one is the last input that it needs, or the result of a search without `-o`.
abbrev pub takes_second : ProgramCommand → Bool → ArgMatches → Bool
takes_second called operated found = (is_search called && not (has_value found (codes "output"))) || is_some (last_name operated called)

-- There are more operands after a source than the command takes. clap takes them for a tape and what stands behind it.
abbrev pub has_more_operands : ProgramCommand → Bool → ArgMatches → Bool
has_more_operands called second found =
    list_any (has_value found) (codes "CERTIFICATE" ∷ codes "EVENTS" ∷ codes "OUT" ∷ [])
    || (not second && has_value found (codes "DECLARATION"))
    || (not (takes_declaration called) && has_value found (codes "TAPE"))

-- The declaration and the last input of a command on a source are the words that stand after it, as far as the command needs them, and no
-- others stand there.
pub record AreAfterSource (called : ProgramCommand) (found : ArgMatches) (declaration : Option (List ℕ)) (last : Option (List ℕ)) : Type 0 where
  pub operated : Bool
  pub watched : IsWatchedWithOperator found operated
  pub declaration_is : declaration ≡ declaration_of_source called found (declaration_behind (is_some (last_name operated called)) (value found (codes "TAPE"))
      (value found (codes "DECLARATION")))
  pub last_is : last ≡ last_behind (is_some (last_name operated called)) (value found (codes "TAPE")) (value found (codes "DECLARATION"))
  pub others : has_more_operands called (takes_second called operated found) found ≡ false

-- The program, the declaration and the last input of a command are those that are given: the file of its tape where no source is given, or
-- the files of the parts of its source, in order. Without a declaration the lines of a source are the declaration, and for a tape one is
-- proposed.
abbrev pub AreInputsGiven : ProgramCommand → ArgMatches → ProgramNames → Option (List ℕ) → Option (List ℕ) → Type 0
AreInputsGiven called found (Tape name) declaration last =
    (sources_given found ≡ None) × (name.now ≡ operand found (codes "TAPE")) × (declaration ≡ declaration_given called found) × (last ≡ last_with_tape called found)
AreInputsGiven called found (Source names) declaration last =
    (sources_given found ≡ Some (map (λ name. name.now) names.items)) × AreAfterSource called found declaration last

-- The last operand, if there is one.
abbrev pub last_of : Operands → Option (List ℕ)
last_of operands = option_map (λ name. name.now) operands.last

-- The operands of a command are its inputs that are given.
abbrev pub AreOperandsGiven : ProgramCommand → ArgMatches → Operands → Type 0
AreOperandsGiven called found operands = AreInputsGiven called found operands.program (option_map (λ name. name.now) operands.declaration) (last_of operands)

-- The names of the files of a source's parts, if the program is given by its source.
abbrev pub part_names : ProgramNames → List (Bor (List ℕ))
part_names (Tape name) = []
part_names (Source names) = names.items

-- The program is given by its tape.
abbrev pub is_tape : ProgramNames → Bool
is_tape (Tape name) = true
is_tape (Source names) = false

-- The tape of a run that is watched with an operator. The name of that of a source is empty.
abbrev pub watched_tape : ProgramNames → List ℕ
watched_tape (Tape name) = name.now
watched_tape (Source names) = []

-- The declaration of a run of a tape that is watched with an operator, or standard input. The name of that of a source is empty.
abbrev pub watched_declaration : ProgramNames → Option (List ℕ) → List ℕ
watched_declaration (Tape name) declaration = unwrap_or declaration (codes "-")
watched_declaration (Source names) declaration = []

-- The command that asks for a task.
abbrev pub task_command : Task → CommandName
task_command (Verify save options) = kind.Program command.Verify
task_command (Check certificate) = kind.Program command.Check
task_command (Report certificate out text) = kind.Program command.Report
task_command (Watch events show stopping) = kind.Program command.Watch
task_command (WatchSession session) = kind.Program command.Watch
task_command (Guess out report version) = kind.Program command.Guess
task_command (Refute out options) = kind.Program command.Refute
task_command (Declare out options refinements) = kind.Program command.Declare
task_command (Place out) = kind.Place

-- What a task saves of what it finds, if that is requested: only `verify` saves anything.
abbrev pub saved_by : Task → Option SaveOptions
saved_by (Verify save options) = save
saved_by _ = None

-- The search for an answer is made and what is found is saved as the options ask, over none of the inputs. A declaration may be saved
-- exactly if none is given.
abbrev pub IsVerifyGiven : ArgMatches → Operands → Task → Type 0
IsVerifyGiven found operands (Verify save options) =
    IsSaveGiven found (is_some operands.declaration) save × AreVerifyOptions found options × ForSome save (IsSavedApart found (inputs_given command.Verify found))
IsVerifyGiven found operands _ = ⊥

-- A command is `watch` with an operator.
abbrev pub IsOperated : ProgramCommand → ArgMatches → Bool → Type 0
IsOperated command.Watch found is = IsWatchedWithOperator found is
IsOperated _ found is = is ≡ false

-- A watched run shows the cells that are named, and is followed as the options ask.
pub record IsFollowedOn (program : ProgramNames) (places : PlaceOptions) (followed : WatchedRunOptions) : Type 0 where
  pub shown : AreShownOn (is_tape program) places followed.show
  pub stopped : IsStoppedOn (is_tape program) places followed.stopping

-- A watched run with an operator is the one that the operands and the options ask for, shows these cells and is followed so. No list of
-- events is given.
pub record IsWatchedRunGiven (found : ArgMatches) (operands : Operands) (followed : WatchedRunOptions) (session : WatchedSession) : Type 0 where
  pub options : AreSessionOptions found session.options
  pub reader : option_map (λ name. name.now) session.reader ≡ value found (codes "reader")
  pub keys : option_map (λ name. name.now) session.keys ≡ value found (codes "keys")
  pub continues : IsNumberNamed 1 1000000 (value found (codes "continue")) session.continues
  pub explained : IsFlagGiven found (codes "why") session.explained
  pub tape : session.tape.now ≡ watched_tape operands.program
  pub declaration : session.declaration.now ≡ watched_declaration operands.program (option_map (λ name. name.now) operands.declaration)
  pub shown : session.options.run.show ≡ followed.show
  pub stopped : session.stopping ≡ followed.stopping
  pub list : has_value found (codes "EVENTS") ≡ false

-- A run is watched by the list of events that is given last, shows these cells and is followed so.
pub record IsListWatched (operands : Operands) (followed : WatchedRunOptions) (events : List ℕ) (show : List ℕ) (stopping : Option StopOptions) : Type 0 where
  pub given : events ≡ unwrap_or (last_of operands) (codes "-")
  pub shown : show ≡ followed.show
  pub stopped : stopping ≡ followed.stopping

-- Without an option for an operator, the list of events is the one that is given last. Otherwise the run has an operator as the options
-- ask.
abbrev pub IsWatchGiven : ArgMatches → Operands → WatchedRunOptions → Task → Type 0
IsWatchGiven found operands followed (Watch events show stopping) = IsWatchedWithOperator found false × IsListWatched operands followed events.now show stopping
IsWatchGiven found operands followed (WatchSession session) = IsWatchedWithOperator found true × IsWatchedRunGiven found operands followed session
IsWatchGiven found operands followed _ = ⊥

-- The result of a command goes where it is said, and that is none of the inputs.
pub record IsResultApart (called : ProgramCommand) (found : ArgMatches) (out : Destination) : Type 0 where
  pub given : IsResultGiven (kind.Program called) found out
  pub apart : IsApart found (inputs_given called found) (file_of out)

-- The report of a search that is stuck goes where it is said, and that is neither an input nor where the result goes, and is not named like
-- a source.
pub record IsReportApart (found : ArgMatches) (out : Destination) (report : Option (Bor (List ℕ))) : Type 0 where
  pub given : option_map (λ name. name.now) report ≡ value found (codes "report")
  pub apart : ForSome report (λ name. IsApart found (inputs_given command.Guess found) name.now)
  pub another : ForSome report (λ name. is_result_file out name.now ≡ false)
  pub unlike : ForSome report (λ name. is_source_name name.now ≡ false)

-- The search for a certificate is for the version that is requested, and the certificate and the report of a search that is stuck go
-- where it is said.
abbrev pub IsGuessGiven : ArgMatches → Task → Type 0
IsGuessGiven found (Guess out report version) =
    IsResultApart command.Guess found out × IsReportApart found out report × IsVersionNamed (value found (codes "certificate")) version
IsGuessGiven found _ = ⊥

-- The search for a run is made as the options ask, and the run goes where it is said.
abbrev pub IsRefuteGiven : ArgMatches → Task → Type 0
IsRefuteGiven found (Refute out options) = IsResultApart command.Refute found out × AreRefuteOptions found options
IsRefuteGiven found _ = ⊥

-- A declaration is proposed as the options ask, and goes where it is said.
abbrev pub IsDeclareGiven : ArgMatches → Task → Type 0
IsDeclareGiven found (Declare out options refinements) =
    IsResultApart command.Declare found out × AreDeclareOptions found options × AreRefinements found refinements
IsDeclareGiven found _ = ⊥

-- The report is of the certificate that is given last, as text or as a page as the option asks, and goes where it is said.
abbrev pub IsReportGiven : ArgMatches → Option (List ℕ) → Task → Type 0
IsReportGiven found last (Report certificate out text) =
    (certificate.now ≡ unwrap_or last (codes "-")) × IsResultApart command.Report found out × IsFlagGiven found (codes "text") text
IsReportGiven found last _ = ⊥

-- The certificate that is checked is the one that is given last.
abbrev pub IsCheckGiven : Option (List ℕ) → Task → Type 0
IsCheckGiven last (Check certificate) = certificate.now ≡ unwrap_or last (codes "-")
IsCheckGiven last _ = ⊥

-- What is done is what the command is called for, with its operands and as its options ask.
abbrev pub IsTaskGiven : ProgramCommand → ArgMatches → Operands → WatchedRunOptions → Task → Type 0
IsTaskGiven command.Verify found operands followed task = IsVerifyGiven found operands task
IsTaskGiven command.Watch found operands followed task = IsWatchGiven found operands followed task
IsTaskGiven command.Guess found operands followed task = IsGuessGiven found task
IsTaskGiven command.Refute found operands followed task = IsRefuteGiven found task
IsTaskGiven command.Declare found operands followed task = IsDeclareGiven found task
IsTaskGiven command.Report found operands followed task = IsReportGiven found (last_of operands) task
IsTaskGiven command.Check found operands followed task = IsCheckGiven (last_of operands) task

-- What a command on a program and its declaration is called for, with its operands and as its options ask. The files of the program are
-- those that are given, and so is the declaration: one is proposed for a tape only if none is given to `verify` or `declare`. One input at
-- most is standard input. A start or a machine is named only without a declaration.
pub record IsProgramRequestGiven (called : ProgramCommand) (found : ArgMatches) (asked : ProgramRequest) : Type 0 where
  pub operands : Operands
  pub program_is : asked.program ≡ operands.program
  pub declaration_is : asked.declaration ≡ operands.declaration
  pub given : AreOperandsGiven called found operands
  pub followed : WatchedRunOptions
  pub followed_is : IsFollowedOn operands.program asked.places followed
  pub task : IsTaskGiven called found operands followed asked.task
  pub once : AreReadAtMost 1 found (inputs_given called found)
  pub places : ArePlacesGiven found asked.places
  pub named : asked.asked ≡ is_start_named found
  pub start : IsStartOnce found
  pub explained : IsFlagGiven found (codes "why") asked.explained
