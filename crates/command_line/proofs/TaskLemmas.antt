-- What follows of a request from what is known of the command that is called and of its source.
use Rattle.std.proofs.Common.{◌≡◌, ◌∙◌, ℕ, Bool, true, false, List, Option, None, Some, ap, option_map, refl, subst, sym, true≢false}
use Rattle.std.specs.Borrow.{Bor}
use Rattle.std.specs.Prelude.{codes, is_some, unwrap_or}
use Rattle.clap.specs.declared.parser.matches.ArgMatches.{ArgMatches}
use Rattle.command_line.specs.declared.command_name.MachineCommand.{MachineCommand}
use Rattle.command_line.specs.declared.operands.Operands.{Operands}
use Rattle.command_line.specs.declared.operator.WatchedSession.{WatchedSession}
use Rattle.command_line.specs.declared.program_command.ProgramCommand.{ProgramCommand}
use Rattle.command_line.specs.declared.program_command.ProgramCommand.TheVariants.{Verify, Watch, Guess, Refute, Declare, Report, Check}
use Rattle.command_line.specs.declared.programs.Task.TheVariants as task
use Rattle.command_line.specs.declared.programs.WatchedRunOptions.{WatchedRunOptions}
use Rattle.command_line.specs.declared.requests.Request.TheVariants as request
use Rattle.command_line.specs.declared.source_programs.MachineTask.{MachineTask}
use Rattle.command_line.specs.declared.source_programs.SourceProgramRequest.{SourceProgramRequest}
use Rattle.command_line.specs.Options.{IsWatchedWithOperator, sources_given, value}
use Rattle.command_line.specs.Requests.{AreAfterSource, IsOperated, IsTaskGiven, IsWatchedRunGiven, declaration_behind, declaration_of_source, has_more_operands, last_behind, last_name, last_of, takes_second}
use Rattle.command_line.specs.Sources.{IsDoneWith, IsMachineGiven, IsOnTape, IsSourcedGiven}

-- A command with an operator is `watch`, and is given the run that its operands and options ask for.
pub operated : (called : ProgramCommand) (found : ArgMatches) (operands : Operands) (followed : WatchedRunOptions) (session : WatchedSession)
    → IsOperated called found true → IsWatchedRunGiven found operands followed session → IsTaskGiven called found operands followed (task.WatchSession session)
operated Watch found operands followed session is given = (is, given)
operated Verify found operands followed session is given = absurd (true≢false is)
operated Guess found operands followed session is given = absurd (true≢false is)
operated Refute found operands followed session is given = absurd (true≢false is)
operated Declare found operands followed session is given = absurd (true≢false is)
operated Report found operands followed session is given = absurd (true≢false is)
operated Check found operands followed session is given = absurd (true≢false is)

-- Without an operator, `watch` is given the list of events that stands last.
pub listed : (called : ProgramCommand) (found : ArgMatches) (operands : Operands) (followed : WatchedRunOptions) (events : Bor (List ℕ))
    → called ≡ Watch → IsOperated called found false → events.now ≡ unwrap_or (last_of operands) (codes "-")
    → IsTaskGiven called found operands followed (task.Watch events followed.show followed.stopping)
listed called found operands followed events e is given =
    subst (λ k. IsTaskGiven k found operands followed (task.Watch events followed.show followed.stopping)) (sym e)
    (subst (λ k. IsOperated k found false) e is, record { given = given; shown = refl; stopped = refl })

-- What is done with a tape is requested where no source is given.
pub on_tape : (called : MachineCommand) (found : ArgMatches) (done : MachineTask) → sources_given found ≡ None → IsOnTape called found done
    → IsMachineGiven called found (request.Tape done)
on_tape called found done e given = subst (λ sources. IsDoneWith sources called found (request.Tape done)) (sym e) given

-- What is done with a source is requested where one is given.
pub with_source : (called : MachineCommand) (found : ArgMatches) (asked : SourceProgramRequest) (parts : List (List ℕ)) → sources_given found ≡ Some parts → IsSourcedGiven called found asked
    → IsMachineGiven called found (request.Sourced asked)
with_source called found asked parts e given = subst (λ sources. IsDoneWith sources called found (request.Sourced asked)) (sym e) given

-- A name is there exactly if its bytes are.
pub some_now : (name : Option (Bor (List ℕ))) → is_some name ≡ is_some (option_map (λ it. it.now) name)
some_now None = refl
some_now (Some name) = refl

-- The words that stand after a source are its declaration and its last input, as far as the command needs them.
pub after_source : (called : ProgramCommand) (found : ArgMatches) (operated needed : Bool) (first second behind declaration last : Option (List ℕ))
    → IsWatchedWithOperator found operated → needed ≡ is_some (last_name operated called) → first ≡ value found (codes "TAPE") → second ≡ value found (codes "DECLARATION")
    → behind ≡ declaration_behind needed first second → last ≡ last_behind needed first second → declaration ≡ declaration_of_source called found behind
    → has_more_operands called (takes_second called operated found) found ≡ false → AreAfterSource called found declaration last
after_source called found operated needed first second behind declaration last watched n f s b l d others = record {
  operated = operated;
  watched = watched;
  others = others;
  declaration_is = d ∙ ap (declaration_of_source called found) (b ∙ (ap (λ n. declaration_behind n first second) n
      ∙ (ap (λ f. declaration_behind (is_some (last_name operated called)) f second) f ∙ ap (declaration_behind (is_some (last_name operated called)) (value found (codes "TAPE"))) s)));
  last_is = l ∙ (ap (λ n. last_behind n first second) n
      ∙ (ap (λ f. last_behind (is_some (last_name operated called)) f second) f ∙ ap (last_behind (is_some (last_name operated called)) (value found (codes "TAPE"))) s));
}
