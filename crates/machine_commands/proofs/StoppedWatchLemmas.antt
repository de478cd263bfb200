-- What is told of a plan is what is told of the events that it brings.
use Rattle.std.proofs.Common.{ℕ, Bool, List, Option}
use Rattle.std.specs.Prelude.{Result, Ok, Err, IfOk}
use Rattle.peripherals.specs.declared.Event.{Event}
use Rattle.peripherals.specs.Operator.{Plan}
use Rattle.declaration.specs.Declaration.{Declaration}
use Rattle.command_parts.specs.Messages.{plain}
use Rattle.command_parts.specs.declared.options.Stops.{Stops}
use Rattle.command_parts.specs.declared.status.Fault.{Fault}
use Rattle.machine_commands.specs.Continued.{came_by}
use Rattle.machine_commands.specs.Running.{fresh}
use Rattle.machine_commands.specs.StoppedWatch.{IsPlanToStop, IsWatchToStop}
use Rattle.machine_commands.specs.declared.messages.RunMessage.{RunMessage}

pub plan_to_stop : {A : Type 0} (continues : Option ℕ) (plan : Plan) (stops : Stops) (last : Option ℕ) (explained : Bool) (named : ℕ → Bool) (image : List (Option ℕ)) (d : Declaration) (events : List Event) (result : Result (RunMessage A) Fault) →
    came_by continues plan d (fresh image d.start) events → IfOk result (λ run. IsWatchToStop continues stops last explained named image d events run.status run.lines.items (plain run.details)) →
    IfOk result (λ run. IsPlanToStop continues plan stops last explained named image d run.status run.lines.items (plain run.details))
plan_to_stop continues plan stops last explained named image d events (Ok run) come is = record { events = events; come = come; is = is }
plan_to_stop continues plan stops last explained named image d events (Err fault) come is = tt
