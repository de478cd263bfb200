use Rattle.command_line.proofs.InputLemmas.{known_anyway}
use Rattle.command_line.proofs.RefusalLemmas.{beside_result, of_inputs}
use Rattle.command_line.proofs.TaskLemmas.{operated}
use Rattle.command_line.proofs.programs.task_on.Goals as goal

pub returns-then-is_operated-clause-given : goal.returns-then-is_operated-clause-given
returns-then-is_operated-clause-given c =
    operated c.args.called c.args.found.now c.args.operands.now c.args.followed c.in_ok-session.session c.if-is_operated.ensures c.in_ok-session.ensures

pub returns-then-is_operated-clause-once : goal.returns-then-is_operated-clause-once
returns-then-is_operated-clause-once c = rw (← c.is_sourced.ensures, ← c.input_names.ensures.given) c.in_ok-inputs.ensures.once

pub read_once-requires : goal.read_once-requires
read_once-requires c = record { names = of_inputs c.args.found.now _ c.input_names.ensures.distinct c.input_names.ensures.no_result }

pub task_of-requires-clause-inputs : goal.task_of-requires-clause-inputs
task_of-requires-clause-inputs c = rw c.deref.ensures.value (beside_result c.args.called c.args.found.now _
    (rw (← c.is_sourced.ensures, ← c.input_names.ensures.given) (of_inputs c.args.found.now _ c.input_names.ensures.distinct c.input_names.ensures.no_result))
    (rw (← c.is_sourced.ensures, ← c.input_names.ensures.given) c.in_ok-inputs.ensures.given))

pub task_of-requires-clause-given : goal.task_of-requires-clause-given
task_of-requires-clause-given c = rw (c.deref.ensures.value, ← c.is_sourced.ensures, ← c.input_names.ensures.given) c.in_ok-inputs.ensures.given

pub returns-clause-once : goal.returns-clause-once
returns-clause-once c = known_anyway c.task_of.result (rw (← c.is_sourced.ensures, ← c.input_names.ensures.given) c.in_ok-inputs.ensures.once)
