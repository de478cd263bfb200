use Rattle.std.proofs.Common.{◌≡◌, List, take, subst}
use Rattle.std.proofs.lemmas.List.{take_all}
use Rattle.declaration.specs.Drafts.{Counts, kept_entries}
use Rattle.declaration.specs.declared.Routine.{Routine}
use Rattle.declaration.proofs.RuleLemmas.{entries_step}
use Rattle.declaration.proofs.drafts.entries.Goals as goal

pub loop-routine-init : goal.loop-routine-init
loop-routine-init c = c.none-entries.ensures

pub loop-routine-preserved : goal.loop-routine-preserved
loop-routine-preserved c =
    entries_step c.loop-routine.entries c.add.new.self c.args.routines.now c.loop-routine.routine-index c.routine-item.result c.one.result
    c.loop-routine-test.true c.routine-item.is c.one.ensures c.loop-routine.invariant c.add.ensures

pub returns : goal.returns
returns c =
    let all : take c.loop-routine.routine-index c.args.routines.now ≡ c.args.routines.now = take_all c.loop-routine.routine-index c.args.routines.now c.loop-routine-test.false in
    subst (λ (rs : List Routine). Counts c.loop-routine.entries (kept_entries rs)) all c.loop-routine.invariant
