use Rattle.std.proofs.Common.{◌≡◌, List, take, subst}
use Rattle.std.proofs.lemmas.List.{take_all}
use Rattle.declaration.specs.Drafts.{Counts, kept_bodies}
use Rattle.declaration.specs.declared.Routine.{Routine}
use Rattle.declaration.proofs.RuleLemmas.{bodies_start, bodies_step}
use Rattle.declaration.proofs.drafts.bodies.Goals as goal

pub loop-routine-init : goal.loop-routine-init
loop-routine-init c = bodies_start c.none-bodies.result c.add.new.self c.args.main.now c.args.routines.now c.none-bodies.ensures c.add.ensures

pub loop-routine-preserved : goal.loop-routine-preserved
loop-routine-preserved c =
    bodies_step c.loop-routine.bodies c.add-in-loop-routine.new.self c.args.main.now c.args.routines.now c.loop-routine.routine-index c.routine-item.result
    c.loop-routine-test.true c.routine-item.is c.loop-routine.invariant c.add-in-loop-routine.ensures

pub returns : goal.returns
returns c =
    let all : take c.loop-routine.routine-index c.args.routines.now ≡ c.args.routines.now = take_all c.loop-routine.routine-index c.args.routines.now c.loop-routine-test.false in
    subst (λ (rs : List Routine). Counts c.loop-routine.bodies (kept_bodies c.args.main.now rs)) all c.loop-routine.invariant
