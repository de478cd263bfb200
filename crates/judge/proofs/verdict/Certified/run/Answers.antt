use Rattle.std.proofs.Common.{subst}
use Rattle.std.specs.Prelude.{IfOk, OnErr}
use Rattle.peripherals.specs.World.{view}
use Rattle.policy.specs.Watching.{IsClean, LeadsTo, StepPutsOut, begun}
use Rattle.policy.proofs.TellLemmas.{safe_clean}
use Rattle.judge.specs.Certifying.{Parts, declaration_of, words_of}
use Rattle.judge.proofs.verdict.Certified.run.Goals as goal

pub returns-clause-run : goal.returns-clause-run
returns-clause-run g c =
    subst (λ (p : Parts). IfOk c.run_declared.result (λ world. LeadsTo (declaration_of p) c.args.events.now (begun (words_of p) (declaration_of p) c.args.start.now) (view world)))
    c.self.view_is c.run_declared.ensures.run

pub returns-clause-legal : goal.returns-clause-legal
returns-clause-legal g c =
    let safe = rw (← c.self.view_is) at c.is_safe.ensures.safe in
    subst (λ (p : Parts). IsClean (words_of p) (declaration_of p) c.args.events.now (begun (words_of p) (declaration_of p) c.args.start.now))
    c.self.view_is (safe_clean _ _ c.args.events.now _ c.run_declared.ensures.loaded safe)

pub returns-clause-only_output : goal.returns-clause-only_output
returns-clause-only_output g c =
    subst (λ (p : Parts). OnErr c.run_declared.result (StepPutsOut (declaration_of p) c.args.events.now (begun (words_of p) (declaration_of p) c.args.start.now)))
    c.self.view_is c.run_declared.ensures.only_output
