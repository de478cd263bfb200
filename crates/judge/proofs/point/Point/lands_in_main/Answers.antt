use Rattle.std.proofs.Common.{refl, sym, ◌∙◌, subst, arith, None}
use Rattle.domain.specs.Facts.{Fact}
use Rattle.wordset.proofs.IterLemmas.{none_yet, one_more, one_fails, all_pass}
use Rattle.judge.specs.Landing.{LandsAt}
use Rattle.judge.specs.Points.{case_of}
use Rattle.judge.proofs.point.Point.lands_in_main.Goals as goal

pub loop-at-init : goal.loop-at-init
loop-at-init g c = (none_yet c.iter-at-items.ensures c.into_iter-at-iterator.ensures.into_iter_gives, refl)

pub lands-requires : goal.lands-requires
lands-requires g c = (omega arith, (c.requires, c.empty.ensures))

pub loop-at-preserved : goal.loop-at-preserved
loop-at-preserved g c = (
  one_more c.loop-at.invariant.0 c.in-Some.ensures.steps
      (subst (λ (f : Fact). LandsAt (case_of g.C.Claims.claims c.args.self.now) None c.in-Some.at f) c.loop-at.invariant.1 (c.lands.ensures.lands.0 c.if-not-lands.false)),
  c.lands.ensures.kept ∙ c.loop-at.invariant.1,
)

pub returns-then-not-lands : goal.returns-then-not-lands
returns-then-not-lands g c = one_fails _ c.loop-at.invariant.0 c.in-Some.ensures.steps c.if-not-lands.true
    (λ l. c.lands.ensures.lands.1 (subst (λ (f : Fact). LandsAt (case_of g.C.Claims.claims c.args.self.now) None c.in-Some.at f) (sym c.loop-at.invariant.1) l))

pub returns : goal.returns
returns g c = (λ q. all_pass c.loop-at.invariant.0 c.in-None.ensures.steps, λ each. refl)
