use Rattle.std.proofs.Common.{ap, ◌∙◌}
use Rattle.std.proofs.Math.Path.{fun_ext}
use Rattle.wordset.specs.Words.{Words}
use Rattle.wordset.specs.Lanes.{words}
use Rattle.wordset.proofs.IterLemmas.{none_gathered, image_gathered, all_gathered}
use Rattle.transfer.proofs.CarryingLemmas.{gathered_sums}
use Rattle.transfer.proofs.carrying.each_without_carry.Goals as goal

pub loop-word-init : goal.loop-word-init
loop-word-init c = none_gathered c.iter-word-items.ensures c.into_iter-word-iterator.ensures.into_iter_gives (λ v. ap (λ (s : Words). s v) c.empty-found.ensures)

pub loop-word-preserved : goal.loop-word-preserved
loop-word-preserved c = image_gathered c.loop-word.invariant c.in-Some.ensures.steps (λ v. ap (λ (s : Words). s v) c.add_without_carry.ensures)

pub returns : goal.returns
returns c = fun_ext (λ v. all_gathered c.loop-word.invariant c.in-None.ensures.steps v ∙ gathered_sums 0 v (words c.args.a.now) (words c.args.b.now))
