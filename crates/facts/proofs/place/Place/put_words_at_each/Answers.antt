use Rattle.std.proofs.Common.{◌∙◌, ap}
use Rattle.std.specs.Prelude.{◌||◌}
use Rattle.std.proofs.Math.Path.{fun_ext}
use Rattle.wordset.specs.Words.{Words}
use Rattle.wordset.specs.Lanes.{words}
use Rattle.wordset.proofs.IterLemmas.{none_gathered, image_gathered, all_gathered}
use Rattle.facts.proofs.place.Place.put_words_at_each.Goals as goal

pub loop-cell-init : goal.loop-cell-init
loop-cell-init g c = none_gathered c.iter-cell-items.ensures c.into_iter-cell-iterator.ensures.into_iter_gives (λ v. ap (λ (s : Words). s v) c.empty.ensures)

pub loop-cell-preserved : goal.loop-cell-preserved
loop-cell-preserved g c = image_gathered c.loop-cell.invariant c.in-Some.ensures.steps
    (λ v. ap (λ (s : Words). s v) c.union.ensures ∙ ap (λ (s : Words). words c.loop-cell.place v || s v) c.put_words_in.ensures)

pub returns : goal.returns
returns g c = fun_ext (all_gathered c.loop-cell.invariant c.in-None.ensures.steps)
