use Rattle.std.proofs.Common.{◌||◌, ◌∙◌, ap, sym}
use Rattle.wordset.specs.Words.{or_any, ors}
use Rattle.wordset.specs.Lanes.{words}
use Rattle.wordset.proofs.IterLemmas.{none_gathered, image_gathered, all_gathered}
use Rattle.wordset.proofs.WordSet.ors_by_word.Goals as goal
use Rattle.wordset.proofs.Complements.{ors_all}
use Rattle.std.proofs.Math.Path.{fun_ext}

pub returns-then-is_all : goal.returns-then-is_all
returns-then-is_all c = c.or_any.ensures ∙ ap (λ m. or_any m (words c.args.self.now)) c.from_index.ensures
    ∙ ors_all (words c.args.self.now) ∙ ap (ors (words c.args.self.now)) (sym (c.is_all.ensures.0 c.if-is_all.true))

pub loop-word-init : goal.loop-word-init
loop-word-init c = none_gathered c.iter-word-items.ensures c.into_iter-word-iterator.ensures.into_iter_gives (λ v. ap (λ t. t v) c.empty-found.ensures)

pub loop-word-preserved : goal.loop-word-preserved
loop-word-preserved c = image_gathered c.loop-word.invariant c.in-Some.ensures.steps
    (λ v. ap (λ t. t v) c.union-found.ensures ∙ ap (λ p. words c.loop-word.found v || p) (ap (λ t. t v) c.or_word.ensures))

pub returns : goal.returns
returns c = fun_ext (all_gathered c.loop-word.invariant c.in-None.ensures.steps)
