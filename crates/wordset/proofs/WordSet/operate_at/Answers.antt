use Rattle.std.proofs.Common.{◌==◌, ◌||◌, ◌∙◌, ap}
use Rattle.wordset.specs.Lanes.{words}
use Rattle.wordset.specs.Links.{links_of}
use Rattle.wordset.proofs.IterLemmas.{none_gathered, image_gathered, all_gathered}
use Rattle.wordset.proofs.WordSet.operate_at.Goals as goal

pub loop-ac-init : goal.loop-ac-init
loop-ac-init c = record {
  images = none_gathered c.iter-ac-items.ensures c.into_iter-ac-iterator.ensures.into_iter_gives (λ v. ap (λ t. t v) c.empty-found.ensures);
  afters = none_gathered c.iter-ac-items.ensures c.into_iter-ac-iterator.ensures.into_iter_gives (λ k. ap (λ t. t k) c.none-links.ensures);
}

pub loop-ac-preserved : goal.loop-ac-preserved
loop-ac-preserved c = record {
  images = image_gathered c.loop-ac.invariant.images c.in-Some.ensures.steps
      (λ v. ap (λ t. t v) c.insert.ensures ∙ ap (λ p. words c.loop-ac.found v || v == p.0) c.operate1-image.ensures);
  afters = image_gathered c.loop-ac.invariant.afters c.in-Some.ensures.steps
      (λ k. ap (λ t. t k) c.with-links.ensures ∙ ap (λ p. links_of c.loop-ac.links k || k == p.1) c.operate1-image.ensures);
}

pub returns-clause-words : goal.returns-clause-words
returns-clause-words c = all_gathered c.loop-ac.invariant.images c.in-None.ensures.steps

pub returns-clause-links : goal.returns-clause-links
returns-clause-links c = all_gathered c.loop-ac.invariant.afters c.in-None.ensures.steps
