use Rattle.std.proofs.Common.{◌∙◌, sym, ap}
use Rattle.wordset.specs.Words.{has_some}
use Rattle.wordset.specs.Lanes.{words}
use Rattle.wordset.specs.Links.{links_of}
use Rattle.wordset.specs.Operate.{accumulator_after, link_after}
use Rattle.wordset.proofs.Cleared.{cleared_same, images_same, one_some, not_none}
use Rattle.wordset.proofs.WordSet.map_operate.Goals as goal

pub returns-then-not-is_empty-clause-words : goal.returns-then-not-is_empty-clause-words
returns-then-not-is_empty-clause-words c = c.map_each.ensures.words ∙ images_same (accumulator_after c.args.word) (words c.one.result) (words c.args.self.now) (links_of c.args.links)
    (λ x l. ap (λ s. s.0) (cleared_same c.args.word x l (sym c.clears.ensures ∙ c.if-clears.true)))
    (ap has_some c.one.ensures ∙ one_some) (not_none (has_some (words c.args.self.now)) (sym c.is_empty.ensures ∙ c.if-not-is_empty.true))

pub returns-then-not-is_empty-clause-links : goal.returns-then-not-is_empty-clause-links
returns-then-not-is_empty-clause-links c = c.map_each.ensures.links ∙ images_same (link_after c.args.word) (words c.one.result) (words c.args.self.now) (links_of c.args.links)
    (λ x l. ap (λ s. s.1) (cleared_same c.args.word x l (sym c.clears.ensures ∙ c.if-clears.true)))
    (ap has_some c.one.ensures ∙ one_some) (not_none (has_some (words c.args.self.now)) (sym c.is_empty.ensures ∙ c.if-not-is_empty.true))
