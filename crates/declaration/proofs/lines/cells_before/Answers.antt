use Rattle.std.proofs.Common.{sym, ◌∙◌}
use Rattle.streams.specs.TextLeft.{words_left}
use Rattle.wordset.specs.Lanes.{words}
use Rattle.declaration.specs.Drafts.{cells_before}
use Rattle.declaration.proofs.LineLemmas.{cells_start, places_step, places_fail, places_end, places_done}
use Rattle.declaration.proofs.lines.cells_before.Goals as goal

pub loop-word-init : goal.loop-word-init
loop-word-init c = cells_start (words c.empty-set.result) (cells_before (words_left c.args.rest)) c.empty-set.ensures

pub loop-word-preserved : goal.loop-word-preserved
loop-word-preserved c =
    places_step (words c.loop-word.set) (words c.union-set.result) (words c.in-Some-address.more) (words_left c.loop-word.words) (words_left c.next.new.self) c.in-Some.word.now _
    c.in-Some.ensures.steps (sym c.is_subject.ensures ∙ c.if-is_subject.false) c.in-Some-address.ensures c.union-set.ensures c.loop-word.invariant

pub returns : goal.returns
returns c = places_done (words c.loop-word.set) (words_left c.loop-word.words) _ (c.in_default.ensures.steps).0 c.loop-word.invariant

pub returns-then-is_subject : goal.returns-then-is_subject
returns-then-is_subject c =
    places_end (words c.loop-word.set) (words_left c.loop-word.words) (words_left c.next.new.self) c.in-Some.word.now _
    c.in-Some.ensures.steps (sym c.is_subject.ensures ∙ c.if-is_subject.true) c.loop-word.invariant

pub returns-in-None : goal.returns-in-None
returns-in-None c =
    places_fail (words c.loop-word.set) (words_left c.loop-word.words) (words_left c.next.new.self) c.in-Some.word.now _
    c.in-Some.ensures.steps (sym c.is_subject.ensures ∙ c.if-is_subject.false) c.in-None.ensures c.loop-word.invariant
