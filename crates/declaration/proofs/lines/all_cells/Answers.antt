use Rattle.streams.specs.TextLeft.{words_left}
use Rattle.wordset.specs.Lanes.{words}
use Rattle.declaration.specs.Lines.{all_of}
use Rattle.declaration.specs.Drafts.{cells_read}
use Rattle.declaration.proofs.LineLemmas.{cells_start, cells_step, cells_fail, cells_end}
use Rattle.declaration.proofs.lines.all_cells.Goals as goal

pub loop-word-init : goal.loop-word-init
loop-word-init c = cells_start (words c.empty-set.result) (all_of (cells_read c.args.form) (words_left c.args.rest)) c.empty-set.ensures

pub loop-word-preserved : goal.loop-word-preserved
loop-word-preserved c =
    cells_step (cells_read c.args.form) (words c.loop-word.set) (words c.union-set.result) (words c.in-Some-cells.more) (words_left c.loop-word.words) (words_left c.next.new.self) c.in-Some.word.now _
    c.in-Some.ensures.steps c.in-Some-cells.ensures c.union-set.ensures c.loop-word.invariant

pub returns : goal.returns
returns c = cells_end (cells_read c.args.form) (words c.loop-word.set) (words_left c.loop-word.words) _ (c.in_default.ensures.steps).0 c.loop-word.invariant

pub returns-in-None : goal.returns-in-None
returns-in-None c =
    cells_fail (cells_read c.args.form) (words c.loop-word.set) (words_left c.loop-word.words) (words_left c.next.new.self) c.in-Some.word.now _
    c.in-Some.ensures.steps c.in-None.ensures c.loop-word.invariant
