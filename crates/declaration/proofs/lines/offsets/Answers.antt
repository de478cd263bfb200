use Rattle.streams.specs.TextLeft.{words_left}
use Rattle.wordset.specs.Words.{one}
use Rattle.declaration.specs.DeclarationInCode.{offsets_of}
use Rattle.declaration.specs.Lines.{offset_of}
use Rattle.declaration.proofs.LineLemmas.{cells_step, cells_fail, cells_end, one_offset}
use Rattle.declaration.proofs.lines.offsets.Goals as goal

pub loop-word-preserved : goal.loop-word-preserved
loop-word-preserved c =
    cells_step offset_of (offsets_of c.loop-word.offsets) (offsets_of c.insert.new.self) (one c.in-Some-offset.at) (words_left c.loop-word.words) (words_left c.next.new.self) c.in-Some.word.now _
    c.in-Some.ensures.steps c.in-Some-offset.ensures.value (one_offset (offsets_of c.loop-word.offsets) (offsets_of c.insert.new.self) c.in-Some-offset.at c.insert.ensures) c.loop-word.invariant

pub returns : goal.returns
returns c = cells_end offset_of (offsets_of c.loop-word.offsets) (words_left c.loop-word.words) _ (c.in_default.ensures.steps).0 c.loop-word.invariant

pub returns-in-None : goal.returns-in-None
returns-in-None c =
    cells_fail offset_of (offsets_of c.loop-word.offsets) (words_left c.loop-word.words) (words_left c.next.new.self) c.in-Some.word.now _
    c.in-Some.ensures.steps c.in-None.ensures.value c.loop-word.invariant
