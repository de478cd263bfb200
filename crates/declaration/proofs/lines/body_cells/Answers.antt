use Rattle.std.proofs.Common.{refl, ◌∙◌, sym}
use Rattle.streams.specs.TextLeft.{words_left}
use Rattle.wordset.specs.Lanes.{words}
use Rattle.declaration.specs.Drafts.{ranges_before}
use Rattle.declaration.proofs.LineLemmas.{cells_start, body_step, body_end, after_other, after_returns}
use Rattle.declaration.proofs.lines.body_cells.Goals as goal

pub loop-word-init : goal.loop-word-init
loop-word-init c = record {
  cells = cells_start (words c.empty-set.result) (ranges_before (words_left c.args.rest.now)) c.empty-set.ensures;
  rest = refl;
}

pub loop-word-preserved : goal.loop-word-preserved
loop-word-preserved c = record {
  cells = body_step (words c.loop-word.set) (words c.union-set.result) (words c.in-Some-range.more) (words_left c.loop-word.rest) (words_left c.next.new.self) c.in-Some.word.now _
      c.in-Some.ensures.steps (sym c.is.ensures ∙ c.if-is.false) c.in-Some-range.ensures c.union-set.ensures c.loop-word.invariant.cells;
  rest = sym (after_other (words_left c.loop-word.rest) (words_left c.next.new.self) c.in-Some.word.now c.in-Some.ensures.steps (sym c.is.ensures ∙ c.if-is.false)) ∙ c.loop-word.invariant.rest;
}

pub returns-then-is-clause-cells : goal.returns-then-is-clause-cells
returns-then-is-clause-cells c =
    body_end (words c.loop-word.set) (words_left c.loop-word.rest) (words_left c.next.new.self) c.in-Some.word.now _
    c.in-Some.ensures.steps (sym c.is.ensures ∙ c.if-is.true) c.loop-word.invariant.cells

pub returns-then-is-clause-rest : goal.returns-then-is-clause-rest
returns-then-is-clause-rest c =
    sym (after_returns (words_left c.loop-word.rest) (words_left c.next.new.self) c.in-Some.word.now c.in-Some.ensures.steps (sym c.is.ensures ∙ c.if-is.true)) ∙ c.loop-word.invariant.rest
