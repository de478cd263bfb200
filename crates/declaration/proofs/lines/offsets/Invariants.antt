use Rattle.std.proofs.Common.{◌≡◌}
use Rattle.streams.specs.TextLeft.{words_left}
use Rattle.declaration.specs.DeclarationInCode.{offsets_of}
use Rattle.declaration.specs.Lines.{offset_of, all_of}
use Rattle.declaration.proofs.LineLemmas.{with_cells}
use Rattle.declaration.proofs.lines.offsets.Given as goal

-- the offsets so far with those still to be read are all
abbrev pub invariant-loop-word : goal.invariant-loop-word
invariant-loop-word l =
    with_cells (offsets_of l.offsets) (all_of offset_of (words_left l.words)) ≡ all_of offset_of (words_left l.rest)
