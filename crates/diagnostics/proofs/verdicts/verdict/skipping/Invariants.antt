use Rattle.std.proofs.Common.{◌==◌, ◌&&◌}
use Rattle.std.specs.Prelude.{nat_lt}
use Rattle.wordset.specs.Words.{nothing, some_below}
use Rattle.wordset.specs.Lanes.{words}
use Rattle.wordset.proofs.IterLemmas.{Gathered}
use Rattle.declaration.specs.DeclarationInCode.{meaning}
use Rattle.diagnostics.proofs.verdicts.verdict.skipping.Given as goal

-- those of the entries so far
abbrev pub invariant-loop-entry : goal.invariant-loop-entry
invariant-loop-entry g l =
    Gathered (λ e v. (v == e) && some_below 64 (λ o. nat_lt 7 o && (meaning l.declaration).offset e o)) (words l.fn.entries) nothing (words l.found) l.entry-iterator
