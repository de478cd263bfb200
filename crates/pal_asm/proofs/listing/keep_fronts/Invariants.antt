use Rattle.std.proofs.Common.{◌≡◌, ◌++◌, drop}
use Rattle.pal_asm.specs.SourceInCode.{lines_in, lines_of_fronts}
use Rattle.pal_asm.proofs.listing.keep_fronts.Given as goal

abbrev pub invariant-loop-front : goal.invariant-loop-front
invariant-loop-front g l = lines_in l.kept.items ++ lines_of_fronts (drop l.front-index l.fronts) ≡ lines_of_fronts l.fronts
