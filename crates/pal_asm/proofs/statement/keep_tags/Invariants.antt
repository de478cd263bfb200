use Rattle.std.proofs.Common.{◌≡◌, ◌++◌, length, map}
use Rattle.std.specs.List.{AllByRecursion}
use Rattle.pal_text.specs.Names.{IsWithin}
use Rattle.pal_asm.specs.Acts.{tag_act}
use Rattle.pal_asm.specs.SourceInCode.{names_in}
use Rattle.pal_asm.proofs.statement.keep_tags.Given as goal

abbrev pub invariant-loop-rest : goal.invariant-loop-rest
invariant-loop-rest g l =
    (l.acts ++ map (tag_act l.place l.source) (names_in l.left l.rest) ≡ l.fn.acts ++ map (tag_act l.place l.source) (names_in l.count l.tokens))
    × AllByRecursion (IsWithin (length l.source)) l.rest

abbrev pub decreases-loop-rest : goal.decreases-loop-rest
decreases-loop-rest g l = length l.rest
