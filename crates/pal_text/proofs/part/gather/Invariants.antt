use Rattle.std.proofs.Common.{◌≡◌, length}
use Rattle.pal_text.specs.Names.{part_tokens}
use Rattle.pal_text.specs.Readers.{rest}
use Rattle.pal_text.proofs.Cuts.{Reached, Held}
use Rattle.pal_text.proofs.part.gather.Given as goal

abbrev pub invariant-loop-found : goal.invariant-loop-found
invariant-loop-found g l =
    (l.reader.source ≡ l.fn.reader.source)
    × Reached (part_tokens l.fn.reader.source) (length l.fn.reader.source) l.reader.count l.reader.close l.statements.items
    × Held l.fn.reader.source l.reader.count l.tokens.items l.statements.items

abbrev pub decreases-loop-found : goal.decreases-loop-found
decreases-loop-found g l = length (rest l.fn.reader.source l.reader.count)
