use Rattle.std.proofs.Common.{◌≡◌, map, take, drop, length, false}
use Rattle.std.specs.List.{AllByRecursion, list_any}
use Rattle.source_commands.specs.SourceTexts.{AreRead, EachTakesAtMost, IsShort, is_bad_number}
use Rattle.source_commands.proofs.SourceLemmas.{AreEnded}
use Rattle.source_commands.proofs.sources.read_parts.Given as goal

abbrev pub invariant-loop-source : goal.invariant-loop-source
invariant-loop-source g l =
    AreRead (map g.R.ByteSource.remaining (take l.source-index l.initial.sources)) (map (λ part. part.items) l.parts.items)
    × AllByRecursion IsShort (map (λ part. part.items) l.parts.items)
    × (list_any g.R.ByteSource.mark (take l.source-index l.sources) ≡ false)
    × AllByRecursion (λ source. g.R.ByteSource.mark source ≡ false) (drop l.source-index l.sources)
    × (drop l.source-index l.sources ≡ drop l.source-index l.initial.sources)
    × (is_bad_number (length l.initial.sources) ≡ false)
    × EachTakesAtMost 65537 (map g.R.ByteSource.remaining l.initial.sources) (map g.R.ByteSource.remaining l.sources)
    × AreEnded (map g.R.ByteSource.remaining (take l.source-index l.initial.sources)) (map g.R.ByteSource.remaining (take l.source-index l.sources))
