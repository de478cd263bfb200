-- Sets that are kept in brief, and what they mean.
use Rattle.std.specs.Prelude.{ℕ, List}
use Rattle.wordset.specs.Words.{Words, between}
use Rattle.wordset.specs.Lanes.{words}
use Rattle.domain.specs.declared.brief.Representation.{Representation}
use Rattle.domain.specs.declared.brief.Representation.TheVariants.{Row, Whole}
use Rattle.domain.specs.declared.brief.BriefSet.{BriefSet}

-- The words that are kept: those of a row, or those of the set that stands whole beside.
abbrev pub kept_words : Representation → List ℕ → Words
kept_words (Row first last) whole = between first last
kept_words Whole whole = words whole

-- The words that are meant.
abbrev pub brief_words : BriefSet → Words
brief_words b = kept_words b.kept b.whole
