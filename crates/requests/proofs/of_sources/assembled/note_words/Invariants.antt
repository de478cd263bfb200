use Rattle.std.proofs.Common.{length}
use Rattle.requests.proofs.of_sources.assembled.note_words.Given as goal

abbrev pub decreases-loop-rest : goal.decreases-loop-rest
decreases-loop-rest l = length l.rest
