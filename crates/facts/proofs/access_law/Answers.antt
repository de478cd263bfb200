use Rattle.facts.proofs.ForeseenLemmas.{reads_are_foreseen, writes_are_foreseen, calls_are_foreseen, words_are_foreseen}
use Rattle.facts.proofs.access_law.Goals as goal

pub returns : goal.returns
returns c = record { reads = reads_are_foreseen; writes = writes_are_foreseen; calls = calls_are_foreseen; words = words_are_foreseen }
