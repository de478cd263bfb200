use Rattle.judge.proofs.TrueLemmas.{programs_are_safe, unlisted_reads_are_free, unasserted_is_free}
use Rattle.judge.proofs.headline.Goals as goal

pub returns : goal.returns
returns c = record { safe = programs_are_safe; reads = unlisted_reads_are_free; assertions = unasserted_is_free }
