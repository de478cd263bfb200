use Rattle.instruct.proofs.KindLemmas.{group1_meaning, group2_meaning, group3_meaning_of, device_meaning_of, undefined_meaning}
use Rattle.instruct.proofs.laws.kinds_tell_meanings.Goals as goal

pub returns : goal.returns
returns c = record { group1 = group1_meaning; group2 = group2_meaning; group3 = group3_meaning_of; iot = device_meaning_of; unsupported = undefined_meaning }
