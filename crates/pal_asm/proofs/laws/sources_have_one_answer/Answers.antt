use Rattle.pal_asm.proofs.One.{means_one, means_sound, faults_one}
use Rattle.pal_asm.proofs.Answered.{each_source_is_answered}
use Rattle.pal_asm.proofs.laws.sources_have_one_answer.Goals as goal

pub returns : goal.returns
returns c = record { meaning = means_one; fault = faults_one; either = means_sound; some = each_source_is_answered }
