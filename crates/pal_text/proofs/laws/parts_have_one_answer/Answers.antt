use Rattle.pal_text.proofs.Unique.{agrees, no_fault, one_line}
use Rattle.pal_text.proofs.Answered.{each_part_is_answered}
use Rattle.pal_text.proofs.laws.parts_have_one_answer.Goals as goal

pub returns-clause-reading : goal.returns-clause-reading
returns-clause-reading c = agrees

pub returns-clause-illegal : goal.returns-clause-illegal
returns-clause-illegal c = one_line

pub returns-clause-either : goal.returns-clause-either
returns-clause-either c = no_fault

pub returns-clause-some : goal.returns-clause-some
returns-clause-some c = each_part_is_answered
