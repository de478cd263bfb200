use Rattle.declaration.proofs.AnswerLemmas.{one_declaration, one_fault, no_fault, each_is_answered}
use Rattle.declaration.proofs.laws.texts_have_one_answer.Goals as goal

pub returns : goal.returns
returns c = record { declaration = one_declaration; fault = one_fault; either = no_fault; some = each_is_answered }
