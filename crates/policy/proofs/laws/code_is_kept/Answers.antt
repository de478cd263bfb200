use Rattle.policy.proofs.LawLemmas.{code_is_kept, steps_keep_code}
use Rattle.policy.proofs.laws.code_is_kept.Goals as goal

pub returns : goal.returns
returns c = record { steps = steps_keep_code; told = code_is_kept }
