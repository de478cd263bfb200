use Rattle.judge.proofs.ReadingLemmas.{one_case}
use Rattle.judge.proofs.laws.texts_are_judged_alike.Goals as goal

pub returns : goal.returns
returns c = one_case
