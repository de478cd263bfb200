use Rattle.proposer.proofs.judged.Goals as goal

pub returns-in-Err-clause-shown : goal.returns-in-Err-clause-shown
returns-in-Err-clause-shown g c = c.unfound.ensures.shown _ _
