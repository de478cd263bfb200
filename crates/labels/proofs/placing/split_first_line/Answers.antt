use Rattle.labels.proofs.Places.{cut_at, cut_nowhere}
use Rattle.labels.specs.Lines.{is_feed}
use Rattle.labels.proofs.placing.split_first_line.Goals as goal

pub returns-in-Some-clause-lines : goal.returns-in-Some-clause-lines
returns-in-Some-clause-lines c = cut_at is_feed c.args.text.now c.in-Some.end c.in-Some.ensures

pub returns-in-None-clause-lines : goal.returns-in-None-clause-lines
returns-in-None-clause-lines c = cut_nowhere is_feed c.args.text.now c.in-None.ensures
