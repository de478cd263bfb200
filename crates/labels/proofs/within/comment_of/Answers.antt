use Rattle.labels.specs.Within.{is_slash_code}
use Rattle.labels.proofs.Places.{after_at, after_nowhere}
use Rattle.labels.proofs.within.comment_of.Goals as goal

pub returns-in-Some : goal.returns-in-Some
returns-in-Some c = after_at is_slash_code c.args.line.now c.in-Some.end c.in-Some.ensures

pub returns-in-None : goal.returns-in-None
returns-in-None c = after_nowhere is_slash_code c.args.line.now c.in-None.ensures
