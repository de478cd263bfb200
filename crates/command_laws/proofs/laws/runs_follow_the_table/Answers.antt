use Rattle.command_laws.proofs.TableLaws.{follows_the_table}
use Rattle.command_laws.proofs.laws.runs_follow_the_table.Goals as goal

pub returns : goal.returns
returns c = follows_the_table c.events_are_runs.ensures
