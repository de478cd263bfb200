use Rattle.std.proofs.Common.{sym, ◌∙◌}
use Rattle.judge.specs.Points.{case_of, fact_asked}
use Rattle.judge.specs.Landing.{place_in}
use Rattle.judge.proofs.AskedLemmas.{only_there}
use Rattle.judge.proofs.point.Point.only_word.Goals as goal

pub returns : goal.returns
returns g c = only_there (place_in (case_of g.C.Claims.claims c.args.self.now) c.args.self.now.place.routine) (fact_asked c.args.self.now) c.args.self.now.at c.word_of.result (sym c.is_variable.ensures ∙ c.if-is_variable.false) c.word_of.ensures
