use Rattle.std.proofs.Common.{◌∙◌, sym, ap}
use Rattle.std.proofs.lemmas.Bool.{eqb-true}
use Rattle.wordset.specs.Lanes.{words}
use Rattle.wordset.specs.Words.{Words, meet, between}
use Rattle.domain.proofs.BriefLemmas.{one_row}
use Rattle.domain.proofs.brief.keep_row.Goals as goal

pub returns-then-eq : goal.returns-then-eq
returns-then-eq c = c.keep_one.ensures ∙ ap (λ (x : Words). meet (words c.args.set.now) x) (sym (one_row c.args.first) ∙ ap (λ l. between c.args.first l) (eqb-true c.args.first c.args.last (sym c.if-eq.ensures)))
