use Rattle.std.proofs.Common.{◌∙◌, ◌++◌, ◌∷◌, [], ap, sym, subst, ◌<◌, arith}
use Rattle.wordset.specs.Words.{Words}
use Rattle.domain.specs.Terms.{Sum}
use Rattle.domain.specs.InCode.{sum_of}
use Rattle.domain.specs.FactInCode.{fact_in_code}
use Rattle.certificate_lines.specs.Runs.{set_at}
use Rattle.certificate_lines.proofs.AddingLemmas.{row_there}
use Rattle.certificate_lines.proofs.SumAddingLemmas.{one_row}
use Rattle.certificate_lines.proofs.packed.load.relate.Goals as goal

pub returns-then-index-last-clause-fact : goal.returns-then-index-last-clause-fact
returns-then-index-last-clause-fact c =
    c.relate_one.ensures.fact ∙
    (ap (λ (set : Words). record (fact_in_code c.args.fact.now) {
      relations = (fact_in_code c.args.fact.now).relations ++ record { sum = sum_of c.unpacked-sum.result; set = set } ∷ [];
    }) (sym (one_row c.index-runs-0.result.first c.index-runs-0.result.last (omega (arith, c.if-index-last.true, c.index.ensures.same, c.index-last.ensures.same))) ∙
    sym (row_there c.args.runs.now 0 c.args.count c.index-runs-0.result c.if-count-eq1.true (omega (arith, c.requires.within)) c.index-runs-0.is
    (subst (λ n. n < 4096) c.index-last.ensures.same c.if-prove.false))) ∙
    ap (λ (s : Sum). record (fact_in_code c.args.fact.now) {
      relations = (fact_in_code c.args.fact.now).relations ++ record { sum = s; set = set_at c.args.runs.now 0 c.args.count } ∷ [];
    }) c.unpacked-sum.ensures)

pub returns-clause-fact : goal.returns-clause-fact
returns-clause-fact c =
    c.relate_several.ensures.fact ∙ ap (λ (s : Sum). record (fact_in_code c.args.fact.now) {
      relations = (fact_in_code c.args.fact.now).relations ++ record { sum = s; set = set_at c.args.runs.now 0 c.args.count } ∷ [];
    }) c.unpacked-sum.ensures
