use Rattle.std.proofs.Common.{refl, sym, ap, ◌∙◌}
use Rattle.wordset.specs.Words.{Words, sums}
use Rattle.wordset.specs.Lanes.{words}
use Rattle.domain.specs.Terms.{Sum}
use Rattle.domain.specs.Facts.{OfSums}
use Rattle.domain.specs.Adding.{adding}
use Rattle.domain.specs.InCode.{term_of, sum_of}
use Rattle.domain.specs.FactInCode.{fact_in_code}
use Rattle.transfer.specs.Additions.{ac_with_rest}
use Rattle.transfer.specs.Shaped.{told}
use Rattle.transfer.proofs.additions.add_brought_by.Goals as goal

pub returns-then-not-is_sign-clause-fact : goal.returns-then-not-is_sign-clause-fact
returns-then-not-is_sign-clause-fact g c = rw (sym c.is_sign.ensures ∙ c.if-not-is_sign.true) refl

pub returns-clause-fact : goal.returns-clause-fact
returns-clause-fact g c =
    rw (sym c.is_sign.ensures ∙ c.if-not-is_sign.false)
    (c.add.ensures.fact ∙ ap (λ (s : Sum). adding OfSums (told s (words c.sums-found.result.0)) (fact_in_code c.args.after.now)) c.accumulator_with_rest.ensures
    ∙ ap (λ (w : Words). adding OfSums (told (ac_with_rest c.args.c (term_of c.args.term.now) (sum_of c.args.sum.now)) w) (fact_in_code c.args.after.now))
    (c.sums-found.ensures.words ∙ ap (λ (s : Words). sums s (words c.args.ac.now)) c.times.ensures))
