use Rattle.std.proofs.Common.{◌≡◌, ℕ, not, sym, ap, ◌∙◌}
use Rattle.std.specs.Prelude.{◌&&◌, if◌then◌else◌}
use Rattle.std.proofs.lemmas.Bool.{false≢true}
use Rattle.instruct.specs.Operates.{skips_of}
use Rattle.wordset.specs.Words.{Words, has_some}
use Rattle.wordset.specs.Lanes.{words}
use Rattle.domain.specs.Facts.{Fact, Rules}
use Rattle.domain.specs.FactInCode.{fact_in_code}
use Rattle.transfer.specs.Operations.{part2, tested, cleared2, may_be}
use Rattle.transfer.proofs.SkipLemmas.{part_is}
use Rattle.transfer.proofs.RowsLemmas.{first_fails, second_fails, both_hold, some_there, none_there}
use Rattle.transfer.proofs.operations.put_branch.Goals as goal

pub returns-then-not-contains-clause-may : goal.returns-then-not-contains-clause-may
returns-then-not-contains-clause-may g c pl e r k =
    first_fails _ _ (sym (c.contains.ensures ∙ ap (λ (s : Words). s c.args.link) c.link.ensures) ∙ c.if-not-contains.true)

pub returns-then-not-contains-clause-fact : goal.returns-then-not-contains-clause-fact
returns-then-not-contains-clause-fact g c pl e r k t = absurd (false≢true t)

pub returns-then-is_empty-clause-may : goal.returns-then-is_empty-clause-may
returns-then-is_empty-clause-may g c pl e r k =
    let same : words c.put_part-part.result.now ≡ part2 pl c.args.word (fact_in_code c.args.fact.now) c.args.link c.args.skip =
    part_is c.put_part-part.result.now c.args.known.now (λ v. if skips_of c.args.word v c.args.link then c.args.skip else not c.args.skip) c.put_part-part.ensures
    ∙ ap (λ (s : Words). λ (v : ℕ). s v && (if skips_of c.args.word v c.args.link then c.args.skip else not c.args.skip)) k in
    second_fails _ _ _ (ap has_some (sym same) ∙ none_there (words c.put_part-part.result.now) c.is_empty.result c.is_empty.ensures c.if-is_empty.true)

pub returns-then-is_empty-clause-fact : goal.returns-then-is_empty-clause-fact
returns-then-is_empty-clause-fact g c pl e r k t = absurd (false≢true t)

pub returns-clause-may : goal.returns-clause-may
returns-clause-may g c pl e r k =
    let f : Fact = fact_in_code c.args.fact.now in
    let same : words c.put_part-part.result.now ≡ part2 pl c.args.word f c.args.link c.args.skip =
    part_is c.put_part-part.result.now c.args.known.now (λ v. if skips_of c.args.word v c.args.link then c.args.skip else not c.args.skip) c.put_part-part.ensures
    ∙ ap (λ (s : Words). λ (v : ℕ). s v && (if skips_of c.args.word v c.args.link then c.args.skip else not c.args.skip)) k in
    c.put_after_test.ensures.may pl e
    ∙ ap (λ (q : Rules). may_be q (tested q pl c.args.word f (words c.put_part-part.result.now) c.args.link)) (sym r)
    ∙ ap (λ (s : Words). may_be pl.rules (tested pl.rules pl c.args.word f s c.args.link)) same
    ∙ both_hold _ _ _ (sym (c.contains.ensures ∙ ap (λ (s : Words). s c.args.link) c.link.ensures) ∙ c.if-not-contains.false)
    (ap has_some (sym same) ∙ some_there (words c.put_part-part.result.now) c.is_empty.result c.is_empty.ensures c.if-is_empty.false)

pub returns-clause-fact : goal.returns-clause-fact
returns-clause-fact g c pl e r k t =
    let f : Fact = fact_in_code c.args.fact.now in
    let same : words c.put_part-part.result.now ≡ part2 pl c.args.word f c.args.link c.args.skip =
    part_is c.put_part-part.result.now c.args.known.now (λ v. if skips_of c.args.word v c.args.link then c.args.skip else not c.args.skip) c.put_part-part.ensures
    ∙ ap (λ (s : Words). λ (v : ℕ). s v && (if skips_of c.args.word v c.args.link then c.args.skip else not c.args.skip)) k in
    c.put_after_test.ensures.fact pl e
    ∙ ap (λ (q : Rules). cleared2 c.args.word (tested q pl c.args.word f (words c.put_part-part.result.now) c.args.link)) (sym r)
    ∙ ap (λ (s : Words). cleared2 c.args.word (tested pl.rules pl c.args.word f s c.args.link)) same
