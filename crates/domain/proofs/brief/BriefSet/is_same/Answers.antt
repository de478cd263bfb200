use Rattle.std.proofs.Common.{refl, sym, ◌∙◌, ap}
use Rattle.wordset.specs.Words.{Words}
use Rattle.domain.specs.Brief.{brief_words}
use Rattle.wordset.proofs.Tests.{true_false}
use Rattle.domain.proofs.BriefLemmas.{same_if}
use Rattle.domain.proofs.brief.BriefSet.is_same.Goals as goal

pub returns-then-is_same_row : goal.returns-then-is_same_row
returns-then-is_same_row c = (λ t v h. ap (λ (s : Words). s v) (c.is_same_row.ensures c.if-is_same_row.true), λ same. refl)

pub returns-then-not-is_subset : goal.returns-then-not-is_subset
returns-then-not-is_subset c = (λ t. absurd (true_false (sym t)), λ same. sym c.if-not-is_subset.true ∙ c.is_subset.ensures.1 (λ v h has. sym (same v h) ∙ has))

pub returns : goal.returns
returns c = (
  λ t v h. same_if (brief_words c.args.self.now v) (brief_words c.args.other.now v) (c.is_subset.ensures.0 c.if-not-is_subset.false v h) (c.is_subset-2.ensures.0 t v h),
  λ same. c.is_subset-2.ensures.1 (λ v h has. same v h ∙ has),
)
