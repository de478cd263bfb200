use Rattle.std.proofs.Common.{sym}
use Rattle.search_commands.proofs.AddingLemmas.{fails_with}
use Rattle.search_commands.proofs.AssertingLemmas.{same_sets, within_same}
use Rattle.search_commands.proofs.asserting.is_same_set.Goals as goal

pub returns-then-not-is_subset : goal.returns-then-not-is_subset
returns-then-not-is_subset c = fails_with _ c.if-not-is_subset.true c.is_subset.ensures.1 (within_same _ _)

pub returns : goal.returns
returns c = (
  λ t. same_sets _ _ (c.is_subset.ensures.0 c.if-not-is_subset.false) (c.is_subset-2.ensures.0 t),
  λ same. c.is_subset-2.ensures.1 (within_same _ _ (sym same)),
)
