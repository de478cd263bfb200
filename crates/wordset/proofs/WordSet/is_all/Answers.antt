use Rattle.std.proofs.Common.{◌∙◌, ap, sym}
use Rattle.wordset.specs.Words.{all_words}
use Rattle.wordset.proofs.WordSet.is_all.Goals as goal
use Rattle.wordset.proofs.SetLemmas.{same_words, words_are, all_past, lt_to}

pub returns : goal.returns
returns c = (
  λ t. words_are c.args.self.now all_words all_past (λ v h. c.is_subset.ensures.0 t v h (same_words c.all.ensures v h ∙ lt_to v h) ∙ sym (lt_to v h)),
  λ same. c.is_subset.ensures.1 (λ v h e. ap (λ s. s v) same ∙ lt_to v h),
)
