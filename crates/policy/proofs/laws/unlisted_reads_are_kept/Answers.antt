use Rattle.std.proofs.Common.{inl, sym, subst, Option}
use Rattle.wordset.specs.Words.{Words}
use Rattle.declaration.specs.Declaration.{IsListed}
use Rattle.policy.proofs.laws.unlisted_reads_are_kept.Goals as goal

pub returns : goal.returns
returns c = λ d m s ks none a at. inl (subst (λ (reads : Option Words). IsListed reads a) (sym none) tt)
