use Rattle.std.proofs.Common.{◌≡◌, length}
use Rattle.pal_text.specs.Grammar.{is_terms}
use Rattle.pal_text.proofs.grammar.terms.Given as goal

abbrev pub invariant-loop-rest : goal.invariant-loop-rest
invariant-loop-rest l = is_terms l.tokens ≡ is_terms l.rest

abbrev pub decreases-loop-rest : goal.decreases-loop-rest
decreases-loop-rest l = length l.rest
