-- Where the expressions of acts lie in memory, for private contracts.
use Rattle.std.specs.Prelude.{ℕ, ◌≤◌, List, slice_range}
use Rattle.pal_acts.specs.declared.act.SignedTerm.{SignedTerm}
use Rattle.pal_acts.specs.declared.acts.StoredAct.{StoredAct}
use Rattle.pal_acts.specs.Acts.{PlacedAct, placed}

-- The act that is kept so, where these are the terms of all expressions.
abbrev pub kept_act : List SignedTerm → StoredAct → PlacedAct
kept_act js k = placed k.place (slice_range js k.span.first k.span.last) k.act

-- An expression lies among so many terms.
pub record LiesWithin (n : ℕ) (k : StoredAct) : Type 0 where
  pub forward : k.span.first ≤ k.span.last
  pub inside : k.span.last ≤ n
