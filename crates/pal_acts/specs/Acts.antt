-- What a source does: acts, each with the place where it stands.
use Rattle.std.specs.Prelude.{ℕ, List, map, slice_range}
use Rattle.pal_acts.specs.declared.act.Act.{Act}
use Rattle.pal_acts.specs.declared.act.SignedTerm.{SignedTerm}
use Rattle.pal_acts.specs.declared.act.SourcePlace.{SourcePlace}
use Rattle.pal_acts.specs.declared.acts.SourceAct.{SourceAct}
use Rattle.pal_acts.specs.declared.acts.StoredAct.{StoredAct}

-- An act, where it stands, and the terms of its expression; none if it has no expression.
pub record PlacedAct : Type 0 where
  pub place : SourcePlace
  pub terms : List SignedTerm
  pub act : Act

-- An act with its place and the terms of its expression, which are none if it has no expression.
abbrev pub placed : SourcePlace → List SignedTerm → Act → PlacedAct
placed p e a = record { place = p; terms = e; act = a }

-- The place of a part's line, both counted from 1.
abbrev pub place : ℕ → ℕ → SourcePlace
place part line = record { part = part; line = line }

-- The act that is lent so.
abbrev pub shown : SourceAct → PlacedAct
shown a = placed a.place a.terms.now a.act

-- The acts that are kept so, where these are the terms of all expressions.
abbrev pub acts_in : List SignedTerm → List StoredAct → List PlacedAct
acts_in js ks = map (λ k. placed k.place (slice_range js k.span.first k.span.last) k.act) ks
