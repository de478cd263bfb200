-- What is joined after a call holds.
use Rattle.std.proofs.Common.{◌≡◌, Bool, true, false, [], ◌∷◌, refl, ap, ◌∙◌}
use Rattle.std.specs.Prelude.{if◌then◌else◌}
use Rattle.std.proofs.lemmas.Bool.{not-true, false≢true}
use Rattle.wordset.specs.Words.{Words}
use Rattle.processor.specs.Cells.{Cells}
use Rattle.processor.specs.Machine.{State}
use Rattle.declaration.specs.Declaration.{Declaration}
use Rattle.policy.specs.Calls.{Calls}
use Rattle.domain.specs.Locations.{Location, Ac, Cell, values, has_cell, is_outside}
use Rattle.domain.specs.Facts.{Fact, OwnWord}
use Rattle.domain.specs.Moves.{joined}
use Rattle.domain.specs.Laws.{JoinedParts}
use Rattle.domain.proofs.NarrowingLemmas.{values_are}
use Rattle.domain.proofs.MoveLemmas.{joined_fact_holds, joined_keeps}
use Rattle.facts.specs.Laws.{KeepsOutside, KeepsReturns, JoinedHolds}
use Rattle.facts.proofs.StateLemmas.{stands_like}

-- names outside the written set stand for the same words
name_kept : (d : Declaration) (start : Cells) (written : Words) (s t : State) → KeepsOutside d written s.memory t.memory →
    (n : Location) → is_outside written n ≡ true → values d start t.ac t.memory n ≡ values d start s.ac s.memory n
name_kept d start written s t kept Ac q = absurd (false≢true q)
name_kept d start written s t kept (Cell a) q = go (d.variable a) refl
  where
    go : (b : Bool) → d.variable a ≡ b → (if b then t.memory a else start a) ≡ (if b then s.memory a else start a)
    go true e = kept a e (not-true (has_cell written a) q)
    go false e = refl

joined_own : (f g : Fact) (ks : Calls) (m n : Cells) → g.offsets ≡ f.offsets → KeepsReturns ks m n → OwnWord f m ks → OwnWord g n ks
joined_own f g [] m n e kept o = tt
joined_own f g (k ∷ ks) m n e kept o = (o.0, o.1, ap (λ (x : Words). x o.0) e ∙ o.2, kept ∙ o.3)

-- The law.
pub joined_holds : JoinedHolds
joined_holds pl start call exit written s t ks begun ss ts at_call at_exit mq link rest kept returns =
    let parts : JoinedParts pl.rules call exit written = joined_keeps pl.rules call exit written in
    record {
      holds = joined_fact_holds pl.rules start call exit written (values pl.declaration start s.ac s.memory) (values pl.declaration start t.ac t.memory) s.link t.link begun.words
          (values_are pl.declaration start t.ac t.memory begun.words ts.words ts.ac) (name_kept pl.declaration start written s t kept) at_call.holds at_exit;
      mq = ap (λ (x : Words). x t.mq) parts.mq ∙ mq;
      link = ap (λ (x : Words). x t.link) parts.link ∙ link;
      rest = rest;
      stands = stands_like pl call (joined pl.rules call exit written) ks parts.sites at_call.stands;
      own = joined_own call (joined pl.rules call exit written) ks s.memory t.memory parts.offsets returns at_call.own;
    }
