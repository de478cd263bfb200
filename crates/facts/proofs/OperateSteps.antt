-- The steps by device words and operate words.
use Rattle.std.proofs.Common.{◌≡◌, ℕ, ◌<◌, Bool, true, false, refl}
use Rattle.std.specs.Prelude.{bit_or}
use Rattle.std.proofs.lemmas.Bool.{eq-eqb}
use Rattle.instruct.specs.Operates.{MqOperate, Mql, Mqa, Swp, Cam, ClaMqa, ClaSwp, mq_operate}
use Rattle.instruct.specs.Instructions.{Skips}
use Rattle.wordset.specs.Words.{plus, Words, all_words, one, ors}
use Rattle.processor.specs.Cells.{Cells}
use Rattle.processor.specs.Machine.{State, next_pc}
use Rattle.declaration.specs.Declaration.{IsDeclared}
use Rattle.policy.specs.Calls.{Calls}
use Rattle.domain.specs.Locations.{Ac}
use Rattle.domain.specs.Facts.{Fact, Place, Means}
use Rattle.domain.specs.Moves.{taking}
use Rattle.domain.specs.Laws.{IsBegun}
use Rattle.domain.proofs.Numbers.{plus_lt}
use Rattle.domain.proofs.MoveLemmas.{taking_holds}
use Rattle.facts.specs.States.{IsState}
use Rattle.transfer.specs.Outcomes.{ac_of, goes, with_mq}
use Rattle.transfer.specs.Operations.{operated3, device_outcomes}
use Rattle.facts.specs.Laws.{LandsIn, SomeOutcome}
use Rattle.facts.proofs.WordLemmas.{has_all, ors_true, mq_words}
use Rattle.facts.proofs.StateLemmas.{ac_values, some_left, some_right, vals, means_like, same_step, ac_true, goes_to}

module _ (pl : Place) (dd : IsDeclared pl.declaration) (start : Cells) (begun : IsBegun pl.image start) where
  -- the accumulator takes a word of the set, and nothing else changes
  pub ac_means : (f : Fact) (s : State) (ks : Calls) (set : Words) (ac pc : ℕ) → Means pl start f s ks → set ac ≡ true →
      Means pl start (taking Ac set f) (record s { ac = ac; link = s.link; pc = pc }) ks
  ac_means f s ks set ac pc h e =
      means_like pl dd start begun f (taking Ac set f) s ks ac s.link s.mq pc h
      (taking_holds Ac set start f (vals pl dd start begun s.ac s.memory) (vals pl dd start begun ac s.memory) s.link (ac_values pl.declaration start s.ac ac s.memory) e h.holds)
      h.mq h.link refl refl

  -- ---- device words

  pub go_step : (f : Fact) (s : State) (ks : Calls) (pc : ℕ) → IsState s → pc < 4096 → Means pl start f s ks →
      SomeOutcome (LandsIn pl start (record s { pc = pc }) ks) (goes pl all_words f all_words (one pc) f)
  go_step f s ks pc ss lt h =
      goes_to pl dd start begun all_words all_words (one pc) f f s (record s { pc = pc }) ks ss
      (record { ac = ss.ac; link = ss.link; mq = ss.mq; pc = lt; words = ss.words }) h (same_step pl dd start begun f s ks pc h) has_all has_all (eq-eqb pc pc refl)

  pub skip_step : (f : Fact) (s : State) (ks : Calls) (skip : Bool) → IsState s → Means pl start f s ks →
      SomeOutcome (LandsIn pl start (record s { pc = next_pc s.pc skip }) ks) (device_outcomes pl s.pc f Skips)
  skip_step f s ks true ss h = some_right (LandsIn pl start (record s { pc = plus s.pc 2 }) ks) (goes pl all_words f all_words (one (plus s.pc 1)) f) _ (go_step f s ks (plus s.pc 2) ss (plus_lt s.pc 2) h)
  skip_step f s ks false ss h = some_left (LandsIn pl start (record s { pc = plus s.pc 1 }) ks) _ _ (go_step f s ks (plus s.pc 1) ss (plus_lt s.pc 1) h)

  -- the accumulator takes a word of the set
  pub ac_step : (f : Fact) (s : State) (ks : Calls) (set : Words) (ac : ℕ) → IsState s → Means pl start f s ks → ac < 4096 → set ac ≡ true →
      SomeOutcome (LandsIn pl start (record s { ac = ac; pc = plus s.pc 1 }) ks) (goes pl all_words f all_words (one (plus s.pc 1)) (taking Ac set f))
  ac_step f s ks set ac ss h lt e =
      goes_to pl dd start begun all_words all_words (one (plus s.pc 1)) f (taking Ac set f) s (record s { ac = ac; pc = plus s.pc 1 }) ks ss
      (record { ac = lt; link = ss.link; mq = ss.mq; pc = plus_lt s.pc 1; words = ss.words }) h (ac_means f s ks set ac (plus s.pc 1) h e) has_all has_all (eq-eqb (plus s.pc 1) (plus s.pc 1) refl)

  -- ---- group 3

  mq_means : (f : Fact) (s : State) (ks : Calls) (set : Words) (mq : ℕ) → Means pl start f s ks → set mq ≡ true → Means pl start (with_mq set f) (record s { mq = mq }) ks
  mq_means f s ks set mq h e = record {
    holds = record { sets = h.holds.sets; relations = h.holds.relations; chains = h.holds.chains };
    mq = e;
    link = h.link;
    rest = h.rest;
    stands = h.stands;
    own = h.own;
  }

  abbrev pub exchanged_state : MqOperate → State → State
  exchanged_state o s = record s { ac = (mq_operate o (s.ac, s.mq)).0; mq = (mq_operate o (s.ac, s.mq)).1; pc = plus s.pc 1 }

  operated3_means : (o : MqOperate) (f : Fact) (s : State) (ks : Calls) → IsState s → Means pl start f s ks → Means pl start (operated3 o (ac_of pl f) f) (exchanged_state o s) ks
  operated3_means Mql f s ks ss h =
      mq_means (taking Ac (one 0) f) (record s { ac = 0; pc = plus s.pc 1 }) ks (ac_of pl f) s.ac
      (ac_means f s ks (one 0) 0 (plus s.pc 1) h refl) (ac_true pl dd start begun f s ks ss h)
  operated3_means Mqa f s ks ss h =
      ac_means f s ks (ors (ac_of pl f) f.mq) (bit_or s.ac s.mq) (plus s.pc 1) h (ors_true (ac_of pl f) f.mq s.ac s.mq ss.ac ss.mq (ac_true pl dd start begun f s ks ss h) h.mq)
  operated3_means Swp f s ks ss h =
      mq_means (taking Ac f.mq f) (record s { ac = s.mq; pc = plus s.pc 1 }) ks (ac_of pl f) s.ac
      (ac_means f s ks f.mq s.mq (plus s.pc 1) h h.mq) (ac_true pl dd start begun f s ks ss h)
  operated3_means Cam f s ks ss h =
      mq_means (taking Ac (one 0) f) (record s { ac = 0; pc = plus s.pc 1 }) ks (one 0) 0
      (ac_means f s ks (one 0) 0 (plus s.pc 1) h refl) refl
  operated3_means ClaMqa f s ks ss h = ac_means f s ks f.mq s.mq (plus s.pc 1) h h.mq
  operated3_means ClaSwp f s ks ss h =
      mq_means (taking Ac f.mq f) (record s { ac = s.mq; pc = plus s.pc 1 }) ks (one 0) 0
      (ac_means f s ks f.mq s.mq (plus s.pc 1) h h.mq) refl

  pub operate3_step : (o : MqOperate) (f : Fact) (s : State) (ks : Calls) → IsState s → Means pl start f s ks →
      SomeOutcome (LandsIn pl start (exchanged_state o s) ks) (goes pl all_words f all_words (one (plus s.pc 1)) (operated3 o (ac_of pl f) f))
  operate3_step o f s ks ss h =
      goes_to pl dd start begun all_words all_words (one (plus s.pc 1)) f (operated3 o (ac_of pl f) f) s (exchanged_state o s) ks ss
      (record { ac = (mq_words o s.ac s.mq ss.ac ss.mq).0; link = ss.link; mq = (mq_words o s.ac s.mq ss.ac ss.mq).1; pc = plus_lt s.pc 1; words = ss.words })
      h (operated3_means o f s ks ss h) has_all has_all (eq-eqb (plus s.pc 1) (plus s.pc 1) refl)
