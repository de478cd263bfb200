-- The step law, over all instructions.
use Rattle.std.proofs.Common.{◌≡◌, ℕ, ◌+◌, ◌*◌, ◌/◌, ◌%◌, ◌<◌, ◌==◌, Bool, true, false, ◌&&◌, ◌⊎◌, Option, Some, None, [], ◌∷◌, refl, sym, ◌∙◌, subst, inl, inr, arith, lit<}
use Rattle.std.specs.Prelude.{if◌then◌else◌, nat_lt, bit_or}
use Rattle.std.proofs.lemmas.Bool.{and_parts, and_from, cond_both, false_from_ne_true, lt-ltb, eqb-true, eq-eqb, true≢false, false≢true}
use Rattle.instruct.specs.declared.Profile.{Profile}
use Rattle.instruct.specs.declared.Profile.TheVariants.{Pdp8I, Pdp8E}
use Rattle.instruct.specs.Bits.{has_bit, named_cell}
use Rattle.instruct.specs.Operates.{is_halt, MqOperate, mq_operate_of}
use Rattle.instruct.specs.Instructions.{Meaning, And, Tad, Isz, Dca, Jms, Jmp, Group1, Group2, Group3, Device, Undefined, DeviceAction, Skips, Ors, Clears, Takes, Leaves, device_action, device_meaning, is_group1, mq_meaning, group3_meaning, operate_meaning, meaning_of}
use Rattle.wordset.specs.Words.{plus, one, or_any}
use Rattle.processor.specs.Cells.{Cells, updated}
use Rattle.processor.specs.Machine.{State, Answer, Answers, seen, place, steps_pointer, next_pc, Does, instruction}
use Rattle.declaration.specs.Declaration.{IsDeclared}
use Rattle.policy.specs.Calls.{Calls}
use Rattle.policy.specs.Runs.{GoesOn}
use Rattle.domain.specs.Locations.{is_routine}
use Rattle.domain.specs.Facts.{Fact, Place, Rules, OfEquations, OfSums, StandsIn, Means}
use Rattle.domain.specs.Moves.{counted}
use Rattle.domain.specs.Laws.{IsBegun}
use Rattle.domain.proofs.Numbers.{plus_lt}
use Rattle.facts.specs.States.{IsState, TopIsEntry, IsOrdinary}
use Rattle.transfer.specs.References.{stepped, targets}
use Rattle.facts.specs.Conditions.{may_write, WritesAreDeclared, MayCount, AreInReach, EntriesAreKept}
use Rattle.transfer.specs.Outcomes.{ac_of}
use Rattle.transfer.specs.Operations.{ac_after, link_after, all_operated2, outcomes_of}
use Rattle.facts.specs.Laws.{LandsIn, SomeOutcome, StepLaw}
use Rattle.facts.proofs.WordLemmas.{next_word, if_below, or_left, or_right, and_word, or_word, or_byte_true, ac_after_word, link_after_bit, operate2_word, mq_words}
use Rattle.facts.proofs.StateLemmas.{words_updated, seen_words, seen_place, after_pointer, pointer_state, pointer_means, target_true, ac_true}
use Rattle.facts.proofs.OperateSteps.{operate3_step, skip_step, ac_step, go_step}
use Rattle.facts.proofs.GroupSteps.{operate1_step, operate2_step}
use Rattle.facts.proofs.ReferenceSteps.{jmp_step, and_step, MayBeCounted, isz_step}
use Rattle.facts.proofs.TadSteps.{tad_step}
use Rattle.facts.proofs.DcaSteps.{dca_step, dca_own}

-- an instruction names a word
abbrev pub NamesWord : Meaning → Type 0
NamesWord (And i c) = c < 4096
NamesWord (Tad i c) = c < 4096
NamesWord (Isz i c) = c < 4096
NamesWord (Dca i c) = c < 4096
NamesWord (Jms i c) = c < 4096
NamesWord (Jmp i c) = c < 4096
NamesWord _ = Unit {0}

named_word : (w at : ℕ) → at < 4096 → named_cell w at < 4096
named_word w at h = if_below (has_bit 7 w) (at / 128 * 128 + w % 128) (w % 128) 4096 (omega arith) (omega arith)

if_names : (b : Bool) (i j : Meaning) → NamesWord i → NamesWord j → NamesWord (if b then i else j)
if_names true i j x y = x
if_names false i j x y = y

device_names : (o : Option DeviceAction) → NamesWord (device_meaning o)
device_names None = tt
device_names (Some action) = tt

mq_names : (o : Option MqOperate) → NamesWord (mq_meaning o)
mq_names None = tt
mq_names (Some operate) = tt

group3_names : (p : Profile) (w : ℕ) → NamesWord (group3_meaning p w)
group3_names Pdp8I w = tt
group3_names Pdp8E w = mq_names (mq_operate_of w)

pub meaning_names : (p : Profile) (at w : ℕ) → at < 4096 → NamesWord (meaning_of p at w)
unfolding meaning_of
meaning_names p at w h =
    let n : named_cell w at < 4096 = named_word w at h in
    if_names (w / 512 == 0) _ _ n (if_names (w / 512 == 1) _ _ n (if_names (w / 512 == 2) _ _ n (if_names (w / 512 == 3) _ _ n (if_names (w / 512 == 4) _ _ n (if_names (w / 512 == 5) _ _ n
    (if_names (w / 512 == 6) _ _ (device_names (device_action p w)) operates))))))
  where
    operates : NamesWord (operate_meaning p w)
    operates = if_names (has_bit 8 w) _ _ (if_names (has_bit 0 w) _ _ (group3_names p w) tt) (if_names (is_group1 p w) _ _ tt tt)

-- group 1 with the accumulator and the link by their names
group1_to : (w : ℕ) (s t : State) (q : Answer) → Does (Group1 w) s q t → t ≡ record s { ac = ac_after w s.ac s.link; link = link_after w s.ac s.link; pc = plus s.pc 1 }
unfolding ac_after link_after
group1_to w s t q does = does.1

small_byte : (b : ℕ) → b < 256 → b < 4096
small_byte b h = omega arith

mod_two : (n : ℕ) → n % 2 < 2
mod_two n = omega arith

device_state : (action : DeviceAction) (s : State) (q : Answer) (ac : ℕ) (skip : Bool) → IsState s → Answers action s.ac q ac skip → ac < 4096
device_state Skips s q ac skip ss a = subst (λ x. x < 4096) (sym a.1) ss.ac
device_state Ors s q ac skip ss a = subst (λ x. x < 4096) (sym a.3) (or_word s.ac a.0 ss.ac (small_byte a.0 a.1))
device_state Clears s q ac skip ss a = subst (λ x. x < 4096) (sym a.1) (let z : 0 < 4096 = omega arith in z)
device_state Takes s q ac skip ss a = subst (λ x. x < 4096) (sym a.3) (small_byte a.0 a.1)
device_state Leaves s q ac skip ss a = subst (λ x. x < 4096) (sym a.1) ss.ac

-- a step leads from words to words
pub step_state : (m : Meaning) (s t : State) (q : Answer) → NamesWord m → IsState s → Does m s q t → IsState t
step_state (And i c) s t q n ss does = subst IsState (sym does.1)
    (record { ac = and_word s.ac _ ss.ac; link = ss.link; mq = ss.mq; pc = plus_lt s.pc 1; words = seen_words i c s.memory ss.words })
step_state (Tad i c) s t q n ss does = subst IsState (sym does.1)
    (record { ac = plus_lt s.ac _; link = mod_two _; mq = ss.mq; pc = plus_lt s.pc 1; words = seen_words i c s.memory ss.words })
step_state (Isz i c) s t q n ss does = subst IsState (sym does.1)
    (record {
      ac = ss.ac;
      link = ss.link;
      mq = ss.mq;
      pc = next_word s.pc _;
      words = words_updated (seen i c s.memory) _ _ (plus_lt _ 1) (seen_words i c s.memory ss.words);
    })
step_state (Dca i c) s t q n ss does = subst IsState (sym does.1)
    (record {
      ac = (let z : 0 < 4096 = omega arith in z);
      link = ss.link;
      mq = ss.mq;
      pc = plus_lt s.pc 1;
      words = words_updated (seen i c s.memory) _ _ ss.ac (seen_words i c s.memory ss.words);
    })
step_state (Jms i c) s t q n ss does = subst IsState (sym does.1)
    (record {
      ac = ss.ac;
      link = ss.link;
      mq = ss.mq;
      pc = plus_lt _ 1;
      words = words_updated (seen i c s.memory) _ _ (plus_lt s.pc 1) (seen_words i c s.memory ss.words);
    })
step_state (Jmp i c) s t q n ss does = subst IsState (sym does.1)
    (record { ac = ss.ac; link = ss.link; mq = ss.mq; pc = seen_place i c s.memory ss.words n; words = seen_words i c s.memory ss.words })
step_state (Group1 w) s t q n ss does = subst IsState (sym (group1_to w s t q does))
    (record { ac = ac_after_word w s.ac s.link ss.ac ss.link; link = link_after_bit w s.ac s.link ss.ac ss.link; mq = ss.mq; pc = plus_lt s.pc 1; words = ss.words })
step_state (Group2 w) s t q n ss does = subst IsState (sym does.3)
    (record { ac = operate2_word w s.ac does.0 ss.ac does.1; link = ss.link; mq = ss.mq; pc = next_word s.pc _; words = ss.words })
step_state (Group3 o) s t q n ss does = subst IsState (sym does.1)
    (record { ac = (mq_words o s.ac s.mq ss.ac ss.mq).0; link = ss.link; mq = (mq_words o s.ac s.mq ss.ac ss.mq).1; pc = plus_lt s.pc 1; words = ss.words })
step_state (Device action) s t q n ss does = subst IsState (sym does.3)
    (record { ac = device_state action s q does.0 does.1 ss does.2; link = ss.link; mq = ss.mq; pc = next_word s.pc does.1; words = ss.words })
step_state Undefined s t q n ss does = absurd does

module _ (pl : Place) (dd : IsDeclared pl.declaration) (start : Cells) (begun : IsBegun pl.image start) where
  not_index : (i : Bool) (c : ℕ) → pl.declaration.entry c ≡ true → steps_pointer i c ≡ false
  not_index true c en = dd.entry_not_index c en
  not_index false c en = refl

  -- a stepped pointer is a variable
  pub pointer_variable : (i : Bool) (c : ℕ) → (pl.declaration.variable c ≡ true) ⊎ (pl.declaration.entry c ≡ true) → steps_pointer i c ≡ true → pl.declaration.variable c ≡ true
  pointer_variable i c o e = elim o [ inl v ↦ v | inr n ↦ absurd (true≢false (sym e ∙ not_index i c n)) ]

  pub pointer_written : (i : Bool) (c : ℕ) → steps_pointer i c ≡ true → (steps_pointer i c && (c == c)) ≡ true
  pointer_written i c e = and_from _ _ e (eq-eqb c c refl)

  -- the access after the pointer was stepped
  pub record Accessed (f : Fact) (s : State) (ks : Calls) (i : Bool) (c : ℕ) : Type 0 where
    pub var : steps_pointer i c ≡ true → pl.declaration.variable c ≡ true
    pub state : IsState (after_pointer i c s)
    pub means : Means pl start (stepped pl i c f) (after_pointer i c s) ks
    pub word : place i c s.memory < 4096
    pub target : targets pl i c f (place i c s.memory) ≡ true

  pub accessed : (f : Fact) (s : State) (ks : Calls) (i : Bool) (c : ℕ) → IsState s → TopIsEntry pl.declaration ks → Means pl start f s ks → c < 4096 →
      (steps_pointer i c ≡ true → (pl.declaration.variable c ≡ true) ⊎ (pl.declaration.entry c ≡ true)) → Accessed f s ks i c
  accessed f s ks i c ss top h lt v =
      let var : steps_pointer i c ≡ true → pl.declaration.variable c ≡ true = λ e. pointer_variable i c (v e) e in
      record {
        var = var;
        state = pointer_state pl dd start begun i c s ss;
        means = pointer_means pl dd start begun i c f s ks ss top var h;
        word = seen_place i c s.memory ss.words lt;
        target = target_true pl dd start begun i c f s ks ss top var h;
      }

  -- a stepped pointer changes nothing that is known of the return word
  stepped_may_count : (rules : Rules) (i : Bool) (c : ℕ) (f : Fact) → MayCount rules f → MayCount rules (stepped pl i c f)
  stepped_may_count OfEquations i c f may = cond_both (steps_pointer i c) (counted pl c f) f (MayCount OfEquations) (λ q. may) (λ q. may)
  stepped_may_count OfSums i c f may = cond_both (steps_pointer i c) (counted pl c f) f (MayCount OfSums) (λ q. may) (λ q. may)

  -- an indirect reference is to the word in its pointer
  pointed : (i : Bool) (c : ℕ) (s : State) → i ≡ true → (after_pointer i c s).memory c ≡ place i c s.memory
  pointed true c s e = refl
  pointed false c s e = absurd (false≢true e)

  routine_entry : (f : Fact) (ks : Calls) (c : ℕ) → StandsIn pl f ks → TopIsEntry pl.declaration ks → is_routine pl.routine c ≡ true → pl.declaration.entry c ≡ true
  routine_entry f [] c st t e = absurd (false≢true (rw st at e))
  routine_entry f (k ∷ ks) c st t e = let q : c ≡ k.entry = eqb-true c k.entry (rw st.0 at e) in rw q t

  not_return : (f : Fact) (i : Bool) (ks : Calls) (c : ℕ) → StandsIn pl f ks → TopIsEntry pl.declaration ks → (i ≡ true → pl.declaration.entry c ≡ false) → (i && is_routine pl.routine c) ≡ false
  not_return f false ks c st t e = refl
  not_return f true ks c st t e = false_from_ne_true (is_routine pl.routine c) (λ q. true≢false (sym (routine_entry f ks c st t q) ∙ e refl))

  -- a direct DCA of the own entry
  own_moved : (f : Fact) (s t : State) (ks : Calls) (i : Bool) (c : ℕ) → IsState s → Means pl start f s ks → i ≡ false → c < 4096 →
      t ≡ record s { ac = 0; pc = plus s.pc 1; memory = updated (seen i c s.memory) (place i c s.memory) s.ac } →
      pl.declaration.variable (place i c s.memory) ≡ false → pl.declaration.entry (place i c s.memory) ≡ true → pl.routine ≡ Some (place i c s.memory) → AreInReach f (ac_of pl f) →
      SomeOutcome (LandsIn pl start t ks) (outcomes_of pl f s.pc (Dca i c))
  own_moved f s t ks true c ss h direct n is fixed entry own reach = absurd (true≢false direct)
  own_moved f s t ks false c ss h direct n is fixed entry own reach =
      subst (λ x. SomeOutcome (LandsIn pl start x ks) (outcomes_of pl f s.pc (Dca false c))) (sym is) (dca_own pl dd start begun f s ks c ss h n fixed entry own reach)

  pub covered : (m : Meaning) (f : Fact) (s t : State) (q : Answer) (ks : Calls) → NamesWord m → IsState s → TopIsEntry pl.declaration ks → Means pl start f s ks →
      WritesAreDeclared pl f m → EntriesAreKept pl f m → GoesOn pl.declaration m s.pc → IsOrdinary pl.declaration m → Does m s q t → SomeOutcome (LandsIn pl start t ks) (outcomes_of pl f s.pc m)
  covered (And i c) f s t q ks n ss top h wd ek on plain does =
      let a : Accessed f s ks i c = accessed f s ks i c ss top h n (λ e. wd c n (or_left _ _ (pointer_written i c e))) in
      subst (λ x. SomeOutcome (LandsIn pl start x ks) (outcomes_of pl f s.pc (And i c))) (sym does.1)
      (and_step pl dd start begun (stepped pl i c f) (after_pointer i c s) ks (targets pl i c f) (place i c s.memory) a.state a.means a.word a.target)
  covered (Tad i c) f s t q ks n ss top h wd ek on plain does =
      let a : Accessed f s ks i c = accessed f s ks i c ss top h n (λ e. wd c n (or_left _ _ (pointer_written i c e))) in
      subst (λ x. SomeOutcome (LandsIn pl start x ks) (outcomes_of pl f s.pc (Tad i c))) (sym does.1)
      (tad_step pl dd start begun pl.rules (stepped pl i c f) (after_pointer i c s) ks i c (targets pl i c f) (place i c s.memory) a.state a.means a.word a.target (pointed i c s))
  covered (Isz i c) f s t q ks n ss top h wd ek on plain does =
      let a : Accessed f s ks i c = accessed f s ks i c ss top h n (λ e. wd c n (or_left _ _ (pointer_written i c e))) in
      let y : ℕ = place i c s.memory in
      let hits : may_write pl f (Isz i c) y ≡ true = or_right _ _ a.target in
      let may : MayBeCounted pl dd start begun (stepped pl i c f) (targets pl i c f) y = elim (wd y a.word hits) [
        | inl x ↦ inl x
        | inr x ↦ elim (ek y a.word hits x) [
          | inl up ↦ inr (dd.entry_not_variable y x, x, up.0, up.1, stepped_may_count pl.rules i c f up.2)
          | inr on ↦ absurd on
        ]
      ] in
      subst (λ x. SomeOutcome (LandsIn pl start x ks) (outcomes_of pl f s.pc (Isz i c))) (sym does.1)
      (isz_step pl dd start begun (stepped pl i c f) (after_pointer i c s) ks (targets pl i c f) y a.state top a.means a.word a.target may)
  covered (Dca i c) f s t q ks n ss top h wd ek on plain does =
      let a : Accessed f s ks i c = accessed f s ks i c ss top h n (λ e. wd c n (or_left _ _ (pointer_written i c e))) in
      let y : ℕ = place i c s.memory in
      let hits : may_write pl f (Dca i c) y ≡ true = or_right _ _ a.target in
      elim (wd y a.word hits) [
        | inl var ↦ subst (λ x. SomeOutcome (LandsIn pl start x ks) (outcomes_of pl f s.pc (Dca i c))) (sym does.1)
            (dca_step pl dd start begun (stepped pl i c f) (after_pointer i c s) ks (targets pl i c f) y a.state top a.means a.word a.target var)
        | inr entry ↦ elim (ek y a.word hits entry) [
          | inl up ↦ absurd up
          | inr moves ↦ own_moved f s t ks i c ss h moves.0 n does.1 (dd.entry_not_variable y entry) entry moves.1 moves.3
        ]
      ]
  covered (Jms i c) f s t q ks n ss top h wd ek on plain does = absurd plain
  covered (Jmp i c) f s t q ks n ss top h wd ek on plain does =
      let a : Accessed f s ks i c = accessed f s ks i c ss top h n (λ e. wd c n (or_left _ _ (pointer_written i c e))) in
      subst (λ x. SomeOutcome (LandsIn pl start x ks) (outcomes_of pl f s.pc (Jmp i c))) (sym does.1)
      (jmp_step pl dd start begun (stepped pl i c f) (after_pointer i c s) ks i c (targets pl i c f) (place i c s.memory) a.state a.means a.word a.target
      (not_return f i ks c h.stands top plain))
  covered (Group1 w) f s t q ks n ss top h wd ek on plain does =
      subst (λ x. SomeOutcome (LandsIn pl start x ks) (outcomes_of pl f s.pc (Group1 w))) (sym (group1_to w s t q does)) (operate1_step pl dd start begun pl.rules w f s ks ss h)
  covered (Group2 w) f s t q ks n ss top h wd ek on plain does = go (is_halt w && pl.declaration.stop s.pc) refl
    where
      go : (b : Bool) → (is_halt w && pl.declaration.stop s.pc) ≡ b → SomeOutcome (LandsIn pl start t ks) (if b then [] else all_operated2 pl s.pc w f)
      go true e =
          let both = and_parts (is_halt w) (pl.declaration.stop s.pc) e in
          absurd (true≢false (sym both.1 ∙ dd.stop_not_pause s.pc (on both.0)))
      go false e = subst (λ x. SomeOutcome (LandsIn pl start x ks) (all_operated2 pl s.pc w f)) (sym does.3) (operate2_step pl dd start begun w f s ks does.0 ss h does.1)
  covered (Group3 o) f s t q ks n ss top h wd ek on plain does =
      subst (λ x. SomeOutcome (LandsIn pl start x ks) (outcomes_of pl f s.pc (Group3 o))) (sym does.1) (operate3_step pl dd start begun o f s ks ss h)
  covered (Device action) f s t q ks n ss top h wd ek on plain does =
      subst (λ x. SomeOutcome (LandsIn pl start x ks) (outcomes_of pl f s.pc (Device action))) (sym does.3) (by action does.0 does.1 does.2)
    where
      by : (action : DeviceAction) (ac : ℕ) (skip : Bool) → Answers action s.ac q ac skip →
          SomeOutcome (LandsIn pl start (record s { ac = ac; pc = next_pc s.pc skip }) ks) (outcomes_of pl f s.pc (Device action))
      by Skips ac skip a = rw a.1 (skip_step pl dd start begun f s ks skip ss h)
      by Ors ac skip a = rw (a.4, a.3) (ac_step pl dd start begun f s ks (or_any 255 (ac_of pl f)) (bit_or s.ac a.0) ss h (or_word s.ac a.0 ss.ac (small_byte a.0 a.1))
          (or_byte_true (ac_of pl f) s.ac a.0 ss.ac a.1 (ac_true pl dd start begun f s ks ss h)))
      by Clears ac skip a = rw (a.2, a.1) (ac_step pl dd start begun f s ks (one 0) 0 ss h (lit< tt) refl)
      by Takes ac skip a = rw (a.4, a.3) (ac_step pl dd start begun f s ks (λ v. nat_lt v 256) a.0 ss h (small_byte a.0 a.1) (lt-ltb a.0 256 a.1))
      by Leaves ac skip a = rw (a.2, a.1) (go_step pl dd start begun f s ks (plus s.pc 1) ss (plus_lt s.pc 1) h)
  covered Undefined f s t q ks n ss top h wd ek on plain does = absurd does

pub step_law : StepLaw
step_law pl start f s t q ks dd begun ss top h wd ek on plain step =
    covered pl dd start begun (instruction pl.declaration.profile s) f s t q ks (meaning_names pl.declaration.profile s.pc (s.memory s.pc) ss.pc) ss top h wd ek on plain step
