-- What holds at every moment of a declared run of a program with a valid certificate, and that each step keeps it.
use Rattle.std.proofs.Common.{◌≡◌, ℕ, ◌+◌, ◌-◌, ◌<◌, ◌≤◌, ◌==◌, Bool, true, false, not, ◌&&◌, ◌⊎◌, Some, None, List, [], ◌∷◌, refl, sym, ap, ◌∙◌, subst, inl, inr, arith, lit≤, lit<}
use Rattle.std.proofs.Math.Path.{fun_ext}
use Rattle.std.specs.Prelude.{if◌then◌else◌}
use Rattle.std.proofs.lemmas.Bool.{and_parts, true≢false, false≢true, eq-eqb}
use Rattle.instruct.specs.Instructions.{Meaning, And, Tad, Isz, Dca, Jms, Jmp, Group1, Group2, Group3, Device, Undefined}
use Rattle.wordset.specs.Words.{plus}
use Rattle.processor.specs.Cells.{Cells, updated}
use Rattle.processor.specs.Machine.{State, Answer, seen, place, steps_pointer, Does, Step, instruction}
use Rattle.declaration.specs.Declaration.{Routine, IsDeclared}
use Rattle.policy.specs.Calls.{Call, Calls, current, returned, calls_of, calls_after}
use Rattle.policy.specs.Runs.{GoesOn}
use Rattle.domain.specs.Locations.{values}
use Rattle.domain.specs.Facts.{Fact, Rules, OfEquations, OfSums, Holds, last_site, Means, SomeMeans}
use Rattle.domain.specs.Moves.{joined}
use Rattle.domain.specs.Laws.{IsBegun}
use Rattle.domain.proofs.Numbers.{plus_lt}
use Rattle.facts.specs.Instructions.{is_jump}
use Rattle.facts.specs.States.{IsState, IsOrdinary}
use Rattle.transfer.specs.Outcomes.{Successor, Goes, CallsTo, Returns}
use Rattle.transfer.specs.Operations.{outcomes_of}
use Rattle.facts.specs.Conditions.{may_write}
use Rattle.facts.specs.Entailment.{Lands}
use Rattle.facts.specs.Laws.{LandsIn, SomeOutcome, KeepsReturns}
use Rattle.facts.proofs.WordLemmas.{or_left, or_right}
use Rattle.facts.proofs.StateLemmas.{updated_same, updated_other, words_updated, hidden_values, rest_updated, possible_true}
use Rattle.facts.proofs.StepLemmas.{NamesWord, meaning_names, step_state, pointer_written, Accessed, accessed, covered}
use Rattle.facts.proofs.JoinedLemmas.{joined_holds}
use Rattle.facts.proofs.LandedLemmas.{one_landed_holds, idle_never_holds}
use Rattle.judge.specs.Landing.{Case, place_in, facts_in, exits_of, asked_at, LandsAt, LandsBeyond, as_main, abandons, SuccessorLands, EachSuccessor, called_from, EachLandsAfter, LandsAfter}
use Rattle.judge.specs.Conditions.{IsLower, CoversCallee, MayCall, MayReturn, IsSite, IsValid}
use Rattle.judge.proofs.Fine.{In, OneOf, one_of, asked_means, is_line, Fine, all_fine}
use Rattle.judge.proofs.Frames.{Below, Frames, MayPut, top_is_entry, updated_frames, call_frames, seen_frames}

last_word : (rules : Rules) → last_site rules ≤ 4094
last_word OfEquations = lit≤ tt
last_word OfSums = lit≤ tt

module _ (j : Case) (dd : IsDeclared j.declaration) (valid : IsValid j) (start : Cells) (begun : IsBegun j.image start) where
  pub record Invariant (s : State) (ks : Calls) : Type 0 where
    pub state : IsState s
    pub inside : j.declaration.body (current ks) s.pc ≡ true
    pub means : SomeMeans (place_in j (current ks)) start (facts_in j (current ks) s.pc) s ks
    pub frames : Frames j start s.memory ks

  -- the fact that holds, among those of which conditions are asked
  abbrev pub Held : State → Calls → Type 0
  Held s ks = OneOf (place_in j (current ks)) start (asked_at j (current ks) s.pc) s ks

  pub held : (s : State) (ks : Calls) → Invariant s ks → Held s ks
  held s ks inv =
      one_of (place_in j (current ks)) start (asked_at j (current ks) s.pc) s ks
      (asked_means (place_in j (current ks)) start j.certificate.rules (facts_in j (current ks) s.pc) s ks begun inv.state inv.means)

  -- arrival
  pub landed : (r : Routine) (g : Fact) (t : State) (ks : Calls) → r ≡ current ks → LandsAt j r t.pc g → IsState t → Means (place_in j (current ks)) start g t ks → Frames j start t.memory ks → Invariant t ks
  landed r g t ks e l ts h fs = elim (subst (λ x. LandsAt j x t.pc g) e l) [
    | inl idle ↦ absurd (idle_never_holds (place_in j (current ks)) start g t ks begun ts idle h)
    | inr there ↦ record {
      state = ts;
      inside = there.0;
      means = one_landed_holds (place_in j (current ks)) start g (facts_in j (current ks) t.pc) t ks begun ts there.1 h;
      frames = fs;
    }
  ]

  arrives : (m : Meaning) (t : State) (ks : Calls) → abandons j.declaration (current ks) m t.pc ≡ false → IsState t → Frames j start t.memory ks → (os : List Successor) →
      EachSuccessor (SuccessorLands j (current ks) m) os → SomeOutcome (LandsIn (place_in j (current ks)) start t ks) os → Invariant t ks
  arrives m t ks stay ts fs [] each some = absurd some
  arrives m t ks stay ts fs (Goes next f ∷ os) each some = elim some [
    | inl x ↦ landed (current ks) f t ks refl (subst (λ b. LandsBeyond b j (current ks) t.pc f) stay (each.0 t.pc ts.pc x.0)) ts x.1 fs
    | inr x ↦ arrives m t ks stay ts fs os each.1 x
  ]
  arrives m t ks stay ts fs (CallsTo next f ∷ os) each some = elim some [ inl x ↦ absurd x | inr x ↦ arrives m t ks stay ts fs os each.1 x ]
  arrives m t ks stay ts fs (Returns f ∷ os) each some = elim some [ inl x ↦ absurd x | inr x ↦ arrives m t ks stay ts fs os each.1 x ]

  -- a fact holds as one of main's when all calls are abandoned
  means_main : (ks : Calls) (f : Fact) (t : State) → Means (place_in j (current ks)) start f t ks → Means (place_in j None) start (as_main f) t []
  means_main ks f t h = record {
    holds = record { sets = h.holds.sets; relations = h.holds.relations; chains = h.holds.chains };
    mq = h.mq;
    link = h.link;
    rest = h.rest;
    stands = refl;
    own = tt;
  }

  arrives_main : (m : Meaning) (t : State) (ks : Calls) → abandons j.declaration (current ks) m t.pc ≡ true → IsState t → (os : List Successor) →
      EachSuccessor (SuccessorLands j (current ks) m) os → SomeOutcome (LandsIn (place_in j (current ks)) start t ks) os → Invariant t []
  arrives_main m t ks leave ts [] each some = absurd some
  arrives_main m t ks leave ts (Goes next f ∷ os) each some = elim some [
    | inl x ↦ landed None (as_main f) t [] refl (subst (λ b. LandsBeyond b j (current ks) t.pc f) leave (each.0 t.pc ts.pc x.0)) ts (means_main ks f t x.1) tt
    | inr x ↦ arrives_main m t ks leave ts os each.1 x
  ]
  arrives_main m t ks leave ts (CallsTo next f ∷ os) each some = elim some [ inl x ↦ absurd x | inr x ↦ arrives_main m t ks leave ts os each.1 x ]
  arrives_main m t ks leave ts (Returns f ∷ os) each some = elim some [ inl x ↦ absurd x | inr x ↦ arrives_main m t ks leave ts os each.1 x ]

  -- the access of a memory reference, by its conditions
  abbrev pub Access : (s : State) (ks : Calls) → Held s ks → Bool → ℕ → Type 0
  Access s ks h i c = Accessed (place_in j (current ks)) dd start begun h.fact s ks i c

  pub access : (s : State) (ks : Calls) (h : Held s ks) (i : Bool) (c : ℕ) → Invariant s ks → c < 4096 →
      (steps_pointer i c ≡ true → (j.declaration.variable c ≡ true) ⊎ (j.declaration.entry c ≡ true)) → Access s ks h i c
  access s ks h i c inv n v = accessed (place_in j (current ks)) dd start begun h.fact s ks i c inv.state (top_is_entry j start s.memory ks inv.frames) h.means n v

  written : (ks : Calls) (i : Bool) (c : ℕ) → steps_pointer i c ≡ true → (steps_pointer i c && (c == c)) ≡ true
  written ks i c e = pointer_written (place_in j (current ks)) dd start begun i c e

  -- the frames after a stepped pointer
  pointed_frames : (m : Meaning) (s : State) (ks : Calls) (h : Held s ks) (i : Bool) (c : ℕ) → Invariant s ks → c < 4096 → Fine j (current ks) s.pc h.fact m →
      (steps_pointer i c ≡ true → may_write (place_in j (current ks)) h.fact m c ≡ true) → Frames j start (seen i c s.memory) ks
  pointed_frames m s ks h i c inv n fine hits =
      let a : Access s ks h i c = access s ks h i c inv n (λ e. fine.v5 c n (hits e)) in
      seen_frames j start dd i c s.memory ks n (λ e. (a.var e, fine.v6 c n (hits e))) inv.frames

  frames_after : (m : Meaning) (s t : State) (q : Answer) (ks : Calls) (h : Held s ks) → Invariant s ks → NamesWord m → Fine j (current ks) s.pc h.fact m → IsOrdinary j.declaration m → Does m s q t → Frames j start t.memory ks
  frames_after (And i c) s t q ks h inv n fine plain does = subst (λ x. Frames j start x.memory ks) (sym does.1) (pointed_frames (And i c) s ks h i c inv n fine (λ e. or_left _ _ (written ks i c e)))
  frames_after (Tad i c) s t q ks h inv n fine plain does = subst (λ x. Frames j start x.memory ks) (sym does.1) (pointed_frames (Tad i c) s ks h i c inv n fine (λ e. or_left _ _ (written ks i c e)))
  frames_after (Isz i c) s t q ks h inv n fine plain does =
      let a : Access s ks h i c = access s ks h i c inv n (λ e. fine.v5 c n (or_left _ _ (written ks i c e))) in
      let y : ℕ = place i c s.memory in
      let hits : may_write (place_in j (current ks)) h.fact (Isz i c) y ≡ true = or_right _ _ a.target in
      let may : MayPut j start ks y = elim (fine.v5 y a.word hits) [
        | inl x ↦ inl (x, fine.v6 y a.word hits)
        | inr x ↦ inr (dd.entry_not_variable y x, elim (fine.v14 y a.word hits x) [ inl counts ↦ counts.0 | inr moves ↦ absurd moves ])
      ] in
      subst (λ x. Frames j start x.memory ks) (sym does.1)
      (updated_frames j start dd (seen i c s.memory) y _ ks a.word may (pointed_frames (Isz i c) s ks h i c inv n fine (λ e. or_left _ _ (written ks i c e))))
  frames_after (Dca i c) s t q ks h inv n fine plain does =
      let a : Access s ks h i c = access s ks h i c inv n (λ e. fine.v5 c n (or_left _ _ (written ks i c e))) in
      let y : ℕ = place i c s.memory in
      let hits : may_write (place_in j (current ks)) h.fact (Dca i c) y ≡ true = or_right _ _ a.target in
      let may : MayPut j start ks y = elim (fine.v5 y a.word hits) [
        | inl x ↦ inl (x, fine.v6 y a.word hits)
        | inr x ↦ inr (dd.entry_not_variable y x, elim (fine.v14 y a.word hits x) [ inl counts ↦ absurd counts | inr moves ↦ moves.1 ])
      ] in
      subst (λ x. Frames j start x.memory ks) (sym does.1)
      (updated_frames j start dd (seen i c s.memory) y _ ks a.word may (pointed_frames (Dca i c) s ks h i c inv n fine (λ e. or_left _ _ (written ks i c e))))
  frames_after (Jms i c) s t q ks h inv n fine plain does = absurd plain
  frames_after (Jmp i c) s t q ks h inv n fine plain does = subst (λ x. Frames j start x.memory ks) (sym does.1) (pointed_frames (Jmp i c) s ks h i c inv n fine (λ e. or_left _ _ (written ks i c e)))
  frames_after (Group1 w) s t q ks h inv n fine plain does = subst (λ x. Frames j start x.memory ks) (sym does.1) inv.frames
  frames_after (Group2 w) s t q ks h inv n fine plain does = subst (λ x. Frames j start x.memory ks) (sym does.3) inv.frames
  frames_after (Group3 o) s t q ks h inv n fine plain does = subst (λ x. Frames j start x.memory ks) (sym does.1) inv.frames
  frames_after (Device action) s t q ks h inv n fine plain does = subst (λ x. Frames j start x.memory ks) (sym does.3) inv.frames
  frames_after Undefined s t q ks h inv n fine plain does = absurd does

  -- the first law: an ordinary step
  keep_ordinary : (m : Meaning) (s t : State) (q : Answer) (ks : Calls) (h : Held s ks) → abandons j.declaration (current ks) m t.pc ≡ false → Invariant s ks → NamesWord m → Fine j (current ks) s.pc h.fact m → GoesOn j.declaration m s.pc →
      IsOrdinary j.declaration m → Does m s q t → Invariant t ks
  keep_ordinary m s t q ks h stay inv n fine on plain does =
      arrives m t ks stay (step_state m s t q n inv.state does) (frames_after m s t q ks h inv n fine plain does) (outcomes_of (place_in j (current ks)) h.fact s.pc m) fine.v4
      (covered (place_in j (current ks)) dd start begun m h.fact s t q ks n inv.state (top_is_entry j start s.memory ks inv.frames) h.means fine.v5 fine.v14 on plain does)

  -- no instruction but a JMP abandons calls
  stays : (r : Routine) (m : Meaning) (a : ℕ) → is_jump m ≡ false → abandons j.declaration r m a ≡ false
  stays None m a plainly = refl
  stays (Some e) (Jmp i c) a plainly = absurd (true≢false plainly)
  stays (Some e) _ a plainly = refl

  keep_plain : (m : Meaning) (s t : State) (q : Answer) (ks : Calls) (h : Held s ks) → is_jump m ≡ false → Invariant s ks → NamesWord m → Fine j (current ks) s.pc h.fact m → GoesOn j.declaration m s.pc → IsOrdinary j.declaration m → Does m s q t → Invariant t ks
  keep_plain m s t q ks h plainly inv n fine on plain does = keep_ordinary m s t q ks h (stays (current ks) m t.pc plainly) inv n fine on plain does

  -- the fourth law: a JMP by which all open calls are abandoned
  keep_abandoned : (m : Meaning) (s t : State) (q : Answer) (ks : Calls) (h : Held s ks) → abandons j.declaration (current ks) m t.pc ≡ true → Invariant s ks → NamesWord m → Fine j (current ks) s.pc h.fact m → GoesOn j.declaration m s.pc →
      IsOrdinary j.declaration m → Does m s q t → Invariant t []
  keep_abandoned m s t q ks h leave inv n fine on plain does =
      arrives_main m t ks leave (step_state m s t q n inv.state does) (outcomes_of (place_in j (current ks)) h.fact s.pc m) fine.v4
      (covered (place_in j (current ks)) dd start begun m h.fact s t q ks n inv.state (top_is_entry j start s.memory ks inv.frames) h.means fine.v5 fine.v14 on plain does)

  -- the second law: a return
  abbrev pub jumped : Bool → ℕ → State → State
  jumped i c s = record s { pc = place i c s.memory; memory = seen i c s.memory }

  -- of an exit with the site, what is joined lands
  after_exit : (r : Routine) (a e o : ℕ) (f x : Fact) (xs : List Fact) → EachLandsAfter j r a e o f xs → In x xs → x.sites a ≡ true → LandsAt j r (plus (a + 1) o) (joined j.certificate.rules f x (j.certificate.writes e))
  after_exit r a e o f x [] each i site = absurd i
  after_exit r a e o f x (y ∷ ys) each i site = elim i [
    | inl q ↦ subst (λ z. z.sites a ≡ true → LandsAt j r (plus (a + 1) o) (joined j.certificate.rules f z (j.certificate.writes e))) q each.0 site
    | inr q ↦ after_exit r a e o f x ys each.1 q site
  ]

  keep_return : (s : State) (k : Call) (ks : Calls) (c : ℕ) (h : Held s (k ∷ ks)) → Invariant s (k ∷ ks) → Fine j (current (k ∷ ks)) s.pc h.fact (Jmp true c) → j.declaration.entry c ≡ true → Invariant (jumped true c s) ks
  keep_return s k ks c h inv fine en =
      let v12 = fine.v12 refl en in
      let kw : k.entry ≡ c = (let q : Some k.entry ≡ Some c = v12.0 in cc) in
      let still : seen true c s.memory ≡ s.memory = (let q : steps_pointer true c ≡ false = dd.entry_not_index c en in rw q refl) in
      let own = h.means.own in
      let o : ℕ = own.0 in
      let lo : o < 64 = own.1 in
      let pos : 0 < k.after = h.means.stands.1 in
      let word : s.memory k.entry < 4096 = inv.state.words k.entry in
      let is : s.memory k.entry ≡ k.after + o = own.3 in
      let to : s.memory k.entry ≡ plus ((k.after - 1) + 1) o = omega arith in
      let there : s.memory c ≡ plus ((k.after - 1) + 1) o = subst (λ x. s.memory x ≡ plus ((k.after - 1) + 1) o) kw to in
      let may : MayReturn j c h.fact o = v12.1 o lo own.2 in
      let lands : Lands (place_in j (Some k.entry)) h.fact (exits_of j k.entry o) = subst (λ x. Lands (place_in j (Some x)) h.fact (exits_of j x o)) (sym kw) may.1 in
      let exit : OneOf (place_in j (Some k.entry)) start (exits_of j k.entry o) s (k ∷ ks) =
      one_of (place_in j (Some k.entry)) start (exits_of j k.entry o) s (k ∷ ks) (one_landed_holds (place_in j (Some k.entry)) start h.fact (exits_of j k.entry o) s (k ∷ ks) begun inv.state lands h.means) in
      let call : Fact = inv.frames.0.call in
      let after : LandsAt j (current ks) (plus ((k.after - 1) + 1) o) (joined j.certificate.rules call exit.fact (j.certificate.writes k.entry)) =
      after_exit (current ks) (k.after - 1) k.entry o call exit.fact (exits_of j k.entry o) (inv.frames.0.lands o lo) exit.among exit.means.stands.3 in
      let t : State = record s { pc = plus ((k.after - 1) + 1) o } in
      let ts : IsState t = record { ac = inv.state.ac; link = inv.state.link; mq = inv.state.mq; pc = plus_lt _ o; words = inv.state.words } in
      let done : Invariant t ks = landed (current ks) (joined j.certificate.rules call exit.fact (j.certificate.writes k.entry)) t ks refl after ts
      (joined_holds (place_in j (current ks)) start call exit.fact (j.certificate.writes k.entry) inv.frames.0.before t ks begun inv.frames.0.state ts inv.frames.0.means
      exit.means.holds exit.means.mq exit.means.link exit.means.rest inv.frames.0.kept inv.frames.0.returns)
      inv.frames.1 in
      let same : jumped true c s ≡ t = rw (still, there) refl in
      subst (λ x. Invariant x ks) (sym same) done

  -- the third law: a call
  called_below : (e : ℕ) (ks : Calls) → IsLower j.certificate (current ks) e → CoversCallee j.certificate (current ks) e → Below j start e ks
  called_below e [] a b = tt
  called_below e (k ∷ ks) a b = (a, b.writes)

  returns_below : (e v : ℕ) (ks : Calls) (m : Cells) → Below j start e ks → KeepsReturns ks m (updated m e v)
  returns_below e v [] m b = tt
  returns_below e v (l ∷ ls) m b = updated_other m e v l.entry (λ g. (let same : j.certificate.rank l.entry ≡ j.certificate.rank e = ap j.certificate.rank g in let less : j.certificate.rank e < j.certificate.rank l.entry = b.0 in omega arith))

  -- what the conditions on calls say of one target
  pub record CallIsFine (r : Routine) (p : ℕ) (f : Fact) (e : ℕ) : Type 0 where
    pub call : MayCall j r e
    pub covers : CoversCallee j.certificate r e
    pub site : IsSite j.certificate p e
    pub enters : LandsAt j (Some e) (plus e 1) (called_from p f)
    pub returns : LandsAfter j r p e f

  abbrev pub entered : State → ℕ → State
  entered s e = record s { pc = plus e 1; memory = updated s.memory e (plus s.pc 1) }

  -- the fact holds behind the entry, of the call's site
  called_means : (s : State) (ks : Calls) (h : Held s ks) (e : ℕ) → j.declaration.entry e ≡ true → s.pc ≤ last_site j.certificate.rules →
      Means (place_in j (Some e)) start (called_from s.pc h.fact) (entered s e) (record { entry = e; after = plus s.pc 1 } ∷ ks)
  called_means s ks h e en low =
      let last : last_site j.certificate.rules ≤ 4094 = last_word j.certificate.rules in
      let next : plus s.pc 1 ≡ s.pc + 1 = omega arith in
      let before : plus s.pc 1 - 1 ≡ s.pc = omega arith in
      let fixed : j.declaration.variable e ≡ false = dd.entry_not_variable e en in
      let same : values j.declaration start s.ac (updated s.memory e (plus s.pc 1)) ≡ values j.declaration start s.ac s.memory = fun_ext (λ n. hidden_values j.declaration start s.ac s.memory e (plus s.pc 1) fixed n refl) in
      let kept : Holds h.fact (values j.declaration start s.ac (updated s.memory e (plus s.pc 1))) start s.link = subst (λ v. Holds h.fact v start s.link) (sym same) h.means.holds in
      record {
        holds = record { sets = kept.sets; relations = kept.relations; chains = kept.chains };
        mq = h.means.mq;
        link = h.means.link;
        rest = rest_updated j.declaration start s.memory e (plus s.pc 1) (inr en) h.means.rest;
        stands = (refl, omega arith, omega arith, eq-eqb (plus s.pc 1 - 1) s.pc before);
        own = (0, lit< tt, refl, updated_same s.memory e (plus s.pc 1) ∙ omega arith);
      }

  keep_call : (s : State) (ks : Calls) (h : Held s ks) (e : ℕ) → Invariant s ks → e < 4096 → CallIsFine (current ks) s.pc h.fact e →
      Invariant (entered s e) (record { entry = e; after = plus s.pc 1 } ∷ ks)
  keep_call s ks h e inv lt v =
      let last : last_site j.certificate.rules ≤ 4094 = last_word j.certificate.rules in
      let low : s.pc ≤ last_site j.certificate.rules = v.site.1 in
      let before : plus s.pc 1 - 1 ≡ s.pc = omega arith in
      let below : Below j start e ks = called_below e ks v.call.lower v.covers in
      landed (Some e) (called_from s.pc h.fact) (entered s e) (record { entry = e; after = plus s.pc 1 } ∷ ks) refl v.enters
      (record {
        ac = inv.state.ac;
        link = inv.state.link;
        mq = inv.state.mq;
        pc = plus_lt e 1;
        words = words_updated s.memory e (plus s.pc 1) (plus_lt s.pc 1) inv.state.words;
      })
      (called_means s ks h e v.call.entry low) (
        record {
          entry = v.call.entry;
          below = below;
          call = h.fact;
          before = s;
          state = inv.state;
          means = h.means;
          kept = λ a var q. updated_other s.memory e (plus s.pc 1) a (λ g. true≢false (sym var ∙ (rw g (dd.entry_not_variable e v.call.entry))));
          returns = returns_below e (plus s.pc 1) ks s.memory below;
          lands = subst (λ p. LandsAfter j (current ks) p e h.fact) (sym before) v.returns;
        },
        call_frames j start dd s.memory e (plus s.pc 1) ks v.call.entry below inv.frames,
      )

  keep_jms : (s t : State) (ks : Calls) (h : Held s ks) (i : Bool) (c : ℕ) → Invariant s ks → c < 4096 → Fine j (current ks) s.pc h.fact (Jms i c) →
      t ≡ record s { pc = plus (place i c s.memory) 1; memory = updated (seen i c s.memory) (place i c s.memory) (plus s.pc 1) } →
      Invariant t (calls_of j.declaration (Jms i c) s ks)
  keep_jms s t ks h i c inv n fine does =
      let still : steps_pointer i c ≡ false = fine.v7.0 in
      let a : Access s ks h i c = access s ks h i c inv n (λ e. absurd (true≢false (sym e ∙ still))) in
      let e : ℕ = place i c s.memory in
      let v : CallIsFine (current ks) s.pc h.fact e = record {
        call = fine.v7.1 e a.word a.target;
        covers = fine.v8 e a.word a.target;
        site = fine.v9 e a.word a.target;
        enters = fine.v10 e a.word a.target;
        returns = fine.v11 e a.word a.target;
      } in
      let m : seen i c s.memory ≡ s.memory = rw still refl in
      let en : j.declaration.entry e ≡ true = v.call.entry in
      let there : t ≡ entered s e = does ∙ ap (λ x. record s { pc = plus e 1; memory = updated x e (plus s.pc 1) }) m in
      let list : calls_of j.declaration (Jms i c) s ks ≡ record { entry = e; after = plus s.pc 1 } ∷ ks = rw en refl in
      subst (λ x. Invariant t x) (sym list) (subst (λ x. Invariant x (record { entry = e; after = plus s.pc 1 } ∷ ks)) (sym there) (keep_call s ks h e inv a.word v))

  keep_jump : (s t : State) (q : Answer) (ks : Calls) (h : Held s ks) (i : Bool) (c : ℕ) → Invariant s ks → c < 4096 → Fine j (current ks) s.pc h.fact (Jmp i c) → GoesOn j.declaration (Jmp i c) s.pc → Does (Jmp i c) s q t → Invariant t (calls_of j.declaration (Jmp i c) s ks)
  keep_jump s t q ks h i c inv n fine on does = go (i && j.declaration.entry c) refl
    where
      plain : (b : Bool) → (b && j.declaration.entry c) ≡ false → b ≡ true → j.declaration.entry c ≡ false
      plain true e z = e
      plain false e z = absurd (false≢true z)

      there : t.pc ≡ place i c s.memory
      there = ap (λ (x : State). x.pc) does.1

      emptied : (b : Bool) → [] ≡ (let none : Calls = [] in if b then none else none)
      emptied true = refl
      emptied false = refl

      -- a JMP that is no return: in main the list is empty already
      jumps : (i && j.declaration.entry c) ≡ false → (ls : Calls) (g : Held s ls) → Invariant s ls → Fine j (current ls) s.pc g.fact (Jmp i c) → Invariant t (if j.declaration.abandon (place i c s.memory) then [] else ls)
      jumps e [] g iv f = subst (λ x. Invariant t x) (emptied (j.declaration.abandon (place i c s.memory))) (keep_ordinary (Jmp i c) s t q [] g refl iv n f on (plain i e) does)
      jumps e (l ∷ ls) g iv f = by_place (j.declaration.abandon (place i c s.memory)) refl
        where
          leaves : (b : Bool) → j.declaration.abandon (place i c s.memory) ≡ b → abandons j.declaration (Some l.entry) (Jmp i c) t.pc ≡ b
          leaves b is = ap (λ (x : Bool). not x && j.declaration.abandon t.pc) e ∙ (ap j.declaration.abandon there ∙ is)

          by_place : (b : Bool) → j.declaration.abandon (place i c s.memory) ≡ b → Invariant t (if b then [] else l ∷ ls)
          by_place true is = keep_abandoned (Jmp i c) s t q (l ∷ ls) g (leaves true is) iv n f on (plain i e) does
          by_place false is = keep_ordinary (Jmp i c) s t q (l ∷ ls) g (leaves false is) iv n f on (plain i e) does

      go : (b : Bool) → (i && j.declaration.entry c) ≡ b → Invariant t (if b then returned ks else (if j.declaration.abandon (place i c s.memory) then [] else ks))
      go false e = jumps e ks h inv fine
      go true e = by_indirect i (and_parts i (j.declaration.entry c) e).0 fine does.1
        where
          en : j.declaration.entry c ≡ true
          en = (and_parts i (j.declaration.entry c) e).1

          by_list : (ls : Calls) (g : Held s ls) → Invariant s ls → Fine j (current ls) s.pc g.fact (Jmp true c) → t ≡ jumped true c s → Invariant t (returned ls)
          by_list [] g iv f q = absurd (let z : None ≡ Some c = (f.v12 refl en).0 in cc)
          by_list (l ∷ ls) g iv f q = subst (λ x. Invariant x ls) (sym q) (keep_return s l ls c g iv f en)

          by_indirect : (b : Bool) → b ≡ true → Fine j (current ks) s.pc h.fact (Jmp b c) → t ≡ jumped b c s → Invariant t (returned ks)
          by_indirect true z f q = by_list ks h inv f q
          by_indirect false z f q = absurd (false≢true z)

  -- every step keeps the invariant
  keep_at : (m : Meaning) (s t : State) (q : Answer) (ks : Calls) (h : Held s ks) → Invariant s ks → NamesWord m → Fine j (current ks) s.pc h.fact m → GoesOn j.declaration m s.pc → Does m s q t → Invariant t (calls_of j.declaration m s ks)
  keep_at (And i c) s t q ks h inv n fine on does = keep_plain (And i c) s t q ks h refl inv n fine on tt does
  keep_at (Tad i c) s t q ks h inv n fine on does = keep_plain (Tad i c) s t q ks h refl inv n fine on tt does
  keep_at (Isz i c) s t q ks h inv n fine on does = keep_plain (Isz i c) s t q ks h refl inv n fine on tt does
  keep_at (Dca i c) s t q ks h inv n fine on does = keep_plain (Dca i c) s t q ks h refl inv n fine on tt does
  keep_at (Jms i c) s t q ks h inv n fine on does = keep_jms s t ks h i c inv n fine does.1
  keep_at (Jmp i c) s t q ks h inv n fine on does = keep_jump s t q ks h i c inv n fine on does
  keep_at (Group1 w) s t q ks h inv n fine on does = keep_plain (Group1 w) s t q ks h refl inv n fine on tt does
  keep_at (Group2 w) s t q ks h inv n fine on does = keep_plain (Group2 w) s t q ks h refl inv n fine on tt does
  keep_at (Group3 o) s t q ks h inv n fine on does = keep_plain (Group3 o) s t q ks h refl inv n fine on tt does
  keep_at (Device action) s t q ks h inv n fine on does = keep_plain (Device action) s t q ks h refl inv n fine on tt does
  keep_at Undefined s t q ks h inv n fine on does = absurd does

  -- no entry is in a body
  pub not_entry : (r : Routine) (a : ℕ) → j.declaration.body r a ≡ true → j.declaration.entry a ≡ false
  not_entry r a h = go (j.declaration.entry a) refl
    where
      go : (b : Bool) → j.declaration.entry a ≡ b → b ≡ false
      go false e = refl
      go true e = absurd (true≢false (sym h ∙ dd.entry_not_in_body a r e))

  -- what the certificate says of the instruction at the program counter, by the fact that holds
  pub fine_at : (s : State) (ks : Calls) (h : Held s ks) → Invariant s ks → Fine j (current ks) s.pc h.fact (instruction j.declaration.profile s)
  fine_at s ks h inv =
      all_fine j valid (current ks) s.pc (s.memory s.pc) h.fact inv.state.pc (inv.state.words s.pc) inv.inside (is_line j (current ks) start s.pc s ks inv.means) h.among
      (possible_true (place_in j (current ks)) dd start begun h.fact s ks s.pc inv.state h.means (not_entry (current ks) s.pc inv.inside))

  pub keeps : (s t : State) (q : Answer) (ks : Calls) → Invariant s ks → GoesOn j.declaration (instruction j.declaration.profile s) s.pc → Step j.declaration.profile s q t → Invariant t (calls_after j.declaration s ks)
  keeps s t q ks inv on step =
      let h : Held s ks = held s ks inv in
      keep_at (instruction j.declaration.profile s) s t q ks h inv (meaning_names j.declaration.profile s.pc (s.memory s.pc) inv.state.pc) (fine_at s ks h inv) on step
