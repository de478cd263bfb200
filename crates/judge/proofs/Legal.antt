-- The invariant makes the next step legal, and so all declared runs safe.
use Rattle.std.proofs.Common.{◌≡◌, ℕ, ◌+◌, ◌<◌, true, false, Some, None, List, [], ◌∷◌, refl, sym, ap, ◌∙◌, subst, inl, inr, arith}
use Rattle.std.proofs.lemmas.Bool.{true≢false, false≢true}
use Rattle.instruct.specs.Instructions.{Meaning, Isz, Dca, Jms, Jmp}
use Rattle.wordset.specs.Words.{plus, minus}
use Rattle.processor.specs.Cells.{Cells}
use Rattle.processor.specs.Machine.{State, Answer, place, steps_pointer, instruction}
use Rattle.processor.specs.Runs.{IsStart}
use Rattle.declaration.specs.Declaration.{PlaceAssertion, ReturnAssertion, IsDeclared}
use Rattle.policy.specs.Calls.{Calls, current, calls_after}
use Rattle.policy.specs.Rules.{WritesOwnEntry, EachHolds, EachHoldsBy, HoldsAtReturn, ReturnsHold, WritesDeclared, CallsEntries, FindsItsCall, ReturnsToItsCall, ReadsListed, IsLegal}
use Rattle.policy.specs.Runs.{DeclaredRun, IsSafeInRuns}
use Rattle.domain.specs.Facts.{Fact, Means, SomeMeans}
use Rattle.domain.specs.Laws.{IsBegun}
use Rattle.facts.specs.States.{IsState}
use Rattle.facts.specs.declared.Condition.TheVariants.{V1, V16}
use Rattle.facts.specs.Access.{IsStateOf}
use Rattle.facts.specs.Conditions.{may_write, CountsItsReturn, MovesItsReturn, EachIsHeld, EachIsHeldBy}
use Rattle.facts.specs.Starts.{start_fact}
use Rattle.facts.proofs.ForeseenLemmas.{read_may, read_word, write_may, written_word}
use Rattle.facts.proofs.AssertedLemmas.{asserted_so}
use Rattle.facts.proofs.LandedLemmas.{one_landed_holds}
use Rattle.facts.proofs.StartedLemmas.{start_is_begun, start_fact_holds}
use Rattle.facts.proofs.StepLemmas.{NamesWord, meaning_names, Accessed}
use Rattle.certificate_lines.specs.Certificate.{claimed}
use Rattle.judge.specs.Landing.{Case, place_in, exits_of, asked, LandsAt}
use Rattle.judge.specs.Conditions.{MayReturn, IsValid}
use Rattle.judge.proofs.Fine.{OneOf, one_of, asked_means, each_in, is_exit_line, Fine}
use Rattle.judge.proofs.Frames.{top_is_entry}
use Rattle.judge.proofs.Induction.{Invariant, Held, held, access, landed, keeps, fine_at, not_entry}

module _ (j : Case) (dd : IsDeclared j.declaration) (valid : IsValid j) (start : Cells) (begun : IsBegun j.image start) where
  -- the invariant, and the fact that holds
  abbrev pub Inv : State → Calls → Type 0
  Inv s ks = Invariant j dd valid start begun s ks

  abbrev pub Here : State → Calls → Type 0
  Here s ks = Held j dd valid start begun s ks

  -- a state of the fact that holds
  state_of : (s : State) (ks : Calls) (h : Here s ks) → Inv s ks → IsStateOf (place_in j (current ks)) start h.fact s ks
  state_of s ks h inv = record { declared = dd; begun = begun; state = inv.state; top = top_is_entry j start s.memory ks inv.frames; means = h.means }

  -- the cells that the conditions speak of are those that are written and read
  counts : (m : Meaning) (ks : Calls) (f : Fact) (a : ℕ) → CountsItsReturn (place_in j (current ks)) f m a → WritesOwnEntry j.declaration m ks a
  counts (Isz i c) ks f a e = e.0
  counts _ ks f a e = absurd e

  moves : (m : Meaning) (ks : Calls) (f : Fact) (a : ℕ) → MovesItsReturn (place_in j (current ks)) f m a → WritesOwnEntry j.declaration m ks a
  moves (Dca i c) ks f a e = (e.0, e.2, e.1)
  moves _ ks f a e = absurd e

  legal_writes : (m : Meaning) (s : State) (ks : Calls) (h : Here s ks) → Inv s ks → NamesWord m → Fine j (current ks) s.pc h.fact m → WritesDeclared j.declaration m s ks
  legal_writes m s ks h inv n fine a e =
      let lt : a < 4096 = written_word m s a inv.state n e in
      let may : may_write (place_in j (current ks)) h.fact m a ≡ true = write_may (place_in j (current ks)) start h.fact s ks a m (state_of s ks h inv) n fine.v5 e in
      elim (fine.v5 a lt may) [
        | inl v ↦ inl v
        | inr v ↦ inr (elim (fine.v14 a lt may v) [ inl up ↦ counts m ks h.fact a up | inr on ↦ moves m ks h.fact a on ])
      ]

  legal_reads : (m : Meaning) (s : State) (ks : Calls) (h : Here s ks) → Inv s ks → NamesWord m → Fine j (current ks) s.pc h.fact m → ReadsListed j.declaration m s ks
  legal_reads m s ks h inv n fine a e =
      fine.v15 a (read_word m s a inv.state n e) (read_may (place_in j (current ks)) start h.fact s ks a m (state_of s ks h inv) n fine.v5 e)

  legal_calls : (m : Meaning) (s : State) (ks : Calls) (h : Here s ks) → Inv s ks → NamesWord m → Fine j (current ks) s.pc h.fact m → CallsEntries j.declaration m s
  legal_calls (Jms i c) s ks h inv n fine =
      let still : steps_pointer i c ≡ false = fine.v7.0 in
      let x : Accessed (place_in j (current ks)) dd start begun h.fact s ks i c = access j dd valid start begun s ks h i c inv n (λ e. absurd (true≢false (sym e ∙ still))) in
      (fine.v7.1 (place i c s.memory) x.word x.target).entry
  legal_calls _ s ks h inv n fine = tt

  finds : (s : State) (ks : Calls) (h : Here s ks) (c : ℕ) → Inv s ks → Fine j (current ks) s.pc h.fact (Jmp true c) → j.declaration.entry c ≡ true → FindsItsCall j.declaration c s ks
  finds s [] h c inv fine en = absurd (let z : None ≡ Some c = (fine.v12 refl en).0 in cc)
  finds s (k ∷ ks) h c inv fine en =
      let kw : k.entry ≡ c = (let q : Some k.entry ≡ Some c = (fine.v12 refl en).0 in cc) in
      let own = h.means.own in
      let o : ℕ = own.0 in
      let lo : o < 64 = own.1 in
      let may : MayReturn j c h.fact o = (fine.v12 refl en).1 o lo own.2 in
      let word : s.memory k.entry < 4096 = inv.state.words k.entry in
      let is : s.memory k.entry ≡ k.after + o = own.3 in
      let back : s.memory k.entry ≡ plus k.after o = omega arith in
      (kw, o, lo, may.0, subst (λ x. s.memory x ≡ plus k.after o) kw back)

  legal_returns : (m : Meaning) (s : State) (ks : Calls) (h : Here s ks) → Inv s ks → Fine j (current ks) s.pc h.fact m → ReturnsToItsCall j.declaration m s ks
  legal_returns (Jmp true c) s ks h inv fine = λ e en. finds s ks h c inv fine en
  legal_returns (Jmp false c) s ks h inv fine = λ e en. absurd (false≢true e)
  legal_returns _ s ks h inv fine = tt

  -- what is declared to hold
  places_hold : (s : State) (ks : Calls) (h : Here s ks) → IsState s → (hs : List PlaceAssertion) → EachIsHeld (place_in j (current ks)) h.fact s.pc hs → EachHolds hs s
  places_hold s ks h ss [] held = tt
  places_hold s ks h ss (x ∷ xs) held = (λ here. asserted_so (place_in j (current ks)) dd start begun h.fact x.assertion s ks ss h.means (held.0 here), places_hold s ks h ss xs held.1)

  returns_hold : (e o n : ℕ) (f : Fact) (s : State) (ks : Calls) → n ≡ o → IsState s → Means (place_in j (Some e)) start f s ks → (rs : List ReturnAssertion) → EachIsHeldBy (place_in j (Some e)) f e o rs → EachHoldsBy rs e n s
  returns_hold e o n f s ks same ss means [] held = tt
  returns_hold e o n f s ks same ss means (r ∷ rs) held = (
    λ at by. asserted_so (place_in j (Some e)) dd start begun f r.assertion s ks ss means (held.0 at (ap r.offsets (sym same) ∙ by)),
    returns_hold e o n f s ks same ss means rs held.1,
  )

  return_holds : (s : State) (ks : Calls) (h : Here s ks) (c : ℕ) → Inv s ks → Fine j (current ks) s.pc h.fact (Jmp true c) → j.declaration.entry c ≡ true → HoldsAtReturn j.declaration c s ks
  return_holds s [] h c inv fine en = tt
  return_holds s (k ∷ ks) h c inv fine en =
      let v12 = fine.v12 refl en in
      let kw : k.entry ≡ c = (let q : Some k.entry ≡ Some c = v12.0 in cc) in
      let own = h.means.own in
      let o : ℕ = own.0 in
      let lo : o < 64 = own.1 in
      let may : MayReturn j c h.fact o = v12.1 o lo own.2 in
      let means : Means (place_in j (Some c)) start h.fact s (k ∷ ks) = subst (λ x. Means (place_in j (Some x)) start h.fact s (k ∷ ks)) kw h.means in
      let some : SomeMeans (place_in j (Some c)) start (exits_of j c o) s (k ∷ ks) = one_landed_holds (place_in j (Some c)) start h.fact (exits_of j c o) s (k ∷ ks) begun inv.state may.1 means in
      let line : claimed j.certificate c ≡ true = is_exit_line j c o start s (k ∷ ks) lo some in
      let exit : OneOf (place_in j (Some c)) start (asked j.certificate.rules j.image (exits_of j c o)) s (k ∷ ks) =
      one_of (place_in j (Some c)) start (asked j.certificate.rules j.image (exits_of j c o)) s (k ∷ ks) (asked_means (place_in j (Some c)) start j.certificate.rules (exits_of j c o) s (k ∷ ks) begun inv.state some) in
      let held : EachIsHeldBy (place_in j (Some c)) exit.fact c o j.declaration.returns =
      each_in (λ x. EachIsHeldBy (place_in j (Some c)) x c o j.declaration.returns) exit.fact (asked j.certificate.rules j.image (exits_of j c o)) ((valid V16 c (dd.entry_is_word c en, line)).1 o lo) exit.among in
      let word : s.memory k.entry < 4096 = inv.state.words k.entry in
      let is : s.memory k.entry ≡ k.after + o = own.3 in
      let at : minus (s.memory k.entry) k.after ≡ o = omega arith in
      let there : minus (s.memory c) k.after ≡ o = subst (λ x. minus (s.memory x) k.after ≡ o) kw at in
      λ same. returns_hold c o (minus (s.memory c) k.after) exit.fact s (k ∷ ks) there inv.state exit.means j.declaration.returns held

  legal_assertions : (m : Meaning) (s : State) (ks : Calls) (h : Here s ks) → Inv s ks → Fine j (current ks) s.pc h.fact m → ReturnsHold j.declaration m s ks
  legal_assertions (Jmp true c) s ks h inv fine = λ e en. return_holds s ks h c inv fine en
  legal_assertions (Jmp false c) s ks h inv fine = λ e en. absurd (false≢true e)
  legal_assertions _ s ks h inv fine = tt

  pub legal : (s : State) (ks : Calls) → Inv s ks → IsLegal j.image j.declaration s ks
  legal s ks inv =
      let h : Here s ks = held j dd valid start begun s ks inv in
      let fine : Fine j (current ks) s.pc h.fact (instruction j.declaration.profile s) = fine_at j dd valid start begun s ks h inv in
      let n : NamesWord (instruction j.declaration.profile s) = meaning_names j.declaration.profile s.pc (s.memory s.pc) inv.state.pc in
      record {
        stays = record { in_body = inv.inside; supported = fine.v3 };
        writes = legal_writes (instruction j.declaration.profile s) s ks h inv n fine;
        calls = legal_calls (instruction j.declaration.profile s) s ks h inv n fine;
        returns = legal_returns (instruction j.declaration.profile s) s ks h inv fine;
        halts = fine.v13;
        code = λ r a w inside var tape. h.means.rest a var (not_entry j dd valid start begun r a inside) ∙ begun.loaded a w tape;
        reads = legal_reads (instruction j.declaration.profile s) s ks h inv n fine;
        assertions = record {
          places = places_hold s ks h inv.state j.declaration.holds fine.v16;
          returns = legal_assertions (instruction j.declaration.profile s) s ks h inv fine;
        };
      }

  pub all_legal : (answers : List Answer) (s t : State) (ks ls : Calls) → Inv s ks → DeclaredRun j.declaration answers s ks t ls → IsLegal j.image j.declaration t ls
  all_legal [] s t ks ls inv run = subst (λ x. IsLegal j.image j.declaration t x) run.1 (subst (λ x. IsLegal j.image j.declaration x ks) run.0 (legal s ks inv))
  all_legal (q ∷ qs) s t ks ls inv run = all_legal qs run.0 t (calls_after j.declaration s ks) ls (keeps j dd valid start begun s run.0 q ks inv run.2 run.1) run.3

pub starts : (j : Case) (dd : IsDeclared j.declaration) (valid : IsValid j) (s : State) (start : IsStart j.image j.declaration.start s) →
    Invariant j dd valid s.memory (start_is_begun (place_in j None) j.declaration.start s start) s []
starts j dd valid s start =
    let at : s.pc ≡ j.declaration.start = start.pc in
    let ss : IsState s = record { ac = start.ac; link = start.link; mq = start.mq; pc = rw at dd.start_is_word; words = start.words } in
    let lands : LandsAt j None s.pc (start_fact j.image) = subst (λ p. LandsAt j None p (start_fact j.image)) (sym at) (valid V1 j.declaration.start refl) in
    landed j dd valid s.memory (start_is_begun (place_in j None) j.declaration.start s start) None (start_fact j.image) s [] refl lands ss
    (start_fact_holds (place_in j None) s refl start) tt

pub runs_are_safe : (j : Case) → IsDeclared j.declaration → IsValid j → IsSafeInRuns j.image j.declaration
runs_are_safe j dd valid s t ls answers start run =
    all_legal j dd valid s.memory (start_is_begun (place_in j None) j.declaration.start s start) answers s t [] ls (starts j dd valid s start) run
