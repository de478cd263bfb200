-- The suspended callers: of each the fact that held when it called, and what has been left alone since.
use Rattle.std.proofs.Common.{◌≡◌, ℕ, ◌-◌, ◌<◌, ◌≤◌, Bool, true, false, ◌⊎◌, Some, [], ◌∷◌, refl, sym, ap, ◌∙◌, inl, inr, arith}
use Rattle.std.specs.Prelude.{if◌then◌else◌}
use Rattle.std.proofs.lemmas.Bool.{and_from, true≢false, cases_eq, lt-ltb}
use Rattle.wordset.specs.Words.{plus, IsWithin}
use Rattle.processor.specs.Cells.{Cells, updated}
use Rattle.processor.specs.Machine.{State, seen, steps_pointer}
use Rattle.declaration.specs.Declaration.{IsDeclared}
use Rattle.policy.specs.Calls.{Call, Calls, current}
use Rattle.domain.specs.Facts.{Fact, Means}
use Rattle.facts.specs.Instructions.{MayWrite}
use Rattle.facts.specs.States.{IsState, TopIsEntry}
use Rattle.facts.specs.Laws.{KeepsOutside, KeepsReturns}
use Rattle.facts.proofs.StateLemmas.{updated_other}
use Rattle.certificate_lines.specs.Certificate.{writes_of}
use Rattle.judge.specs.Landing.{Case, place_in, LandsAfter}

module _ (j : Case) (start : Cells) where
  -- e's rank is below the top's, and its written set within the top's
  abbrev pub Below : ℕ → Calls → Type 0
  Below e [] = Unit {0}
  Below e (k ∷ ks) = (j.certificate.rank e < j.certificate.rank k.entry) × IsWithin (j.certificate.writes e) (j.certificate.writes k.entry)

  -- a suspended caller, with its JMS before `after`: a fact held in the state of the call, and lands after each exit; variables
  -- outside the callee's written set and the caller's return word are as they were
  pub record Frame (memory : Cells) (k : Call) (ks : Calls) : Type 0 where
    pub entry : j.declaration.entry k.entry ≡ true
    pub below : Below k.entry ks
    pub call : Fact
    pub before : State
    pub state : IsState before
    pub means : Means (place_in j (current ks)) start call before ks
    pub kept : KeepsOutside j.declaration (j.certificate.writes k.entry) before.memory memory
    pub returns : KeepsReturns ks before.memory memory
    pub lands : LandsAfter j (current ks) (k.after - 1) k.entry call

  abbrev pub Frames : Cells → Calls → Type 0
  Frames memory [] = Unit {0}
  Frames memory (k ∷ ks) = Frame memory k ks × Frames memory ks

  -- e's rank is at most the top's, and its written set within the top's
  abbrev pub Covers : ℕ → Calls → Type 0
  Covers e [] = Unit {0}
  Covers e (k ∷ ks) = (j.certificate.rank e ≤ j.certificate.rank k.entry) × IsWithin (j.certificate.writes e) (j.certificate.writes k.entry)

  covers_rest : (e : ℕ) (k : Call) (ks : Calls) → Covers e (k ∷ ks) → Below k.entry ks → Covers e ks
  covers_rest e k [] a b = tt
  covers_rest e k (l ∷ ks) a b = (let x : j.certificate.rank e ≤ j.certificate.rank k.entry = a.0 in let y : j.certificate.rank k.entry < j.certificate.rank l.entry = b.0 in omega arith, λ v lt q. b.1 v lt (a.1 v lt q))

  -- what may change while e runs: variables of its written set, and no entry of higher rank
  pub record Changes (e : ℕ) (m n : Cells) : Type 0 where
    pub cells : (a : ℕ) → j.declaration.variable a ≡ true → (n a ≡ m a) ⊎ ((a < 4096) × (j.certificate.writes e a ≡ true))
    pub entries : (a : ℕ) → j.declaration.entry a ≡ true → j.certificate.rank e < j.certificate.rank a → n a ≡ m a

  returns_kept : (e : ℕ) (before m n : Cells) (k : Call) (ks : Calls) → Covers e (k ∷ ks) → Below k.entry ks → Changes e m n → Frames m ks → KeepsReturns ks before m → KeepsReturns ks before n
  returns_kept e before m n k [] cov b ch fs r = tt
  returns_kept e before m n k (l ∷ ks) cov b ch fs r =
      let x : j.certificate.rank e ≤ j.certificate.rank k.entry = cov.0 in
      let y : j.certificate.rank k.entry < j.certificate.rank l.entry = b.0 in
      ch.entries l.entry fs.0.entry (omega arith) ∙ r

  pub frames_kept : (e : ℕ) (m n : Cells) (ks : Calls) → Covers e ks → Changes e m n → Frames m ks → Frames n ks
  frames_kept e m n [] cov ch fs = tt
  frames_kept e m n (k ∷ ks) cov ch fs = (
    record {
      entry = fs.0.entry;
      below = fs.0.below;
      call = fs.0.call;
      before = fs.0.before;
      state = fs.0.state;
      means = fs.0.means;
      kept = λ a var q. elim (ch.cells a var) [
        | inl x ↦ x ∙ fs.0.kept a var q
        | inr x ↦ absurd (true≢false (sym (and_from _ _ (lt-ltb a 4096 x.0) (cov.1 a x.0 x.1)) ∙ q))
      ];
      returns = returns_kept e fs.0.before.memory m n k ks cov fs.0.below ch fs.1 fs.0.returns;
      lands = fs.0.lands;
    },
    frames_kept e m n ks (covers_rest e k ks cov fs.0.below) ch fs.1,
  )

  pub top_is_entry : (m : Cells) (ks : Calls) → Frames m ks → TopIsEntry j.declaration ks
  top_is_entry m [] fs = tt
  top_is_entry m (k ∷ ks) fs = fs.0.entry

  -- a write by the running routine
  abbrev pub MayPut : Calls → ℕ → Type 0
  MayPut ks y = ((j.declaration.variable y ≡ true) × MayWrite (writes_of j.certificate (current ks)) (current ks) y) ⊎ ((j.declaration.variable y ≡ false) × (current ks ≡ Some y))

  pub updated_frames : (dd : IsDeclared j.declaration) (m : Cells) (y v : ℕ) (ks : Calls) → y < 4096 → MayPut ks y → Frames m ks → Frames (updated m y v) ks
  updated_frames dd m y v [] lt may fs = tt
  updated_frames dd m y v (k ∷ ks) lt may fs = frames_kept k.entry m (updated m y v) (k ∷ ks) (omega arith, λ w l q. q) changes fs
    where
      var_not : (a : ℕ) → j.declaration.entry a ≡ true → j.declaration.variable y ≡ true → a ≡ y → ⊥
      var_not a en var e = true≢false (sym var ∙ dd.entry_not_variable y (rw e at en))

      written : (a : ℕ) → a ≡ y → (j.declaration.variable y ≡ true) × ((j.certificate.writes k.entry y ≡ true) ⊎ (y ≡ k.entry)) → j.certificate.writes k.entry a ≡ true
      written a e w = elim w.1 [ inl q ↦ (rw e q) | inr q ↦ absurd (var_not k.entry fs.0.entry w.0 (sym q)) ]

      changes : Changes k.entry m (updated m y v)
      changes = record {
        cells = λ a var. elim (cases_eq a y) [
          | inr n ↦ inl (updated_other m y v a n)
          | inl e ↦ elim may [
            | inl w ↦ inr ((let l : a < 4096 = omega arith in l), written a e w)
            | inr w ↦ absurd (true≢false (sym var ∙ (rw e w.0)))
          ]
        ];
        entries = λ a en r. updated_other m y v a (λ e. elim may [
          | inl w ↦ var_not a en w.0 e
          | inr w ↦ (let q : Some k.entry ≡ Some y = w.1 in let ky : k.entry ≡ y = cc in let ay : a ≡ k.entry = cc in let same : j.certificate.rank a ≡ j.certificate.rank k.entry = ap j.certificate.rank ay in omega arith)
        ]);
      }

  -- a JMS into e
  pub call_frames : (dd : IsDeclared j.declaration) (m : Cells) (e v : ℕ) (ks : Calls) → j.declaration.entry e ≡ true → Below e ks → Frames m ks → Frames (updated m e v) ks
  call_frames dd m e v ks en b fs = frames_kept e m (updated m e v) ks (covers ks b) changes fs
    where
      covers : (ls : Calls) → Below e ls → Covers e ls
      covers [] x = tt
      covers (k ∷ ls) x = (let l : j.certificate.rank e < j.certificate.rank k.entry = x.0 in omega arith, x.1)

      changes : Changes e m (updated m e v)
      changes = record {
        cells = λ a var. inl (updated_other m e v a (λ g. true≢false (sym var ∙ (rw g (dd.entry_not_variable e en)))));
        entries = λ a q r. updated_other m e v a (λ g. (let same : j.certificate.rank a ≡ j.certificate.rank e = ap j.certificate.rank g in omega arith));
      }

  pub seen_frames : (dd : IsDeclared j.declaration) (i : Bool) (p : ℕ) (m : Cells) (ks : Calls) → p < 4096 → (steps_pointer i p ≡ true → (j.declaration.variable p ≡ true) × MayWrite (writes_of j.certificate (current ks)) (current ks) p) → Frames m ks → Frames (seen i p m) ks
  seen_frames dd i p m ks lt may fs = go (steps_pointer i p) refl
    where
      go : (b : Bool) → steps_pointer i p ≡ b → Frames (if b then updated m p (plus (m p) 1) else m) ks
      go true e = updated_frames dd m p (plus (m p) 1) ks lt (inl (may e)) fs
      go false e = fs
