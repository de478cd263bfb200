-- A command that reads its inputs in order reports the fault of the first input that has one, and touches none of the
-- inputs after it.
use Rattle.std.proofs.Common.{ℕ, ◌≡◌, ◌⊎◌, ◌∙◌, Bool, true, false, List, [], refl, sym, ap, subst, inl, inr, arith}
use Rattle.std.specs.Prelude.{◌||◌, Option, Some, None, Result, Ok, Err, IfErr}
use Rattle.std.proofs.lemmas.Bool.{true≢false}
use Rattle.bin_tape.specs.declared.fault.TapeFault.{TapeFault}
use Rattle.declaration.specs.declared.DeclarationFault.{DeclarationFault}
use Rattle.command_parts.specs.Answers.{EndsAt, FailsBy, GoesOn, Reads, ReadsDeclaration, ReadsTape, ReadsTwo}
use Rattle.command_parts.specs.Faults.{IsDeclarationInputFault, IsEventsInputFault, IsTapeInputFault, fails_to_read, is_fault_of_declaration, is_fault_of_tape}
use Rattle.command_parts.specs.Inputs.{Input, IsGoodDeclaration, IsGoodTape, input}
use Rattle.command_parts.specs.declared.status.Fault.{Fault}
use Rattle.command_parts.specs.declared.status.Fault.TheVariants as fault
use Rattle.command_parts.specs.declared.status.DeviceFault.TheVariants as device
use Rattle.command_parts.proofs.AnswerLemmas.{refused, same_fault}
use Rattle.command_parts.proofs.InputLemmas.{takes_no_text}
use Rattle.diagnostics.specs.CertificateFaults.{IsCertificateInputFault}
use Rattle.diagnostics.specs.CertificateInputs.{TakesCertificate}
use Rattle.command_laws.specs.InOrder.{OneInOrder, ThreeInOrder, TwoInOrder, Work, Tells, Searches, Migrates, later_fault}

-- an input that was not touched
pub record IsAsItWas (one : Input) : Type 0 where
  pub failed : one.failed ≡ false
  pub left : one.left ≡ one.had

-- a fault that comes after a tape and a declaration, so is a fault of neither
pub record ComesBehind (W : Fault → Type 0) : Type 0 where
  pub tape : (f : TapeFault) → W (fault.Tape f) → ⊥
  pub declared : (f : DeclarationFault) → W (fault.Declared f) → ⊥

abbrev NoRead : (Fault → Type 0) → Type 0
NoRead W = W (fault.Device device.Read) → ⊥

or_false : (a : Bool) → a || false ≡ a
or_false true = refl
or_false false = refl

not_both : {A : Type 0} {a : Bool} → a ≡ true → a ≡ false → A
not_both is isnt = absurd (true≢false (sym is ∙ isnt))

-- whether a fault is that memory was refused
abbrev is_memory : Fault → Bool
is_memory fault.NoMemory = true
is_memory _ = false

not_memory : {A : Type 0} {f : Fault} → f ≡ fault.NoMemory → is_memory f ≡ false → A
not_memory is isnt = not_both (ap is_memory is) isnt

-- the fault is that of the first input that has one
first_fault : {T : Type 0} {F : Input → Fault → Type 0} {G : Option (List ℕ) → Type 0} {K : Option (List ℕ) → Option (List ℕ) → Type 0} {one : Input} {u : Type 0} {R : Result T Fault → Type 0} {f : Fault} →
    Reads {T = T} F G K one u R (Err f) → F one f ⊎ (G one.had × R (Err f))
first_fault {T = T} {F = F} {G = G} {one = one} {u = u} {R = R} {f = f} h = told h.ends
  where
    told : EndsAt F one u (refused T f) ⊎ GoesOn G one R (refused T f) → F one f ⊎ (G one.had × R (refused T f))
    told (inl e) = let same : f ≡ e.fault = same_fault T f e.fault e.is in inl (subst (λ (x : Fault). F one x) (sym same) e.has)
    told (inr e) = inr (e.good, e.rest)

then : {A B C D : Type 0} → A ⊎ (B × C) → (C → D) → A ⊎ (B × D)
then (inl a) on = inl a
then (inr (b, c)) on = inr (b, on c)

-- the reading ends here or goes on, and the claim follows in either case
ends_or : {T : Type 0} {F : Input → Fault → Type 0} {G : Option (List ℕ) → Type 0} {K : Option (List ℕ) → Option (List ℕ) → Type 0} {one : Input} {u X : Type 0} {R : Result T Fault → Type 0} {result : Result T Fault} →
    (EndsAt F one u result → X) → (GoesOn G one R result → X) → Reads {T = T} F G K one u R result → X
ends_or {T = T} {F = F} {G = G} {one = one} {u = u} {X = X} {R = R} {result = result} here on h = go h.ends
  where
    go : EndsAt F one u result ⊎ GoesOn G one R result → X
    go (inl e) = here e
    go (inr e) = on e

-- work that reads nothing has no failed read
no_read : {T : Type 0} (W : Fault → Type 0) (result : Result T Fault) → NoRead W → FailsBy W result → fails_to_read result ≡ false
no_read W (Ok x) none is = refl
no_read W (Err (fault.Device device.Read)) none is = absurd (none is)
no_read W (Err (fault.Device device.Write)) none is = refl
no_read W (Err _) none is = refl

-- a fault that comes after a tape is not a fault of the tape
behind_tape : {A : Type 0} {W : Fault → Type 0} (text : Input) (f : Fault) → ComesBehind W → IsDeclarationInputFault text f ⊎ (IsGoodDeclaration text.had × W f) → is_fault_of_tape f ≡ true → A
behind_tape text (fault.Tape t) behind (inl is) of_tape = absurd is
behind_tape text (fault.Tape t) behind (inr is) of_tape = absurd (behind.tape t is.1)
behind_tape text _ behind is of_tape = absurd (true≢false (sym of_tape))

behind_declaration : {A : Type 0} {W : Fault → Type 0} (f : Fault) → ComesBehind W → W f → is_fault_of_declaration f ≡ true → A
behind_declaration (fault.Declared d) behind is of_text = absurd (behind.declared d is)
behind_declaration _ behind is of_text = absurd (true≢false (sym of_text))

pub one_in_order : {T : Type 0} {F : Input → Fault → Type 0} {G : Option (List ℕ) → Type 0} {K : Option (List ℕ) → Option (List ℕ) → Type 0} {one : Input} {W : Fault → Type 0} (result : Result T Fault) →
    NoRead W → Reads {T = T} F G K one (Unit {0}) (FailsBy W) result → OneInOrder F G K W one result
one_in_order {T = T} {F = F} {G = G} {K = K} {one = one} {W = W} result none h = record {
  faults = faults result h;
  reads = ends_or (λ e. e.marks) (λ k. k.marks ∙ sym (no_read W result none k.rest)) h;
  takes = h.takes;
}
  where
    faults : (r : Result T Fault) → Reads {T = T} F G K one (Unit {0}) (FailsBy W) r → IfErr r (λ f. F one f ⊎ (G one.had × W f))
    faults (Ok x) is = tt
    faults (Err f) is = first_fault is

pub two_in_order : {T : Type 0} {W : Fault → Type 0} {tape text : Input} {u : Type 0} (result : Result T Fault) → (u → IsAsItWas text) → NoRead W → ComesBehind W →
    ReadsTwo {T = T} W tape text u result → TwoInOrder W tape text u result
two_in_order {T = T} {W = W} {tape = tape} {text = text} {u = u} result still none behind h = record {
  faults = faults result h;
  reads = reads;
  unread = unread result h;
  unread_after_failure = λ failed. ends_or (λ e. e.rest) (λ k. not_both failed k.marks) h;
  declaration_after_tape = ends_or (λ e. inl e.rest) (λ k. inr k.good) h;
  takes_tape = h.takes;
  takes_declaration = ends_or (λ e. rw (still e.rest).left (takes_no_text 16385 text.had)) (λ k. k.rest.takes) h;
}
  where
    faults : (r : Result T Fault) → ReadsTwo {T = T} W tape text u r → IfErr r (λ f. IsTapeInputFault tape f ⊎ (IsGoodTape tape.had × (IsDeclarationInputFault text f ⊎ (IsGoodDeclaration text.had × W f))))
    faults (Ok x) is = tt
    faults (Err f) is = then (first_fault is) (λ rest. first_fault rest)

    second : ReadsDeclaration {T = T} text (Unit {0}) (FailsBy W) result → text.failed ≡ fails_to_read result
    second is = ends_or (λ e. e.marks) (λ k. k.marks ∙ sym (no_read W result none k.rest)) is

    reads : tape.failed || text.failed ≡ fails_to_read result
    reads = ends_or (λ e. rw (still e.rest).failed (or_false tape.failed ∙ e.marks)) (λ k. rw k.marks (second k.rest)) h

    unread : (r : Result T Fault) → ReadsTwo {T = T} W tape text u r → IfErr r (λ f. is_fault_of_tape f ≡ true → u)
    unread (Ok x) is = tt
    unread (Err f) is = λ of_tape. ends_or (λ e. e.rest) (λ k. behind_tape text f behind (first_fault k.rest) of_tape) is

pub three_in_order : {T : Type 0} {F : Input → Fault → Type 0} {G : Option (List ℕ) → Type 0} {K : Option (List ℕ) → Option (List ℕ) → Type 0} {W : Fault → Type 0} {tape text third : Input} {u v : Type 0} (result : Result T Fault) →
    (u → IsAsItWas text) → (v → IsAsItWas third) → K third.had third.had → NoRead W → ComesBehind W → ComesBehind (F third) →
    ReadsTape {T = T} tape (u × v) (ReadsDeclaration text v (Reads F G K third (Unit {0}) (FailsBy W))) result → ThreeInOrder F G K W tape text third u v result
three_in_order {T = T} {F = F} {G = G} {K = K} {W = W} {tape = tape} {text = text} {third = third} {u = u} {v = v} result still still_third nothing none behind third_behind h = record {
  faults = faults result h;
  reads = reads;
  unread = unread result h;
  unread_after_failure = λ failed. ends_or (λ e. e.rest) (λ k. not_both failed k.marks) h;
  unread_third = unread_third result h;
  unread_third_after_failure = λ failed. ends_or (λ e. e.rest.1) (λ k. ends_or (λ e. e.rest) (λ m. not_both failed m.marks) k.rest) h;
  declaration_after_tape = ends_or (λ e. inl e.rest.0) (λ k. inr k.good) h;
  third_after_declaration = ends_or (λ e. inl e.rest.1) (λ k. ends_or (λ e. inl e.rest) (λ m. inr m.good) k.rest) h;
  wanted = λ is. wanted result is h;
  takes_tape = h.takes;
  takes_declaration = ends_or (λ e. rw (still e.rest.0).left (takes_no_text 16385 text.had)) (λ k. k.rest.takes) h;
  takes_third = ends_or (λ e. untouched e.rest.1) (λ k. ends_or (λ e. untouched e.rest) (λ m. m.rest.takes) k.rest) h;
}
  where
    Third : Result T Fault → Type 0
    Third r = Reads {T = T} F G K third (Unit {0}) (FailsBy W) r

    All : Result T Fault → Type 0
    All r = ReadsTape {T = T} tape (u × v) (ReadsDeclaration text v (Reads F G K third (Unit {0}) (FailsBy W))) r

    Later : Fault → Type 0
    Later f = F third f ⊎ (G third.had × W f)

    later_behind : ComesBehind Later
    later_behind = record { tape = λ f is. of_tape f is; declared = λ f is. of_text f is }
      where
        of_tape : (f : TapeFault) → Later (fault.Tape f) → ⊥
        of_tape f (inl is) = third_behind.tape f is
        of_tape f (inr is) = behind.tape f is.1

        of_text : (f : DeclarationFault) → Later (fault.Declared f) → ⊥
        of_text f (inl is) = third_behind.declared f is
        of_text f (inr is) = behind.declared f is.1

    untouched : v → K third.had third.left
    untouched same = rw (still_third same).left nothing

    faults : (r : Result T Fault) → All r → IfErr r (λ f. IsTapeInputFault tape f ⊎ (IsGoodTape tape.had × (IsDeclarationInputFault text f ⊎ (IsGoodDeclaration text.had × (F third f ⊎ (G third.had × W f))))))
    faults (Ok x) is = tt
    faults (Err f) is = then (first_fault is) (λ rest. then (first_fault rest) (λ more. first_fault more))

    last : Third result → third.failed ≡ fails_to_read result
    last is = ends_or (λ e. e.marks) (λ k. k.marks ∙ sym (no_read W result none k.rest)) is

    second : ReadsDeclaration {T = T} text v (Reads F G K third (Unit {0}) (FailsBy W)) result → text.failed || third.failed ≡ fails_to_read result
    second is = ends_or (λ e. rw (still_third e.rest).failed (or_false text.failed ∙ e.marks)) (λ k. rw k.marks (last k.rest)) is

    reads : (tape.failed || text.failed) || third.failed ≡ fails_to_read result
    reads = ends_or (λ e. rw ((still e.rest.0).failed, (still_third e.rest.1).failed) (or_false (tape.failed || false) ∙ (or_false tape.failed ∙ e.marks))) (λ k. rw k.marks (second k.rest)) h

    unread : (r : Result T Fault) → All r → IfErr r (λ f. is_fault_of_tape f ≡ true → u × v)
    unread (Ok x) is = tt
    unread (Err f) is = λ of_tape. ends_or (λ e. e.rest) (λ k. behind_tape {W = Later} text f later_behind (then (first_fault k.rest) (λ more. first_fault more)) of_tape) is

    unread_third : (r : Result T Fault) → All r → IfErr r (λ f. is_fault_of_declaration f ≡ true → v)
    unread_third (Ok x) is = tt
    unread_third (Err f) is = λ of_text. ends_or (λ e. e.rest.1) (λ k. ends_or (λ e. e.rest) (λ m. behind_declaration {W = Later} f later_behind (first_fault m.rest) of_text) k.rest) is

    wanted : (r : Result T Fault) → r ≡ Err fault.NoMemory → All r → v ⊎ (F third fault.NoMemory ⊎ G third.had)
    wanted r is reading = ends_or (λ e. inl e.rest.1) (λ k. ends_or (λ e. inl e.rest) (λ m. inr (either (first_fault (subst Third is m.rest)))) k.rest) reading
      where
        either : F third fault.NoMemory ⊎ (G third.had × W fault.NoMemory) → F third fault.NoMemory ⊎ G third.had
        either (inl is) = inl is
        either (inr is) = inr is.0

-- the work of a command reads nothing
pub work_reads_nothing : (work : Work) → NoRead (later_fault work)
work_reads_nothing Tells (inl is) = not_memory is refl
work_reads_nothing Tells (inr is) = absurd is
work_reads_nothing Searches (inl is) = not_memory is refl
work_reads_nothing Searches (inr is) = absurd is
work_reads_nothing Migrates (inl is) = absurd is
work_reads_nothing Migrates (inr is) = absurd is

work_of_tape : (work : Work) (f : TapeFault) → later_fault work (fault.Tape f) → ⊥
work_of_tape Tells f (inl is) = not_memory is refl
work_of_tape Tells f (inr is) = absurd is
work_of_tape Searches f (inl is) = not_memory is refl
work_of_tape Searches f (inr is) = absurd is
work_of_tape Migrates f (inl is) = absurd is
work_of_tape Migrates f (inr is) = absurd is

work_of_text : (work : Work) (f : DeclarationFault) → later_fault work (fault.Declared f) → ⊥
work_of_text Tells f (inl is) = not_memory is refl
work_of_text Tells f (inr is) = absurd is
work_of_text Searches f (inl is) = not_memory is refl
work_of_text Searches f (inr is) = absurd is
work_of_text Migrates f (inl is) = absurd is
work_of_text Migrates f (inr is) = absurd is

pub work_comes_behind : (work : Work) → ComesBehind (later_fault work)
work_comes_behind work = record { tape = work_of_tape work; declared = work_of_text work }

-- a certificate comes after a tape and a declaration, and so does a text of events
pub certificate_comes_behind : (certificate : Input) → ComesBehind (IsCertificateInputFault certificate)
certificate_comes_behind certificate = record { tape = λ f is. is; declared = λ f is. is }

pub events_come_behind : (list : Input) → ComesBehind (IsEventsInputFault list)
events_come_behind list = record { tape = λ f is. is; declared = λ f is. is }

pub takes_no_certificate : (had : Option (List ℕ)) → TakesCertificate had had
takes_no_certificate None = record { limit = tt; prompt = tt }
takes_no_certificate (Some bytes) = record { limit = ([], refl, omega arith); prompt = ([], refl, λ n more. absurd (omega (arith, more))) }

-- a byte source that is unchanged is an input that was not touched
pub as_it_was : {S : Type 0} (mark : S → Bool) (remaining : S → Option (List ℕ)) (old new : S) → mark old ≡ false → new ≡ old → IsAsItWas (input (mark new) (remaining old) (remaining new))
as_it_was mark remaining old new readable same = record { failed = ap mark same ∙ readable; left = ap remaining same }
