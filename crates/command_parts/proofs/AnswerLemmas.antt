-- How the answer of a command follows from what it read, from its work and from what it wrote.
use Rattle.std.proofs.Common.{ℕ, ◌≡◌, ◌⊎◌, Bool, true, false, List, refl, sym, ◌∙◌, subst, inl, inr}
use Rattle.std.specs.Prelude.{Option, Result, Ok, Err, IfOk, IfErr, IsOkAnd}
use Rattle.std.specs.Io.KnownBytes.{Appends}
use Rattle.std.proofs.lemmas.Bool.{true≢false}
use Rattle.streams.specs.Bytes.{AppendsFront}
use Rattle.command_parts.specs.declared.status.Fault.{Fault}
use Rattle.command_parts.specs.declared.status.Fault.TheVariants.{Device}
use Rattle.command_parts.specs.declared.outcome.CommandResult.{CommandResult}
use Rattle.command_parts.specs.declared.status.Status.{Status}
use Rattle.command_parts.specs.declared.status.DeviceFault.TheVariants.{Read, Write}
use Rattle.command_parts.specs.Answers.{EndsAt, FailsBy, GoesOn, IsLaterFault, NeverFails, Output, Reads, ReadsDeclaration, ReadsTape, ReadsTwo, WritesAnswer, output}
use Rattle.command_parts.specs.Faults.{IsWriteFault, fails_to_read, fails_to_write}
use Rattle.command_parts.specs.Inputs.{Input}
use Rattle.command_parts.specs.Writes.{Writes}

-- a fault as an answer
abbrev pub refused : (T : Type 0) → Fault → Result T Fault
refused T f = Err f

abbrev answered : (T : Type 0) → T → Result T Fault
answered T x = Ok x

pub same_fault : (T : Type 0) (f e : Fault) → refused T f ≡ refused T e → f ≡ e
same_fault T f e is = cc

no_fault : (T : Type 0) (x : T) (e : Fault) → answered T x ≡ refused T e → ⊥
no_fault T x e is = cc

pub reads_alike : (S T : Type 0) (f : Fault) → fails_to_read (refused S f) ≡ fails_to_read (refused T f)
reads_alike S T (Device Read) = refl
reads_alike S T (Device Write) = refl
reads_alike S T _ = refl

-- of a call that had a fault its caller has it too
pub refused_so : {S T : Type 0} {F : Input → Fault → Type 0} {G : Option (List ℕ) → Type 0} {K : Option (List ℕ) → Option (List ℕ) → Type 0} {one : Input} {u v : Type 0}
    {R : Result S Fault → Type 0} {Q : Result T Fault → Type 0} {f : Fault} → (u → v) → (R (Err f) → Q (Err f)) → Reads {T = S} F G K one u R (Err f) → Reads {T = T} F G K one v Q (Err f)
refused_so {S = S} {T = T} {F = F} {G = G} {one = one} {u = u} {v = v} {R = R} {Q = Q} {f = f} more on h = record { takes = h.takes; ends = ends h.ends }
  where
    ends : EndsAt F one u (refused S f) ⊎ GoesOn G one R (refused S f) → EndsAt F one v (refused T f) ⊎ GoesOn G one Q (refused T f)
    ends (inl e) = let same : f ≡ e.fault = same_fault S f e.fault e.is in inl (record { fault = f; is = refl; has = subst (λ (x : Fault). F one x) (sym same) e.has; marks = e.marks ∙ reads_alike S T f; rest = more e.rest })
    ends (inr e) = inr (record { good = e.good; marks = e.marks; rest = on e.rest })

-- after a call that had none the caller goes on
pub goes_on : {S T : Type 0} {F : Input → Fault → Type 0} {G : Option (List ℕ) → Type 0} {K : Option (List ℕ) → Option (List ℕ) → Type 0} {one : Input} {u v : Type 0}
    {R : Result S Fault → Type 0} {Q : Result T Fault → Type 0} {s : S} (result : Result T Fault) → (R (Ok s) → Q result) → Reads {T = S} F G K one u R (Ok s) → Reads {T = T} F G K one v Q result
goes_on {S = S} {F = F} {G = G} {one = one} {u = u} {v = v} {R = R} {Q = Q} {s = s} result on h = record { takes = h.takes; ends = ends h.ends }
  where
    ends : EndsAt F one u (answered S s) ⊎ GoesOn G one R (answered S s) → EndsAt F one v result ⊎ GoesOn G one Q result
    ends (inl e) = absurd (no_fault S s e.fault e.is)
    ends (inr e) = inr (record { good = e.good; marks = e.marks; rest = on e.rest })

-- an input by itself
pub read_alone : {T : Type 0} {F : Input → Fault → Type 0} {G : Option (List ℕ) → Type 0} {K : Option (List ℕ) → Option (List ℕ) → Type 0} {one : Input} {u : Type 0} {R : Result T Fault → Type 0}
    (result : Result T Fault) → IfErr result (F one) → IfOk result (λ x. G one.had × R (Ok x)) → one.failed ≡ fails_to_read result → K one.had one.left → u → Reads {T = T} F G K one u R result
read_alone (Ok x) is good marks takes rest = record { takes = takes; ends = inr (record { good = good.0; marks = marks; rest = good.1 }) }
read_alone (Err f) is good marks takes rest = record { takes = takes; ends = inl (record { fault = f; is = refl; has = is; marks = marks; rest = rest }) }

-- a good input, after which a command goes on
pub good_alone : {T : Type 0} {F : Input → Fault → Type 0} {G : Option (List ℕ) → Type 0} {K : Option (List ℕ) → Option (List ℕ) → Type 0} {one : Input} {u : Type 0} {R : Result T Fault → Type 0} (result : Result T Fault) →
    R result → G one.had → one.failed ≡ false → K one.had one.left → Reads {T = T} F G K one u R result
good_alone result rest good marks takes = record { takes = takes; ends = inr (record { good = good; marks = marks; rest = rest }) }

-- a tape and a declaration, of which one is refused
pub two_refused : {S T : Type 0} {tape text : Input} {u : Type 0} {W : Fault → Type 0} {f : Fault} → ReadsTwo {T = S} NeverFails tape text u (Err f) → ReadsTwo {T = T} W tape text u (Err f)
two_refused h = refused_so (λ same. same) (λ rest. refused_so (λ none. none) (λ never. absurd never) rest) h

-- or which are good
pub two_good : {S T : Type 0} {tape text : Input} {u : Type 0} {W : Fault → Type 0} {s : S} (result : Result T Fault) → FailsBy W result → ReadsTwo {T = S} NeverFails tape text u (Ok s) →
    ReadsTwo {T = T} W tape text u result
two_good result later h = goes_on result (λ rest. goes_on result (λ none. later) rest) h

-- three inputs, of which one is refused
pub three_refused : {S T : Type 0} {F : Input → Fault → Type 0} {G : Option (List ℕ) → Type 0} {K : Option (List ℕ) → Option (List ℕ) → Type 0} {tape text third : Input} {u v w : Type 0} {W : Fault → Type 0} {f : Fault} →
    ReadsTape {T = S} tape u (ReadsDeclaration text v (Reads F G K third w (FailsBy NeverFails))) (Err f) → ReadsTape {T = T} tape u (ReadsDeclaration text v (Reads F G K third w (FailsBy W))) (Err f)
three_refused h = refused_so (λ same. same) (λ rest. refused_so (λ same. same) (λ more. refused_so (λ none. none) (λ never. absurd never) more) rest) h

-- or which are good
pub three_good : {S T : Type 0} {F : Input → Fault → Type 0} {G : Option (List ℕ) → Type 0} {K : Option (List ℕ) → Option (List ℕ) → Type 0} {tape text third : Input} {u v w : Type 0} {W : Fault → Type 0} {s : S}
    (result : Result T Fault) → FailsBy W result → ReadsTape {T = S} tape u (ReadsDeclaration text v (Reads F G K third w (FailsBy NeverFails))) (Ok s) →
    ReadsTape {T = T} tape u (ReadsDeclaration text v (Reads F G K third w (FailsBy W))) result
three_good result later h = goes_on result (λ rest. goes_on result (λ more. goes_on result (λ none. later) more) rest) h

-- nothing is written before a fault that isn't a write's
pub nothing_written : {T : Type 0} {P : T → List ℕ → Type 0} {failed : Bool} {tells : Option (List ℕ)} (f : Fault) → failed ≡ false →
    fails_to_write (refused T f) ≡ false → WritesAnswer {T = T} P (output failed tells tells) (Err f)
nothing_written f fine not_write = record {
  written = tt;
  front = λ is. absurd (true≢false (sym is ∙ fine));
  nothing = λ is. refl;
  marks = fine ∙ sym not_write;
}

-- a text that is right for an answer was put out
pub text_written : {T : Type 0} {P : T → List ℕ → Type 0} {out : Output} (answer : T) (text : List ℕ) → P answer text →
    Appends out.old out.new text → out.failed ≡ false → WritesAnswer P out (Ok answer)
text_written answer text is appends fine = record {
  written = record { text = text; is = is; written = appends };
  front = λ marked. absurd (true≢false (sym marked ∙ fine));
  nothing = tt;
  marks = fine;
}

-- or a front of it
pub front_written : {T : Type 0} {P : T → List ℕ → Type 0} {out : Output} (answer : T) (text : List ℕ) → P answer text →
    AppendsFront out.old out.new text → out.failed ≡ true → WritesAnswer P out (Err (Device Write))
front_written answer text is front failed = record {
  written = tt;
  front = λ marked. record { text = text; is = (answer, is); front = front };
  nothing = λ fine. absurd (true≢false (sym failed ∙ fine));
  marks = failed;
}

-- what is written is right for more
pub written_so : {T : Type 0} {P Q : T → List ℕ → Type 0} {out : Output} {result : Result T Fault} → ((answer : T) (text : List ℕ) → P answer text → Q answer text) →
    WritesAnswer P out result → WritesAnswer Q out result
written_so {T = T} {P = P} {Q = Q} {out = out} {result = result} on w = record {
  written = all result w.written;
  front = λ marked. let told = w.front marked in record { text = told.text; is = (told.is.0, on told.is.0 told.text told.is.1); front = told.front };
  nothing = w.nothing;
  marks = w.marks;
}
  where
    all : (r : Result T Fault) → IfOk r (λ answer. Writes (P answer) out.old out.new) → IfOk r (λ answer. Writes (Q answer) out.old out.new)
    all (Ok answer) is = record { text = is.text; is = on answer is.text is.is; written = is.written }
    all (Err f) is = tt

-- the text of an outcome is right
pub outcome_written : {T : Type 0} {P : T → List ℕ → Type 0} {out : Output} {result : Result T Fault} (answer : T) (text : List ℕ) → P answer text →
    WritesAnswer (λ a t. (a ≡ answer) × (t ≡ text)) out result → WritesAnswer P out result
outcome_written {P = P} answer text is w = written_so (λ a t same. rw (same.0, same.1) is) w

-- what a command delivers is right
pub delivered : {A : Type 0} {P R : Status → List ℕ → Type 0} {out : Output} {result : Result Status Fault} (told : Result (CommandResult A) Fault) →
    IfOk told (λ o. R o.status o.text.items) → ((status : Status) (text : List ℕ) → R status text → P status text) →
    WritesAnswer (λ s t. IsOkAnd told (λ o. (s ≡ o.status) × (t ≡ o.text.items))) out result → WritesAnswer P out result
delivered (Ok o) is on w = written_so (λ s t same. rw (same.0, same.1) (on o.status o.text.items is)) w
delivered (Err f) is on w = written_so (λ s t none. absurd none) w

-- the faults of what is delivered
pub delivers_by : {O T : Type 0} (W : Fault → Type 0) (told : Result O Fault) (result : Result T Fault) → IfErr told W →
    IfErr result (λ f. (told ≡ Err f) ⊎ IsWriteFault f) → FailsBy (IsLaterFault W) result
delivers_by W told (Ok x) is faults = tt
delivers_by W (Ok o) (Err f) is (inl same) = absurd (no_fault _ o f same)
delivers_by W (Err e) (Err f) is (inl same) = inl (subst W (same_fault _ e f same) is)
delivers_by W told (Err f) is (inr write) = inr write

-- after the work only a write fails
pub write_follows : {T : Type 0} (W : Fault → Type 0) (result : Result T Fault) → IfErr result IsWriteFault → FailsBy (IsLaterFault W) result
write_follows W (Ok x) is = tt
write_follows W (Err f) is = inr is
