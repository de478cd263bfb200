-- What a run writes, from its parts.
use Rattle.std.proofs.Common.{ℕ, ◌≡◌, Bool, true, false, List, ◌++◌, refl, inl, inr}
use Rattle.std.specs.Prelude.{◌⊎◌, Option, None, Result, Err, IfErr, OnErr}
use Rattle.std.specs.Io.KnownBytes.{Appends}
use Rattle.std.proofs.KnownBytes.{Appends-trans}
use Rattle.streams.specs.Bytes.{AppendsFront}
use Rattle.instruct.specs.declared.Profile.{Profile}
use Rattle.peripherals.specs.declared.Event.{Event}
use Rattle.peripherals.specs.Devices.{WorldState}
use Rattle.machine_commands.specs.declared.follow.RunOutcome.{RunOutcome}
use Rattle.wordset.specs.Lanes.{words}
use Rattle.command_parts.specs.declared.options.RunOptions.{RunOptions}
use Rattle.command_parts.specs.declared.status.Fault.{Fault}
use Rattle.command_parts.specs.declared.status.Fault.TheVariants.{NoMemory}
use Rattle.command_parts.specs.declared.status.Status.{Status}
use Rattle.machine_commands.specs.Course.{Ran, RanToOutput}
use Rattle.command_parts.specs.Faults.{IsEventsInputFault, IsTapeInputFault, fails_to_write}
use Rattle.machine_commands.specs.Follows.{Follows, IsTraceOfSome, IsTraceUpToOutput, rounds}
use Rattle.command_parts.specs.Inputs.{HasCome, HasEvents, HasImage, Input}
use Rattle.machine_commands.specs.Running.{IsPartOf, IsRunText, IsRunTold, IsTraceOfEvents, IsTraceOfRounds, IsTraceToOutput, fresh, shown_of, status_of}
use Rattle.machine_commands.specs.Last.{told}
use Rattle.machine_commands.specs.Summary.{closing}
use Rattle.machine_commands.specs.Trace.{traced}
use Rattle.command_parts.specs.Writes.{FrontOf, Writes}
use Rattle.machine_commands.proofs.FollowLemmas.{front_after, output_traced, ran_whole}

run_told : (options : RunOptions) (shown : Option ℕ) (stopped ends : Bool) (events : List Event) (image : List (Option ℕ)) (p : Profile) (w x : WorldState) (ran outcome : RunOutcome) (lines : List ℕ) (status : Status) →
    p ≡ options.profile → w ≡ fresh image options.start → Follows p ends events w lines ran.steps ran.end x → outcome.steps ≡ ran.steps → outcome.end ≡ told stopped ran.end x → status ≡ status_of outcome.end →
    IsRunTold options shown stopped ends events image (shown_of options.trace shown lines ++ closing (words options.show) outcome.end x outcome.steps) status
run_told options shown stopped ends events image p w x ran outcome lines status profile begins follows steps ends_so is = record {
  lines = lines;
  steps = ran.steps;
  end = ran.end;
  final = x;
  follows = rw (profile, begins) at follows;
  text_is = rw (steps, ends_so) refl;
  status_is = rw ends_so at is;
}

pub told_whole : (options : RunOptions) (shown : Option ℕ) (stopped ends : Bool) (events : List Event) (image : List (Option ℕ)) (p : Profile) (w x : WorldState) (ran outcome : RunOutcome) (lines : List ℕ) (status : Status) (old new : Option (List ℕ)) →
    p ≡ options.profile → w ≡ fresh image options.start → Follows p ends events w lines ran.steps ran.end x → outcome.steps ≡ ran.steps → outcome.end ≡ told stopped ran.end x → status ≡ status_of outcome.end →
    Appends old new (shown_of options.trace shown lines ++ closing (words options.show) outcome.end x outcome.steps) → Writes (λ text. IsRunTold options shown stopped ends events image text status) old new
told_whole options shown stopped ends events image p w x ran outcome lines status old new profile begins follows steps ends_so is written = record {
  text = shown_of options.trace shown lines ++ closing (words options.show) outcome.end x outcome.steps;
  is = run_told options shown stopped ends events image p w x ran outcome lines status profile begins follows steps ends_so is;
  written = written;
}

pub told_front : (options : RunOptions) (shown : Option ℕ) (stopped ends : Bool) (events : List Event) (image : List (Option ℕ)) (p : Profile) (w x : WorldState) (ran outcome : RunOutcome) (lines : List ℕ) (old new : Option (List ℕ)) →
    p ≡ options.profile → w ≡ fresh image options.start → Follows p ends events w lines ran.steps ran.end x → outcome.steps ≡ ran.steps → outcome.end ≡ told stopped ran.end x →
    AppendsFront old new (shown_of options.trace shown lines ++ closing (words options.show) outcome.end x outcome.steps) → FrontOf (IsRunText options shown stopped ends events image) old new
told_front options shown stopped ends events image p w x ran outcome lines old new profile begins follows steps ends_so front = record {
  text = shown_of options.trace shown lines ++ closing (words options.show) outcome.end x outcome.steps;
  is = (status_of outcome.end, run_told options shown stopped ends events image p w x ran outcome lines (status_of outcome.end) profile begins follows steps ends_so refl);
  front = front;
}

-- the trace, and then the summary
pub run_whole : (options : RunOptions) (stopped ends : Bool) (events : List Event) (image : List (Option ℕ)) (p : Profile) (w x : WorldState) (ran outcome : RunOutcome) (status : Status) (old mid new : Option (List ℕ)) →
    p ≡ options.profile → w ≡ fresh image options.start → Ran p ends options.trace events w ran x old mid → outcome.steps ≡ ran.steps → outcome.end ≡ told stopped ran.end x →
    Appends mid new (closing (words options.show) outcome.end x outcome.steps) → status ≡ status_of outcome.end → Writes (λ text. IsRunTold options None stopped ends events image text status) old new
run_whole options stopped ends events image p w x ran outcome status old mid new profile begins come steps ends_so written is =
    told_whole options None stopped ends events image p w x ran outcome come.lines status old new profile begins come.follows steps ends_so is
    (Appends-trans old mid new (traced options.trace come.lines) (closing (words options.show) outcome.end x outcome.steps) come.wrote written)

pub run_front : (options : RunOptions) (stopped ends : Bool) (events : List Event) (image : List (Option ℕ)) (p : Profile) (w x : WorldState) (ran outcome : RunOutcome) (old mid new : Option (List ℕ)) →
    p ≡ options.profile → w ≡ fresh image options.start → Ran p ends options.trace events w ran x old mid → outcome.steps ≡ ran.steps → outcome.end ≡ told stopped ran.end x →
    AppendsFront mid new (closing (words options.show) outcome.end x outcome.steps) → FrontOf (IsPartOf options stopped ends events image) old new
run_front options stopped ends events image p w x ran outcome old mid new profile begins come steps ends_so front =
    let whole = told_front options None stopped ends events image p w x ran outcome come.lines old new profile begins come.follows steps ends_so
    (front_after old mid new (traced options.trace come.lines) (closing (words options.show) outcome.end x outcome.steps) come.wrote front) in
    record { text = whole.text; is = inl whole.is; front = whole.front }

-- the lines of the events before one that puts out a byte, and no more
trace_only : (options : RunOptions) (ends : Bool) (events : List Event) (image : List (Option ℕ)) (p : Profile) (w : WorldState) (old new : Option (List ℕ)) →
    p ≡ options.profile → w ≡ fresh image options.start → options.trace ≡ true → Writes (IsTraceUpToOutput p ends events w) old new →
    Writes (IsTraceToOutput options ends events image) old new
trace_only options ends events image p w old new profile begins asked wrote = record {
  text = wrote.text;
  is = record { asked = asked; is = let some : IsTraceUpToOutput p ends events w wrote.text = wrote.is in rw (profile, begins) at some };
  written = wrote.written;
}

pub trace_refused : (options : RunOptions) (ends : Bool) (events : List Event) (image : List (Option ℕ)) (p : Profile) (w x : WorldState) (old new : Option (List ℕ)) →
    p ≡ options.profile → w ≡ fresh image options.start → options.trace ≡ true → RanToOutput p ends options.trace events w x old new →
    Writes (IsTraceToOutput options ends events image) old new
trace_refused options ends events image p w x old new profile begins asked ran =
    trace_only options ends events image p w old new profile begins asked (output_traced p ends options.trace events w x old new ran asked)

-- the lines of the whole run, and no summary
pub trace_whole : (options : RunOptions) (ends : Bool) (events : List Event) (image : List (Option ℕ)) (p : Profile) (w x : WorldState) (outcome : RunOutcome) (old new : Option (List ℕ)) →
    p ≡ options.profile → w ≡ fresh image options.start → options.trace ≡ true → Ran p ends options.trace events w outcome x old new →
    Writes (IsTraceToOutput options ends events image) old new
trace_whole options ends events image p w x outcome old new profile begins asked ran =
    trace_only options ends events image p w old new profile begins asked (ran_whole p ends options.trace events w x outcome old new ran asked)

pub trace_front : (options : RunOptions) (stopped ends : Bool) (events : List Event) (image : List (Option ℕ)) (p : Profile) (w : WorldState) (old new : Option (List ℕ)) →
    p ≡ options.profile → w ≡ fresh image options.start → options.trace ≡ true → FrontOf (IsTraceOfSome p ends events w) old new →
    FrontOf (IsPartOf options stopped ends events image) old new
trace_front options stopped ends events image p w old new profile begins asked front = record {
  text = front.text;
  is = inr (record { asked = asked; is = let some : IsTraceOfSome p ends events w front.text = front.is in rw (profile, begins) at some });
  front = front.front;
}

-- reading a tape takes no memory
pub tape_wants_none : {T : Type 0} (tape : Input) (r : Result T Fault) → IfErr r (IsTapeInputFault tape) → r ≡ Err NoMemory → ⊥
tape_wants_none tape r is same = rw same at is

-- a text for which memory was refused has come in part
pub text_came : {T : Type 0} (text : Input) (r : Result T Fault) → IfErr r (IsEventsInputFault text) → r ≡ Err NoMemory → HasCome text
text_came text r is same = rw same at is

-- memory was refused in the run itself
refused_run : {T : Type 0} (P : List ℕ → Type 0) (asked : Bool) (r : Result T Fault) (marked : Bool) (old new : Option (List ℕ)) → marked ≡ fails_to_write r →
    OnErr r (marked ≡ false → asked ≡ true → Writes P old new) → r ≡ Err NoMemory → asked ≡ true → Writes P old new
refused_run P asked r marked old new marks wrote same =
    let unmarked : marked ≡ false = rw same at marks in
    let told : marked ≡ false → asked ≡ true → Writes P old new = rw same at wrote in
    told unmarked

pub refused_rounds : (options : RunOptions) (frames : Option (List ℕ)) (image : List (Option ℕ)) (r : Result Status Fault) (marked : Bool) (old new : Option (List ℕ)) → HasImage frames image → marked ≡ fails_to_write r →
    OnErr r (marked ≡ false → options.trace ≡ true → Writes (IsTraceToOutput options true (rounds options.rounds) image) old new) → r ≡ Err NoMemory → options.trace ≡ true → Writes (IsTraceOfRounds options frames) old new
refused_rounds options frames image r marked old new tape marks wrote same asked =
    let w = refused_run (IsTraceToOutput options true (rounds options.rounds) image) options.trace r marked old new marks wrote same asked in
    record { text = w.text; is = record { image = image; tape = tape; is = w.is }; written = w.written }

pub refused_events : (options : RunOptions) (frames list : Option (List ℕ)) (image : List (Option ℕ)) (events : List Event) (r : Result Status Fault) (marked : Bool) (old new : Option (List ℕ)) (X : Type 0) →
    HasImage frames image → HasEvents list events → marked ≡ fails_to_write r →
    OnErr r (marked ≡ false → options.trace ≡ true → Writes (IsTraceToOutput options false events image) old new) → r ≡ Err NoMemory → options.trace ≡ true → X ⊎ Writes (IsTraceOfEvents options frames list) old new
refused_events options frames list image events r marked old new X tape spelled marks wrote same asked =
    let w = refused_run (IsTraceToOutput options false events image) options.trace r marked old new marks wrote same asked in
    inr (record { text = w.text; is = record { image = image; tape = tape; events = events; spelled = spelled; is = w.is }; written = w.written })
