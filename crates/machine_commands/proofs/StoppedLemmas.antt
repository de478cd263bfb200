-- A run by a schedule that may be stopped, event by event.
use Rattle.std.proofs.Common.{ℕ, zero, suc, ◌≡◌, ◌+◌, ◌≤◌, Bool, true, false, List, [], ◌∷◌, ◌++◌, length, refl, sym, ◌∙◌, ap, append_assoc, append-nil, add-zero, zero-add, length-append, arith, Some, Option, true≢false}
use Rattle.std.specs.Io.KnownBytes.{Appends}
use Rattle.std.proofs.KnownBytes.{Appends-nil, Appends-trans}
use Rattle.instruct.specs.declared.Profile.{Profile}
use Rattle.peripherals.specs.declared.Event.{Event}
use Rattle.peripherals.specs.declared.Event.TheVariants.{Step, Key, PrinterDone, ReaderDone, PunchDone, Switches, Continue}
use Rattle.peripherals.specs.declared.Seen.{Seen}
use Rattle.peripherals.specs.declared.Seen.TheVariants as seen
use Rattle.peripherals.specs.Devices.{WorldState}
use Rattle.peripherals.specs.Events.{Happens, completed}
use Rattle.peripherals.specs.EventOutcomes.{seen_of}
use Rattle.wordset.specs.Lanes.{words}
use Rattle.command_parts.specs.declared.options.RunOptions.{RunOptions}
use Rattle.command_parts.specs.declared.options.Stops.{Stops}
use Rattle.command_parts.specs.declared.options.SummaryForm.{SummaryForm}
use Rattle.command_parts.specs.declared.status.Status.{Status}
use Rattle.machine_commands.specs.declared.follow.End.{End}
use Rattle.machine_commands.specs.declared.follow.End.TheVariants as end
use Rattle.machine_commands.specs.declared.follow.RunOutcome.{RunOutcome}
use Rattle.machine_commands.specs.Follows.{Follows, Stopped, Stuck, counted, end_of, goes_on}
use Rattle.machine_commands.specs.Running.{fresh, status_of}
use Rattle.machine_commands.specs.Schedule.{Extent, ToStep, Whole}
use Rattle.machine_commands.specs.Session.{WritesAll, printed_in, summary_where, taken}
use Rattle.machine_commands.specs.SessionParts.{IsNext, Played, is_step, steps_in}
use Rattle.machine_commands.specs.StoppedParts.{OperatedToStop, Passes}
use Rattle.machine_commands.specs.StoppedSession.{IsFront, IsHeldToStop, StoppedSo, extent_to_stop, form_behind, leaving, to_stop}
use Rattle.machine_commands.specs.Stops.{Ends, Continues, Here, Later, NeverStops, Over, StopsAfter, stops_before, visits_with}
use Rattle.machine_commands.specs.Trace.{trace_of, traced}
use Rattle.machine_commands.proofs.FollowLemmas.{Came, came_here, came_none, joined, no_line}
use Rattle.machine_commands.proofs.SessionLemmas.{came_next, device_came, device_goes, one_more, output_stays, printed_next, printer_done}
use Rattle.machine_commands.proofs.StoppingLemmas.{step_of}

-- any other event does not
pub passes_other : (stops : Stops) (p : Profile) (visits : ℕ) (w : WorldState) (e : Event) → is_step e ≡ false → Passes stops p visits w e (Some visits)
passes_other stops p visits w Step other = absurd (true≢false other)
passes_other stops p visits w (Key byte) other = (refl, refl)
passes_other stops p visits w PrinterDone other = (refl, refl)
passes_other stops p visits w (ReaderDone byte) other = (refl, refl)
passes_other stops p visits w PunchDone other = (refl, refl)
passes_other stops p visits w (Switches word) other = (refl, refl)
passes_other stops p visits w Continue other = (refl, refl)

pub step_is : (e : Event) → is_step e ≡ true → e ≡ Step
step_is Step is = refl
step_is (Key byte) is = absurd (true≢false (sym is))
step_is PrinterDone is = absurd (true≢false (sym is))
step_is (ReaderDone byte) is = absurd (true≢false (sym is))
step_is PunchDone is = absurd (true≢false (sym is))
step_is (Switches word) is = absurd (true≢false (sym is))
step_is Continue is = absurd (true≢false (sym is))

-- so many steps come to the address at most
pub step_visits : (visits more : ℕ) (e : Event) → is_step e ≡ true → more ≤ visits + 1 → more ≤ visits + steps_in e
step_visits visits more e is few = rw (step_is e is) few

-- None of these events stops the run from w, and so many steps among them came to the address: where events behind them stop it, or never
-- do, all of them do.
pub record Unmet (stops : Stops) (p : Profile) (es : List Event) (w : WorldState) (visits : ℕ) (x : WorldState) : Type 0 where
  pub later : (rest : List Event) (count : ℕ) → StopsAfter stops p true visits rest x count → StopsAfter stops p true 0 (es ++ rest) w (length es + count)
  pub never : (rest : List Event) → NeverStops stops p true visits rest x → NeverStops stops p true 0 (es ++ rest) w

unmet_none : (stops : Stops) (p : Profile) (w : WorldState) → Unmet stops p [] w 0 w
unmet_none stops p w = record {
  later = λ rest count stop. rw (zero-add count) stop;
  never = λ rest never. never;
}

one_longer : (es : List Event) (e : Event) (count : ℕ) → length (es ++ e ∷ []) + count ≡ length es + suc count
one_longer es e count =
    let l : length (es ++ e ∷ []) ≡ length es + 1 = length-append es (e ∷ []) in
    omega (arith, l)

unmet_more : (stops : Stops) (p : Profile) (es : List Event) (w : WorldState) (visits : ℕ) (e : Event) (x y : WorldState) →
    Unmet stops p es w visits x → stops_before stops p visits x e ≡ false → goes_on true (seen_of p x e) ≡ true → Happens p x e y →
    Unmet stops p (es ++ e ∷ []) w (visits_with stops visits x e) y
unmet_more stops p es w visits e x y unmet off goes happens = record {
  later = λ rest count stop.
      rw (append_assoc es (e ∷ []) rest, one_longer es e count) (unmet.later (e ∷ rest) (suc count) (Later visits count e rest x y off goes happens stop));
  never = λ rest never.
      rw (append_assoc es (e ∷ []) rest) (unmet.never (e ∷ rest) (Continues visits e rest x y off goes happens never));
}

stopped_so : (stops : Stops) (p : Profile) (es : List Event) (w : WorldState) (visits : ℕ) (x : WorldState) → Unmet stops p es w visits x → stops_before stops p visits x Step ≡ true → StoppedSo stops p true es w
stopped_so stops p es w visits x unmet on =
    rw (add-zero (length es)) at (unmet.later (Step ∷ []) zero (Here visits Step [] x on))

never_so : (stops : Stops) (p : Profile) (es : List Event) (w : WorldState) (visits : ℕ) (x : WorldState) → Unmet stops p es w visits x → StoppedSo stops p false es w
never_so stops p es w visits x unmet = rw (append-nil es) at (unmet.never [] (Over visits x))

never_with : (stops : Stops) (p : Profile) (es : List Event) (w : WorldState) (visits : ℕ) (e : Event) (x : WorldState) →
    Unmet stops p es w visits x → stops_before stops p visits x e ≡ false → goes_on true (seen_of p x e) ≡ false → StoppedSo stops p false (es ++ e ∷ []) w
never_with stops p es w visits e x unmet off over = unmet.never (e ∷ []) (Ends visits e [] x off over)

-- The run came so far: these events came, none of them stopped it, and whatever comes further comes after them.
pub record Unstopped {S : Type 0} (brings : S → Profile → WorldState → Extent → List Event → Type 0) (stops : Stops) (p : Profile) (trace : Bool) (first now : S) (w x : WorldState) (n visits : ℕ) (old new told_old told_new : Option (List ℕ)) : Type 0 where
  pub events : List Event
  pub came : Came p true trace events w n x old new
  pub come : (extent : Extent) (rest : List Event) → brings now p x extent rest → brings first p w extent (events ++ rest)
  pub printed : Appends told_old told_new (printed_in x)
  pub unmet : Unmet stops p events w visits x

pub un_none : {S : Type 0} (brings : S → Profile → WorldState → Extent → List Event → Type 0) (stops : Stops) (p : Profile) (trace : Bool) (s : S) (w : WorldState) (old told_old : Option (List ℕ)) → w.devices.printer.output ≡ [] →
    Unstopped brings stops p trace s s w w 0 0 old old told_old told_old
un_none brings stops p trace s w old told_old empty = record {
  events = [];
  came = came_none p true trace w old;
  come = λ extent rest comes. comes;
  printed = rw empty (Appends-nil told_old);
  unmet = unmet_none stops p w;
}

pub un_more : {S : Type 0} (brings : S → Profile → WorldState → Extent → List Event → Type 0) (stops : Stops) (p : Profile) (trace : Bool) (first now after : S) (e : Event) (w x y : WorldState) (n visits : ℕ) (what : Seen) (old mid new told_old told_mid told_new : Option (List ℕ)) →
    Unstopped brings stops p trace first now w x n visits old mid told_old told_mid → IsNext brings now after x e → Played p trace x e what y mid new told_mid told_new → goes_on true what ≡ true → stops_before stops p visits x e ≡ false →
    Unstopped brings stops p trace first after w y (n + counted what) (visits_with stops visits x e) old new told_old told_new
un_more brings stops p trace first now after e w x y n visits what old mid new told_old told_mid told_new un next played goes off =
    let on : goes_on true (seen_of p x e) ≡ true = rw (← played.sees) goes in
    record {
      events = un.events ++ e ∷ [];
      came = came_next p trace un.events e w x y n what old mid new un.came (sym played.sees) goes played.happens played.wrote;
      come = λ extent rest comes. rw (one_more un.events e rest) (un.come extent (e ∷ rest) (next.on p y extent rest on played.happens comes));
      printed = printed_next p x y e told_old told_mid told_new played.happens un.printed played.printed;
      unmet = unmet_more stops p un.events w visits e x y un.unmet off on played.happens;
    }

-- an event that carries out no instruction
pub un_still : {S : Type 0} (brings : S → Profile → WorldState → Extent → List Event → Type 0) (stops : Stops) (p : Profile) (trace : Bool) (first now after : S) (e : Event) (w x y : WorldState) (n visits : ℕ) (what : Seen) (old mid new told_old told_mid told_new : Option (List ℕ)) →
    Unstopped brings stops p trace first now w x n visits old mid told_old told_mid → IsNext brings now after x e → Played p trace x e what y mid new told_mid told_new → goes_on true what ≡ true → counted what ≡ 0 → stops_before stops p visits x e ≡ false →
    Unstopped brings stops p trace first after w y n (visits_with stops visits x e) old new told_old told_new
un_still brings stops p trace first now after e w x y n visits what old mid new told_old told_mid told_new un next played goes none off =
    let more : Unstopped brings stops p trace first after w y (n + counted what) (visits_with stops visits x e) old new told_old told_new = un_more brings stops p trace first now after e w x y n visits what old mid new told_old told_mid told_new un next played goes off in
    rw (none, add-zero n) at more

-- after an instruction the printer gets done, and the punch
pub un_completed : {S : Type 0} (brings : S → Profile → WorldState → Extent → List Event → Type 0) (stops : Stops) (p : Profile) (trace : Bool) (first now after : S) (w x : WorldState) (n visits : ℕ) (old new told_old told_new : Option (List ℕ)) →
    Unstopped brings stops p trace first now w x n visits old new told_old told_new →
    ((q : Profile) (extent : Extent) (es : List Event) → brings after q (completed x) extent es → brings now q x extent (PrinterDone ∷ PunchDone ∷ es)) →
    Unstopped brings stops p trace first after w (completed x) n visits old new told_old told_new
un_completed brings stops p trace first now after w x n visits old new told_old told_new un both =
    let mid = printer_done x in
    let es = un.events ++ PrinterDone ∷ [] in
    let half : Came p true trace es w n mid old new = device_came p trace un.events w x mid n PrinterDone x.devices.printer.busy old new un.came refl refl in
    let passed : Unmet stops p es w visits mid = unmet_more stops p un.events w visits PrinterDone x mid un.unmet refl (device_goes x.devices.printer.busy) refl in
    record {
      events = es ++ PunchDone ∷ [];
      came = device_came p trace es w mid (completed x) n PunchDone mid.devices.punch.busy old new half refl refl;
      come = λ extent rest comes. rw (one_more es PunchDone rest, one_more un.events PrinterDone (PunchDone ∷ rest)) (un.come extent (PrinterDone ∷ PunchDone ∷ rest) (both p extent rest comes));
      printed = rw (output_stays x.devices.printer.busy x.devices.printer) un.printed;
      unmet = unmet_more stops p es w visits PunchDone mid (completed x) passed refl (device_goes mid.devices.punch.busy) refl;
    }

-- the step that is due stops the run
pub un_to_stop : {S : Type 0} (brings : S → Profile → WorldState → Extent → List Event → Type 0) (stops : Stops) (p : Profile) (trace : Bool) (first now after : S) (e : Event) (w x : WorldState) (n visits : ℕ) (outcome : RunOutcome) (old new told_old told_new : Option (List ℕ)) →
    Unstopped brings stops p trace first now w x n visits old new told_old told_new → (e ≡ Step → (q : Profile) → brings now q x ToStep (Step ∷ [])) → stops_before stops p visits x e ≡ true → outcome.steps ≡ n → outcome.end ≡ end.Stopped x.state.pc →
    OperatedToStop (brings first p w) false stops p trace w outcome x old new told_old told_new
un_to_stop brings stops p trace first now after e w x n visits outcome old new told_old told_new un due on steps ends =
    let step : e ≡ Step = step_of stops p visits x e on in
    let begins : brings now p x ToStep (Step ∷ []) = due step p in
    let on_step : stops_before stops p visits x Step ≡ true = rw step at on in
    record {
      events = un.events;
      stopped = true;
      come = un.come ToStep (Step ∷ []) begins;
      stop = stopped_so stops p un.events w visits x un.unmet on_step;
      lines = un.came.lines;
      last = end_of x;
      follows = rw steps (came_here p true trace un.events w x n old new un.came);
      ends = ends;
      wrote = un.came.wrote;
      printed = un.printed;
    }

-- nothing is due any more
pub un_all : {S : Type 0} (brings : S → Profile → WorldState → Extent → List Event → Type 0) (stops : Stops) (p : Profile) (trace : Bool) (first now : S) (w x : WorldState) (visits : ℕ) (outcome : RunOutcome) (old new told_old told_new : Option (List ℕ)) →
    Unstopped brings stops p trace first now w x outcome.steps visits old new told_old told_new → ((extent : Extent) → brings now p x extent []) → outcome.end ≡ end_of x →
    OperatedToStop (brings first p w) false stops p trace w outcome x old new told_old told_new
un_all brings stops p trace first now w x visits outcome old new told_old told_new un over ends = record {
  events = un.events;
  stopped = false;
  come = let all : brings first p w Whole (un.events ++ []) = un.come Whole [] (over Whole) in rw (append-nil un.events) at all;
  stop = never_so stops p un.events w visits x un.unmet;
  lines = un.came.lines;
  last = end_of x;
  follows = came_here p true trace un.events w x outcome.steps old new un.came;
  ends = ends;
  wrote = un.came.wrote;
  printed = un.printed;
}

pub un_to_halt : {S : Type 0} (brings : S → Profile → WorldState → Extent → List Event → Type 0) (stops : Stops) (p : Profile) (trace : Bool) (first now after : S) (e : Event) (w x y : WorldState) (n visits : ℕ) (outcome : RunOutcome) (old mid new told_old told_mid told_new : Option (List ℕ)) →
    Unstopped brings stops p trace first now w x n visits old mid told_old told_mid → IsNext brings now after x e → Played p trace x e seen.Halted y mid new told_mid told_new → stops_before stops p visits x e ≡ false → outcome.steps ≡ n + 1 → outcome.end ≡ end_of y →
    OperatedToStop (brings first p w) false stops p trace w outcome y old new told_old told_new
un_to_halt brings stops p trace first now after e w x y n visits outcome old mid new told_old told_mid told_new un next played off steps ends =
    let over : goes_on true (seen_of p x e) ≡ false = rw (← played.sees) refl in
    record {
      events = un.events ++ e ∷ [];
      stopped = false;
      come = un.come Whole (e ∷ []) (next.last p Whole over);
      stop = never_with stops p un.events w visits e x un.unmet off over;
      lines = un.came.lines ++ trace_of p x e y;
      last = end_of y;
      follows = rw steps (un.came.leads (e ∷ []) (trace_of p x e y) 1 (end_of y) y (Stopped e [] x y refl (sym played.sees) played.happens));
      ends = ends;
      wrote = joined trace old mid new un.came.lines (trace_of p x e y) un.came.wrote played.wrote;
      printed = printed_next p x y e told_old told_mid told_new played.happens un.printed played.printed;
    }

pub un_to_stuck : {S : Type 0} (brings : S → Profile → WorldState → Extent → List Event → Type 0) (stops : Stops) (p : Profile) (trace : Bool) (first now after : S) (e : Event) (w x y : WorldState) (n visits word : ℕ) (outcome : RunOutcome) (old mid new told_old told_mid told_new : Option (List ℕ)) →
    Unstopped brings stops p trace first now w x n visits old mid told_old told_mid → IsNext brings now after x e → Played p trace x e (seen.Unsupported word) y mid new told_mid told_new → stops_before stops p visits x e ≡ false → outcome.steps ≡ n → outcome.end ≡ end.Unsupported y.state.pc →
    OperatedToStop (brings first p w) false stops p trace w outcome y old new told_old told_new
un_to_stuck brings stops p trace first now after e w x y n visits word outcome old mid new told_old told_mid told_new un next played off steps ends =
    let over : goes_on true (seen_of p x e) ≡ false = rw (← played.sees) refl in
    let none : Appends mid new (traced trace []) = rw (no_line p e x y word (sym played.sees)) at played.wrote in
    let follows : Follows p true (un.events ++ e ∷ []) w (un.came.lines ++ []) (n + 0) (end.Unsupported y.state.pc) y = un.came.leads (e ∷ []) [] 0 (end.Unsupported y.state.pc) y (Stuck e [] x y word (sym played.sees) played.happens) in
    record {
      events = un.events ++ e ∷ [];
      stopped = false;
      come = un.come Whole (e ∷ []) (next.last p Whole over);
      stop = never_with stops p un.events w visits e x un.unmet off over;
      lines = un.came.lines ++ [];
      last = end.Unsupported y.state.pc;
      follows = rw steps (rw (add-zero n) at follows);
      ends = ends;
      wrote = joined trace old mid new un.came.lines [] un.came.wrote none;
      printed = printed_next p x y e told_old told_mid told_new played.happens un.printed played.printed;
    }

-- how a run is said to have ended that a key interrupted, or did not
pub left_so : (comes : Extent → List Event → Type 0) (left : Bool) (stops : Stops) (p : Profile) (trace : Bool) (w : WorldState) (ran outcome : RunOutcome) (x : WorldState) (old new told_old told_new : Option (List ℕ)) →
    OperatedToStop comes false stops p trace w ran x old new told_old told_new → outcome.steps ≡ ran.steps → outcome.end ≡ leaving left ran.end x → OperatedToStop comes left stops p trace w outcome x old new told_old told_new
left_so comes left stops p trace w ran outcome x old new told_old told_new done steps ends = record {
  events = done.events;
  stopped = done.stopped;
  come = done.come;
  stop = done.stop;
  lines = done.lines;
  last = done.last;
  follows = rw steps done.follows;
  ends = ends ∙ ap (λ (t : End). leaving left t x) done.ends;
  wrote = done.wrote;
  printed = done.printed;
}

-- What a run leaves that came to its end or was stopped, behind this front.
held_to_stop : (comes : Profile → WorldState → Extent → List Event → Type 0) (options : RunOptions) (stops : Stops) (shown : Option ℕ) (form : SummaryForm) (left trace : Bool) (image : List (Option ℕ)) (p : Profile) (w x : WorldState) (outcome : RunOutcome) (status : Status) (front : List ℕ) (old mid told_old told_new : Option (List ℕ)) →
    p ≡ options.profile → w ≡ fresh image options.start → (done : OperatedToStop (comes p w) left stops p trace w outcome x old mid told_old told_new) → IsFront shown (traced options.trace done.lines) front → status ≡ status_of outcome.end →
    IsHeldToStop comes options stops shown form left image (front ++ summary_where (words options.show) (form_behind shown form) outcome.end x outcome.steps) (printed_in x) x.devices.punch.output status
held_to_stop comes options stops shown form left trace image p w x outcome status front old mid told_old told_new profile begins done front_is is = record {
  events = done.events;
  stopped = done.stopped;
  come = let come : comes p w (extent_to_stop done.stopped) (to_stop done.stopped done.events) = done.come in rw (profile, begins) at come;
  stop = let stop : StoppedSo stops p done.stopped done.events w = done.stop in rw (profile, begins) at stop;
  lines = done.lines;
  steps = outcome.steps;
  last = done.last;
  final = x;
  follows = let follows : Follows p true done.events w done.lines outcome.steps done.last x = done.follows in rw (profile, begins) at follows;
  front = front;
  front_is = front_is;
  text_is = ap (λ (t : End). front ++ summary_where (words options.show) (form_behind shown form) t x outcome.steps) done.ends;
  printed_is = refl;
  punched_is = refl;
  status_is = is ∙ ap status_of done.ends;
}

pub attended_to_stop : (comes : Profile → WorldState → Extent → List Event → Type 0) (options : RunOptions) (stops : Stops) (shown : Option ℕ) (form : SummaryForm) (left trace : Bool) (image : List (Option ℕ)) (p : Profile) (w x : WorldState) (outcome : RunOutcome) (status : Status) (front : List ℕ) (old mid new kept_old kept_new told_old told_new held holds : Option (List ℕ)) →
    p ≡ options.profile → w ≡ fresh image options.start → (done : OperatedToStop (comes p w) left stops p trace w outcome x kept_old kept_new told_old told_new) → IsFront shown (traced options.trace done.lines) front → Appends held holds x.devices.punch.output →
    Appends old mid front → Appends mid new (summary_where (words options.show) (form_behind shown form) outcome.end x outcome.steps) → status ≡ status_of outcome.end →
    WritesAll (λ text printed punched. IsHeldToStop comes options stops shown form left image text printed punched status) (taken old told_old held) (taken new told_new holds)
attended_to_stop comes options stops shown form left trace image p w x outcome status front old mid new kept_old kept_new told_old told_new held holds profile begins done front_is punched before wrote is =
    let summary = summary_where (words options.show) (form_behind shown form) outcome.end x outcome.steps in
    record {
      text = front ++ summary;
      printed = printed_in x;
      punched = x.devices.punch.output;
      is = held_to_stop comes options stops shown form left trace image p w x outcome status front kept_old kept_new told_old told_new profile begins done front_is is;
      to_report = Appends-trans old mid new front summary before wrote;
      to_teletype = done.printed;
      to_punch = punched;
    }
