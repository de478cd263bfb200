-- Each plan of an operator comes to an end.
use Rattle.std.proofs.Common.{ℕ, ◌≡◌, ◌+◌, ◌*◌, ◌<◌, Bool, true, false, Option, Some, None, List, [], ◌∷◌, ◌++◌, if◌then◌else◌, refl, ap, subst, arith, zero, suc, drop}
use Rattle.std.specs.List.{AllByRecursion}
use Rattle.std.specs.Prelude.{IfSome}
use Rattle.instruct.specs.declared.Profile.{Profile}
use Rattle.peripherals.specs.declared.Event.{Event}
use Rattle.peripherals.specs.declared.Event.TheVariants.{Step, Key, PrinterDone, ReaderDone, PunchDone, Switches, Continue}
use Rattle.peripherals.specs.declared.Seen.{Seen}
use Rattle.peripherals.specs.declared.Seen.TheVariants as seen
use Rattle.peripherals.specs.Devices.{WorldState}
use Rattle.peripherals.specs.Events.{Happens}
use Rattle.peripherals.specs.Operator.{Plan, round_due, key_due, frame_due, first_due, due, one_less, left_after}
use Rattle.peripherals.specs.EventOutcomes.{seen_of}
use Rattle.machine_commands.specs.declared.follow.End.TheVariants.{Unsupported}
use Rattle.machine_commands.specs.Follows.{Ended, Stuck, Stopped, Went, end_of, goes_on, counted}
use Rattle.command_laws.specs.Laws.{Carries, CarriesAll, SessionsEnd}
use Rattle.machine_commands.specs.Running.{fresh, status_of}
use Rattle.machine_commands.specs.Schedule.{Comes, Over, Final, Then, Whole, operating}
use Rattle.wordset.specs.Lanes.{words}
use Rattle.machine_commands.specs.Session.{printed_in, summary_where}
use Rattle.machine_commands.specs.Trace.{trace_of, traced}
use Rattle.command_laws.proofs.Answered.{Tells, goes, Ends}

-- how many events may still come: at most five in each round
abbrev stage : Option Event → ℕ
stage None = 1
stage (Some Step) = 4
stage (Some PrinterDone) = 3
stage (Some PunchDone) = 2
stage (Some (ReaderDone frame)) = 1
stage (Some (Key key)) = 0
stage (Some (Switches word)) = 0
stage (Some Continue) = 0

abbrev left : Plan → Option Event → ℕ
left plan last = 5 * plan.rounds + stage last

abbrev left_with : Plan → Event → ℕ
left_with plan e = left (left_after e plan) (Some e)

some_same : (d e : Event) → Some d ≡ Some e → d ≡ e
some_same d e same = cc

at_step : (plan : Plan) → left_with plan Step ≡ 5 * one_less plan.rounds + 4
at_step plan = refl

at_key : (plan : Plan) (key : ℕ) → left_with plan (Key key) ≡ 5 * plan.rounds
at_key plan key = omega (arith, nothing)
  where
    nothing : stage (Some (Key key)) ≡ 0
    nothing = refl

at_frame : (plan : Plan) (frame : ℕ) → left_with plan (ReaderDone frame) ≡ 5 * plan.rounds + 1
at_frame plan frame = refl

at_switches : (plan : Plan) (word : ℕ) → left_with plan (Switches word) ≡ 5 * plan.rounds
at_switches plan word = omega (arith, nothing)
  where
    nothing : stage (Some (Switches word)) ≡ 0
    nothing = refl

at_printer : (plan : Plan) → left_with plan PrinterDone ≡ 5 * plan.rounds + 3
at_printer plan = refl

at_punch : (plan : Plan) → left_with plan PunchDone ≡ 5 * plan.rounds + 2
at_punch plan = refl

-- fewer events are still to come after the one that is due
round_less : (plan : Plan) (n : ℕ) (e : Event) → plan.rounds ≡ n → round_due n ≡ Some e → left_with plan e < 5 * n
round_less plan zero e is due = cc
round_less plan (suc n) e is due = subst (λ e. left_with plan e < 5 * suc n) (some_same Step e due) (omega (arith, at_step plan, ap one_less is))

key_less : (plan : Plan) (keys : List ℕ) (n : ℕ) (flag : Bool) (e : Event) → plan.rounds ≡ n → key_due keys n flag ≡ Some e → left_with plan e < 5 * n + 1
key_less plan [] n flag e is due = omega (arith, round_less plan n e is due)
key_less plan (key ∷ keys) n true e is due = omega (arith, round_less plan n e is due)
key_less plan (key ∷ keys) n false e is due = subst (λ e. left_with plan e < 5 * n + 1) (some_same (Key key) e due) (omega (arith, is, at_key plan key))

fetched_less : (plan : Plan) (frame n : ℕ) (keys : List ℕ) (fetching flag : Bool) (e : Event) → plan.rounds ≡ n →
    (if fetching then Some (ReaderDone frame) else key_due keys n flag) ≡ Some e → left_with plan e < 5 * n + 2
fetched_less plan frame n keys true flag e is due = subst (λ e. left_with plan e < 5 * n + 2) (some_same (ReaderDone frame) e due) (omega (arith, is, at_frame plan frame))
fetched_less plan frame n keys false flag e is due = omega (arith, key_less plan keys n flag e is due)

frame_less : (plan : Plan) (w : WorldState) (frames : List ℕ) (e : Event) → frame_due plan w frames ≡ Some e → left_with plan e < 5 * plan.rounds + 2
frame_less plan w [] e due = omega (arith, key_less plan plan.keys plan.rounds w.devices.keyboard.flag e refl due)
frame_less plan w (frame ∷ frames) e due = fetched_less plan frame plan.rounds plan.keys w.devices.reader.fetching w.devices.keyboard.flag e refl due

first_less : (plan : Plan) (switches : Option ℕ) (e : Event) → first_due plan switches ≡ Some e → left_with plan e < 5 * plan.rounds + 1
first_less plan None e due = omega (arith, round_less plan plan.rounds e refl due)
first_less plan (Some word) e due = subst (λ e. left_with plan e < 5 * plan.rounds + 1) (some_same (Switches word) e due) (omega (arith, at_switches plan word))

less : (plan : Plan) (w : WorldState) (last : Option Event) (e : Event) → due plan w last ≡ Some e → left_with plan e < left plan last
less plan w None e is = first_less plan plan.switches e is
less plan w (Some Step) e is = subst (λ e. left_with plan e < 5 * plan.rounds + 4) (some_same PrinterDone e is) (omega (arith, at_printer plan))
less plan w (Some PrinterDone) e is = subst (λ e. left_with plan e < 5 * plan.rounds + 3) (some_same PunchDone e is) (omega (arith, at_punch plan))
less plan w (Some PunchDone) e is = frame_less plan w plan.frames e is
less plan w (Some (ReaderDone frame)) e is = key_less plan plan.keys plan.rounds w.devices.keyboard.flag e refl is
less plan w (Some (Key key)) e is = omega (arith, round_less plan plan.rounds e refl is)
less plan w (Some (Switches word)) e is = omega (arith, round_less plan plan.rounds e refl is)
less plan w (Some Continue) e is = omega (arith, round_less plan plan.rounds e refl is)

-- the event that is due carries a byte or a word, and so do those that are left
all_but_one : (bytes : List ℕ) → AllByRecursion (λ byte. byte < 256) bytes → AllByRecursion (λ byte. byte < 256) (drop 1 bytes)
all_but_one [] all = all
all_but_one (byte ∷ bytes) all = all.1

all_left : (plan : Plan) (e : Event) → CarriesAll plan → CarriesAll (left_after e plan)
all_left plan Step all = record { switches = all.switches; frames = all.frames; keys = all.keys }
all_left plan (Key key) all = record { switches = all.switches; frames = all.frames; keys = all_but_one plan.keys all.keys }
all_left plan PrinterDone all = all
all_left plan (ReaderDone frame) all = record { switches = all.switches; frames = all_but_one plan.frames all.frames; keys = all.keys }
all_left plan PunchDone all = all
all_left plan (Switches word) all = all
all_left plan Continue all = all

round_carries : (n : ℕ) (e : Event) → round_due n ≡ Some e → Carries e
round_carries zero e due = cc
round_carries (suc n) e due = subst Carries (some_same Step e due) tt

key_carries : (keys : List ℕ) (n : ℕ) (flag : Bool) (e : Event) → AllByRecursion (λ byte. byte < 256) keys → key_due keys n flag ≡ Some e → Carries e
key_carries [] n flag e all due = round_carries n e due
key_carries (key ∷ keys) n true e all due = round_carries n e due
key_carries (key ∷ keys) n false e all due = subst Carries (some_same (Key key) e due) all.0

fetched_carries : (frame n : ℕ) (keys : List ℕ) (fetching flag : Bool) (e : Event) → frame < 256 → AllByRecursion (λ byte. byte < 256) keys →
    (if fetching then Some (ReaderDone frame) else key_due keys n flag) ≡ Some e → Carries e
fetched_carries frame n keys true flag e small all due = subst Carries (some_same (ReaderDone frame) e due) small
fetched_carries frame n keys false flag e small all due = key_carries keys n flag e all due

frame_carries : (plan : Plan) (w : WorldState) (frames : List ℕ) (e : Event) → AllByRecursion (λ byte. byte < 256) frames →
    AllByRecursion (λ byte. byte < 256) plan.keys → frame_due plan w frames ≡ Some e → Carries e
frame_carries plan w [] e frames keys due = key_carries plan.keys plan.rounds w.devices.keyboard.flag e keys due
frame_carries plan w (frame ∷ rest) e frames keys due =
    fetched_carries frame plan.rounds plan.keys w.devices.reader.fetching w.devices.keyboard.flag e frames.0 keys due

first_carries : (plan : Plan) (switches : Option ℕ) (e : Event) → IfSome switches (λ word. word < 4096) → first_due plan switches ≡ Some e → Carries e
first_carries plan None e all due = round_carries plan.rounds e due
first_carries plan (Some word) e all due = subst Carries (some_same (Switches word) e due) all

carries : (plan : Plan) (w : WorldState) (last : Option Event) (e : Event) → CarriesAll plan → due plan w last ≡ Some e → Carries e
carries plan w None e all is = first_carries plan plan.switches e all.switches is
carries plan w (Some Step) e all is = subst Carries (some_same PrinterDone e is) tt
carries plan w (Some PrinterDone) e all is = subst Carries (some_same PunchDone e is) tt
carries plan w (Some PunchDone) e all is = frame_carries plan w plan.frames e all.frames all.keys is
carries plan w (Some (ReaderDone frame)) e all is = key_carries plan.keys plan.rounds w.devices.keyboard.flag e all.keys is
carries plan w (Some (Key key)) e all is = round_carries plan.rounds e is
carries plan w (Some (Switches word)) e all is = round_carries plan.rounds e is
carries plan w (Some Continue) e all is = round_carries plan.rounds e is

-- the last event of a run
last_one : (p : Profile) (e : Event) (w m : WorldState) (what : Seen) → seen_of p w e ≡ what → goes_on true what ≡ false → Happens p w e m → Ends p true (e ∷ []) w
last_one p e w m seen.Ran sees off happens = cc
last_one p e w m seen.Changed sees off happens = cc
last_one p e w m seen.NotEnabled sees off happens = cc
last_one p e w m seen.Halted sees off happens = (trace_of p w e m, 1, end_of m, m, Stopped e [] w m refl sees happens)
last_one p e w m (seen.Unsupported word) sees off happens = ([], 0, Unsupported m.state.pc, m, Stuck e [] w m word sees happens)

-- the events of a plan, and the run that they make
record Run (p : Profile) (plan : Plan) (last : Option Event) (w : WorldState) : Type 0 where
  events : List Event
  come : Comes operating p Whole (record { plan = plan; last = last }) w events
  ends : Ends p true events w

next_one : (p : Profile) (plan : Plan) (last : Option Event) (w m : WorldState) (e : Event) (on : Bool) → due plan w last ≡ Some e →
    goes_on true (seen_of p w e) ≡ on → Happens p w e m → Run p (left_after e plan) (Some e) m → Run p plan last w
next_one p plan last w m e true is on happens later =
    let r = later.ends in record {
      events = e ∷ later.events;
      come = Then (record { plan = plan; last = last }) w m e later.events is on happens later.come;
      ends = (trace_of p w e m ++ r.0, counted (seen_of p w e) + r.1, r.2, r.3, Went e later.events w m r.3 (seen_of p w e) r.0 r.1 r.2 refl on happens r.4);
    }
next_one p plan last w m e false is off happens later = record {
  events = e ∷ [];
  come = Final (record { plan = plan; last = last }) w e is off;
  ends = last_one p e w m (seen_of p w e) refl off happens;
}

runs : (fuel : ℕ) (p : Profile) (plan : Plan) (last : Option Event) (w : WorldState) (d : Option Event) → due plan w last ≡ d → left plan last < fuel →
    CarriesAll plan → Tells w.devices → Run p plan last w
runs zero p plan last w d is small all tells = absurd (omega arith)
runs (suc fuel) p plan last w None none small all tells = record { events = []; come = Over (record { plan = plan; last = last }) w none; ends = ([], 0, end_of w, w, Ended w) }
runs (suc fuel) p plan last w (Some e) is small all tells =
    let next = goes p w e (carries plan w last e all is) tells in
    next_one p plan last w next.0 e (goes_on true (seen_of p w e)) is refl next.1
    (runs fuel p (left_after e plan) (Some e) next.0 (due (left_after e plan) next.0 (Some e)) refl (omega (arith, less plan w last e is)) (all_left plan e all) next.2)

pub sessions_end : SessionsEnd
sessions_end options form plan image all =
    let w = fresh image options.start in
    let idles : Tells w.devices = record { key = omega arith; frame = omega arith; switches = omega arith } in
    let run : Run options.profile plan None w = runs (left plan None + 1) options.profile plan None w (due plan w None) refl (omega arith) all idles in
    let r = run.ends in (
      traced options.trace r.0 ++ summary_where (words options.show) form r.2 r.3 r.1,
      printed_in r.3,
      r.3.devices.punch.output,
      status_of r.2,
      record {
        events = run.events;
        come = run.come;
        lines = r.0;
        steps = r.1;
        end = r.2;
        final = r.3;
        follows = r.4;
        text_is = refl;
        printed_is = refl;
        punched_is = refl;
        status_is = refl;
      },
    )
