-- A run by a schedule, event by event.
use Rattle.std.proofs.Common.{ℕ, zero, suc, ◌≡◌, ◌+◌, ◌*◌, ◌%◌, ◌==◌, ◌<◌, ◌≤◌, Bool, true, false, ◌||◌, if◌then◌else◌, List, [], ◌∷◌, ◌++◌, length, drop, map, refl, sym, ◌∙◌, ap, inl, inr, append_assoc, append-nil, add-zero, add-one, get_or, arith, Some, None, Option, Result, Ok, true≢false, subst, unwrap_or}
use Rattle.std.specs.Io.KnownBytes.{Appends, Consumes}
use Rattle.std.proofs.KnownBytes.{Appends-nil, Appends-trans}
use Rattle.std.proofs.Transfers.{drop-appended}
use Rattle.std.proofs.lemmas.List.{map-append, drop_all}
use Rattle.std.proofs.Math.Seq.{drop-cons}
use Rattle.std.specs.Prelude.{IfSome, is_some}
use Rattle.streams.specs.Bytes.{Gave}
use Rattle.instruct.specs.declared.Profile.{Profile}
use Rattle.instruct.specs.Devices.{word_of}
use Rattle.instruct.specs.declared.devices.DeviceOperation.TheVariants.{ClearPrinterFlag, ClearPrinterFlagAndPrint, ClearPunchFlag, ClearPunchFlagAndPunch, Print, Punch, ReadReaderBuffer, SetPrinterFlag}
use Rattle.processor.specs.Machine.{State}
use Rattle.peripherals.specs.declared.Event.{Event}
use Rattle.peripherals.specs.declared.Event.TheVariants.{Step, Key, PrinterDone, ReaderDone, PunchDone, Switches, Continue}
use Rattle.peripherals.specs.declared.Seen.{Seen}
use Rattle.peripherals.specs.declared.Seen.TheVariants as seen
use Rattle.peripherals.specs.declared.operator.Operator.{Operator}
use Rattle.peripherals.specs.Devices.{Devices, Writer, WorldState, Instructs, word_at_pc, devices_after, fetches, clears_keyboard, given, fetched, with_writer_flag, with_reader_flag, with_keyboard_flag}
use Rattle.peripherals.specs.Events.{Happens, Steps, completed, done, with_devices}
use Rattle.peripherals.specs.Operator.{Plan, due, first_due, frame_due, key_due, left_after, plan_of, round_due}
use Rattle.peripherals.specs.EventOutcomes.{seen_of}
use Rattle.machine_commands.specs.Course.{Ran}
use Rattle.machine_commands.specs.Follows.{goes_on, counted}
use Rattle.command_parts.specs.Inputs.{AreFirst}
use Rattle.machine_commands.specs.Schedule.{Comes, Due, Final, Then, Extent, ToStep, first_place, operating}
use Rattle.machine_commands.specs.Session.{WritesAll, character, printed_in, taken, Taken}
use Rattle.machine_commands.specs.SessionParts.{IsNext, events_left, has_stepped, place_of, printed_from, rank, steps_in}
use Rattle.machine_commands.specs.TypingParts.{rounds_left}
use Rattle.machine_commands.specs.Trace.{line_of, trace_of, traced}
use Rattle.machine_commands.proofs.FollowLemmas.{Came, joined, leads_both, leads_one}

pub or_left : (a b : Bool) → a || b ≡ false → a ≡ false
or_left true b is = is
or_left false b is = refl

pub or_right : (a b : Bool) → a || b ≡ false → b ≡ false
or_right true b is = absurd (true≢false is)
or_right false b is = is

-- what a printer put out stays, and more may come after it
pub record Grows (old new : List ℕ) : Type 0 where
  more : List ℕ
  is : new ≡ old ++ more

stays : (l : List ℕ) → Grows l l
stays l = record { more = []; is = sym (append-nil l) }

puts_one : (l : List ℕ) (byte : ℕ) → Grows l (l ++ byte ∷ [])
puts_one l byte = record { more = byte ∷ []; is = refl }

-- by the tests of a device word
by_tests : (v : Devices) (ac : ℕ) (a b c d e f g h i j : Bool) → Grows v.printer.output
    (if a then record v { reader = with_reader_flag false v.reader }
    else (if b then record v { reader = fetched v.reader }
    else (if c then record v { punch = with_writer_flag false v.punch }
    else (if d then record v { punch = given ac v.punch }
    else (if e then record v { punch = given ac (with_writer_flag false v.punch) }
    else (if f then record v { keyboard = with_keyboard_flag false v.keyboard }
    else (if g then record v { printer = with_writer_flag true v.printer }
    else (if h then record v { printer = with_writer_flag false v.printer }
    else (if i then record v { printer = given ac v.printer }
    else (if j then record v { printer = given ac (with_writer_flag false v.printer) }
    else v)))))))))).printer.output
by_tests v ac true b c d e f g h i j = stays v.printer.output
by_tests v ac false true c d e f g h i j = stays v.printer.output
by_tests v ac false false true d e f g h i j = stays v.printer.output
by_tests v ac false false false true e f g h i j = stays v.printer.output
by_tests v ac false false false false true f g h i j = stays v.printer.output
by_tests v ac false false false false false true g h i j = stays v.printer.output
by_tests v ac false false false false false false true h i j = stays v.printer.output
by_tests v ac false false false false false false false true i j = stays v.printer.output
by_tests v ac false false false false false false false false true j = puts_one v.printer.output (ac % 256)
by_tests v ac false false false false false false false false false true = puts_one v.printer.output (ac % 256)
by_tests v ac false false false false false false false false false false = stays v.printer.output

by_word : (v : Devices) (word ac : ℕ) → Grows v.printer.output (devices_after v word ac).printer.output
unfolding devices_after
by_word v word ac = by_tests v ac (word == word_of ReadReaderBuffer) (fetches word) (word == word_of ClearPunchFlag) (word == word_of Punch) (word == word_of ClearPunchFlagAndPunch)
    (clears_keyboard word) (word == word_of SetPrinterFlag) (word == word_of ClearPrinterFlag) (word == word_of Print) (word == word_of ClearPrinterFlagAndPrint)

by_instruction : (p : Profile) (w x : WorldState) → Instructs p w x → Grows w.devices.printer.output x.devices.printer.output
by_instruction p w x (inl carried) = rw (carried.devices) (by_word w.devices (word_at_pc w) w.state.ac)
by_instruction p w x (inr stuck) = rw (stuck.1) (stays w.devices.printer.output)

by_step : (p : Profile) (w x : WorldState) (at : Option ℕ) → w.halted_at ≡ at → Steps p w x → Grows w.devices.printer.output x.devices.printer.output
by_step p w x None is steps = by_instruction p w x (steps.runs is)
by_step p w x (Some at) is steps = rw (steps.halted at is) (stays w.devices.printer.output)

done_keeps : (busy : Bool) (d : Writer) → Grows d.output (if busy then record d { busy = false; flag = true } else d).output
done_keeps true d = stays d.output
done_keeps false d = stays d.output

grows : (p : Profile) (w x : WorldState) (e : Event) → Happens p w e x → Grows w.devices.printer.output x.devices.printer.output
grows p w x Step happens = by_step p w x w.halted_at refl happens
grows p w x (Key byte) happens = rw (happens.1) (stays w.devices.printer.output)
grows p w x PrinterDone happens = rw happens (done_keeps w.devices.printer.busy w.devices.printer)
grows p w x (ReaderDone byte) happens = rw (happens.1) (stays w.devices.printer.output)
grows p w x PunchDone happens = rw happens (stays w.devices.printer.output)
grows p w x (Switches word) happens = rw (happens.1) (stays w.devices.printer.output)
grows p w x Continue happens = rw happens (stays w.devices.printer.output)

rest_is : (old new : List ℕ) → Grows old new → new ≡ old ++ drop (length old) new
rest_is old new g = g.is ∙ ap (λ (l : List ℕ). old ++ l) (sym (drop-appended old new g.more g.is))

-- what was printed with what an event printed
pub printed_more : (p : Profile) (w x : WorldState) (e : Event) → Happens p w e x → printed_in x ≡ printed_in w ++ printed_from w x
printed_more p w x e happens =
    let all = rest_is w.devices.printer.output x.devices.printer.output (grows p w x e happens) in
    ap (map character) all ∙ map-append character w.devices.printer.output (drop (length w.devices.printer.output) x.devices.printer.output)

pub came_next : (p : Profile) (trace : Bool) (es : List Event) (e : Event) (w x y : WorldState) (n : ℕ) (what : Seen) (old mid new : Option (List ℕ)) →
    Came p true trace es w n x old mid → seen_of p x e ≡ what → goes_on true what ≡ true → Happens p x e y → Appends mid new (traced trace (trace_of p x e y)) →
    Came p true trace (es ++ e ∷ []) w (n + counted what) y old new
came_next p trace es e w x y n what old mid new came sees goes happens wrote = record {
  lines = came.lines ++ trace_of p x e y;
  leads = leads_both p true es (e ∷ []) w x y came.lines (trace_of p x e y) n (counted what) came.leads (leads_one p true e x y what sees goes happens);
  wrote = joined trace old mid new came.lines (trace_of p x e y) came.wrote wrote;
}

pub printed_next : (p : Profile) (x y : WorldState) (e : Event) (told mid tells : Option (List ℕ)) → Happens p x e y → Appends told mid (printed_in x) → Appends mid tells (printed_from x y) → Appends told tells (printed_in y)
printed_next p x y e told mid tells happens before after =
    rw (printed_more p x y e happens) (Appends-trans told mid tells (printed_in x) (printed_from x y) before after)

-- the event that is due comes after those before
pub one_more : (es : List Event) (e : Event) (rest : List Event) → (es ++ e ∷ []) ++ rest ≡ es ++ (e ∷ rest)
one_more es e rest = append_assoc es (e ∷ []) rest

-- what is seen of an event that changes a device, where it is enabled
abbrev device_seen : Bool → Seen
device_seen enabled = if enabled then seen.Changed else seen.NotEnabled

pub device_goes : (enabled : Bool) → goes_on true (device_seen enabled) ≡ true
device_goes true = refl
device_goes false = refl

device_counts : (enabled : Bool) → counted (device_seen enabled) ≡ 0
device_counts true = refl
device_counts false = refl

device_line : (p : Profile) (enabled trace : Bool) (at word : ℕ) (s : State) → traced trace (line_of p (device_seen enabled) at word s) ≡ []
device_line p true true at word s = refl
device_line p true false at word s = refl
device_line p false true at word s = refl
device_line p false false at word s = refl

pub output_stays : (busy : Bool) (d : Writer) → (if busy then record d { busy = false; flag = true } else d).output ≡ d.output
output_stays true d = refl
output_stays false d = refl

abbrev pub printer_done : WorldState → WorldState
printer_done w = with_devices w (record w.devices { printer = done w.devices.printer })

-- such an event writes nothing, and prints nothing where the output stays
pub device_came : (p : Profile) (trace : Bool) (es : List Event) (w x y : WorldState) (n : ℕ) (e : Event) (enabled : Bool) (old new : Option (List ℕ)) →
    Came p true trace es w n x old new → Happens p x e y → seen_of p x e ≡ device_seen enabled → Came p true trace (es ++ e ∷ []) w n y old new
device_came p trace es w x y n e enabled old new came happens is =
    let none : Appends new new (traced trace (trace_of p x e y)) = rw (is, device_line p enabled trace x.state.pc (word_at_pc x) y.state) (Appends-nil new) in
    let next : Came p true trace (es ++ e ∷ []) w (n + counted (device_seen enabled)) y old new = came_next p trace es e w x y n (device_seen enabled) old new new came is (device_goes enabled) happens none in
    rw (device_counts enabled, add-zero n) at next

not_ran : (enabled : Bool) → seen.Ran ≡ device_seen enabled → ⊥
not_ran true is = cc
not_ran false is = cc

not_halted : (enabled : Bool) → seen.Halted ≡ device_seen enabled → ⊥
not_halted true is = cc
not_halted false is = cc

-- an instruction was carried out by a step alone
pub ran_is_step : (p : Profile) (w : WorldState) (e : Event) → seen.Ran ≡ seen_of p w e → e ≡ Step
ran_is_step p w Step is = refl
ran_is_step p w (Key byte) is = absurd (not_ran true is)
ran_is_step p w PrinterDone is = absurd (not_ran w.devices.printer.busy is)
ran_is_step p w (ReaderDone byte) is = absurd (not_ran w.devices.reader.fetching is)
ran_is_step p w PunchDone is = absurd (not_ran w.devices.punch.busy is)
ran_is_step p w (Switches word) is = absurd (not_ran true is)
ran_is_step p w Continue is = absurd (not_ran (is_some w.halted_at) is)

-- and a step counts as one
pub ran_counts : (p : Profile) (w : WorldState) (e : Event) → seen.Ran ≡ seen_of p w e → steps_in e ≡ 1
ran_counts p w e is = rw (ran_is_step p w e is) refl

pub halted_is_step : (p : Profile) (w : WorldState) (e : Event) → seen.Halted ≡ seen_of p w e → steps_in e ≡ 1
halted_is_step p w Step is = refl
halted_is_step p w (Key byte) is = absurd (not_halted true is)
halted_is_step p w PrinterDone is = absurd (not_halted w.devices.printer.busy is)
halted_is_step p w (ReaderDone byte) is = absurd (not_halted w.devices.reader.fetching is)
halted_is_step p w PunchDone is = absurd (not_halted w.devices.punch.busy is)
halted_is_step p w (Switches word) is = absurd (not_halted true is)
halted_is_step p w Continue is = absurd (not_halted (is_some w.halted_at) is)

-- an event that is due leaves fewer events, and an instruction takes a round
pub record Less (rounds : ℕ) (last : Option Event) (e : Event) : Type 0 where
  pub fewer : rounds_left e rounds * 5 + rank (Some e) < rounds * 5 + rank last
  pub counted : steps_in e + rounds_left e rounds ≤ rounds

pub none_is : {e : Event} → None ≡ Some e → ⊥
none_is is = cc

event_is : (e f : Event) → Some e ≡ Some f → e ≡ f
event_is e f is = ap (λ (o : Option Event). unwrap_or o Step) is

step_less : (n : ℕ) (last : Option Event) → Less (suc n) last Step
step_less n last = record { fewer = omega arith; counted = omega arith }

pub other_less : (rounds : ℕ) (last : Option Event) (e f : Event) → Some f ≡ Some e → rounds_left f rounds ≡ rounds → steps_in f ≡ 0 → rank (Some f) < rank last → Less rounds last e
other_less rounds last e f is same none less = subst (Less rounds last) (event_is f e is) (record { fewer = rw same (omega (arith, less)); counted = rw (same, none) (omega arith) })

pub round_less : (rounds : ℕ) (last : Option Event) (e : Event) → round_due rounds ≡ Some e → Less rounds last e
round_less zero last e due = absurd (none_is due)
round_less (suc n) last e due = subst (Less (suc n) last) (event_is Step e due) (step_less n last)

pub first_less : (plan : Plan) (switches : Option ℕ) (e : Event) → first_due plan switches ≡ Some e → Less plan.rounds None e
first_less plan None e due = round_less plan.rounds None e due
first_less plan (Some word) e due = other_less plan.rounds None e (Switches word) due refl refl (omega arith)

key_less : (plan : Plan) (last : Option Event) (keys : List ℕ) (flag : Bool) (e : Event) → 0 < rank last → key_due keys plan.rounds flag ≡ Some e → Less plan.rounds last e
key_less plan last [] flag e some due = round_less plan.rounds last e due
key_less plan last (key ∷ keys) true e some due = round_less plan.rounds last e due
key_less plan last (key ∷ keys) false e some due = other_less plan.rounds last e (Key key) due refl refl some

frame_less : (plan : Plan) (w : WorldState) (frames : List ℕ) (waits : Bool) (e : Event) → w.devices.reader.fetching ≡ waits → frame_due plan w frames ≡ Some e → Less plan.rounds (Some PunchDone) e
frame_less plan w [] waits e is due = key_less plan (Some PunchDone) plan.keys w.devices.keyboard.flag e (omega arith) due
frame_less plan w (frame ∷ frames) true e is due = other_less plan.rounds (Some PunchDone) e (ReaderDone frame) (rw is at due) refl refl (omega arith)
frame_less plan w (frame ∷ frames) false e is due = key_less plan (Some PunchDone) plan.keys w.devices.keyboard.flag e (omega arith) (rw is at due)

due_less : (plan : Plan) (w : WorldState) (last : Option Event) (e : Event) → due plan w last ≡ Some e → Less plan.rounds last e
due_less plan w None e is = first_less plan plan.switches e is
due_less plan w (Some Step) e is = other_less plan.rounds (Some Step) e PrinterDone is refl refl (omega arith)
due_less plan w (Some PrinterDone) e is = other_less plan.rounds (Some PrinterDone) e PunchDone is refl refl (omega arith)
due_less plan w (Some PunchDone) e is = frame_less plan w plan.frames w.devices.reader.fetching e refl is
due_less plan w (Some (ReaderDone frame)) e is = key_less plan (Some (ReaderDone frame)) plan.keys w.devices.keyboard.flag e (omega arith) is
due_less plan w (Some (Key key)) e is = round_less plan.rounds (Some (Key key)) e is
due_less plan w (Some (Switches word)) e is = round_less plan.rounds (Some (Switches word)) e is
due_less plan w (Some Continue) e is = round_less plan.rounds (Some Continue) e is

rounds_after : (e : Event) (plan : Plan) → (left_after e plan).rounds ≡ rounds_left e plan.rounds
rounds_after Step plan = refl
rounds_after (Key key) plan = refl
rounds_after PrinterDone plan = refl
rounds_after (ReaderDone frame) plan = refl
rounds_after PunchDone plan = refl
rounds_after (Switches word) plan = refl
rounds_after Continue plan = refl

pub fewer : (plan after : Plan) (w : WorldState) (last new_last : Option Event) (e : Event) → due plan w last ≡ Some e → after ≡ left_after e plan → new_last ≡ Some e → events_left after new_last < events_left plan last
fewer plan after w last new_last e is left next = rw (left, next, rounds_after e plan) (due_less plan w last e is).fewer

pub due_counts : (plan after : Plan) (w : WorldState) (last : Option Event) (e : Event) → due plan w last ≡ Some e → after ≡ left_after e plan → steps_in e + after.rounds ≤ plan.rounds
due_counts plan after w last e is left = rw (left, rounds_after e plan) (due_less plan w last e is).counted

-- what is due with an operator comes next
pub operator_next : (old new : Operator) (w : WorldState) (e : Event) → due (plan_of old) w old.last ≡ Some e → plan_of new ≡ left_after e (plan_of old) → new.last ≡ Some e →
    IsNext (λ (o : Operator) (p : Profile) (v : WorldState) (extent : Extent) (es : List Event). Comes operating p extent (place_of o) v es) old new w e
operator_next old new w e is left next = record {
  on = λ p m extent es goes happens comes. Then (place_of old) w m e es is goes happens (rw (left, next) at comes);
  last = λ p extent ends. Final (place_of old) w e is ends;
}

-- the last event was an instruction
pub step_was : (last : Option Event) → has_stepped last ≡ true → last ≡ Some Step
step_was (Some Step) is = refl
step_was None is = absurd (true≢false (sym is))
step_was (Some (Key key)) is = absurd (true≢false (sym is))
step_was (Some PrinterDone) is = absurd (true≢false (sym is))
step_was (Some (ReaderDone frame)) is = absurd (true≢false (sym is))
step_was (Some PunchDone) is = absurd (true≢false (sym is))
step_was (Some (Switches word)) is = absurd (true≢false (sym is))
step_was (Some Continue) is = absurd (true≢false (sym is))

-- an answer that is one
pub ok_is : {T E : Type 0} (a b : T) (r : Result T E) → r ≡ Ok a → r ≡ Ok b → a ≡ b
ok_is a b r one other = let same : Ok a ≡ Ok b = sym one ∙ other in cc

-- what an operator answers
pub some_next : (o : Option Event) (old new : Operator) (w : WorldState) → o ≡ due (plan_of old) w old.last → IfSome o (λ e. plan_of new ≡ left_after e (plan_of old)) → IfSome o (λ e. new.last ≡ Some e) →
    IfSome o (IsNext (λ (o : Operator) (p : Profile) (v : WorldState) (extent : Extent) (es : List Event). Comes operating p extent (place_of o) v es) old new w)
some_next None old new w is left last = tt
some_next (Some e) old new w is left last = operator_next old new w e (sym is) left last

pub some_fewer : (o : Option Event) (old new : Operator) (w : WorldState) → o ≡ due (plan_of old) w old.last → IfSome o (λ e. plan_of new ≡ left_after e (plan_of old)) → IfSome o (λ e. new.last ≡ Some e) →
    IfSome o (λ e. events_left (plan_of new) new.last < events_left (plan_of old) old.last)
some_fewer None old new w is left last = tt
some_fewer (Some e) old new w is left last = fewer (plan_of old) (plan_of new) w old.last new.last e (sym is) left last

pub some_counts : (o : Option Event) (old new : Operator) (w : WorldState) → o ≡ due (plan_of old) w old.last → IfSome o (λ e. plan_of new ≡ left_after e (plan_of old)) →
    IfSome o (λ e. steps_in e + new.rounds ≤ old.rounds)
some_counts None old new w is left = tt
some_counts (Some e) old new w is left = due_counts (plan_of old) (plan_of new) w old.last e (sym is) left

-- a step that is due may be told as the last event
pub some_to_step : (o : Option Event) (old : Operator) (w : WorldState) → o ≡ due (plan_of old) w old.last →
    IfSome o (λ e. e ≡ Step → (p : Profile) → Comes operating p ToStep (place_of old) w (Step ∷ []))
some_to_step None old w is = tt
some_to_step (Some e) old w is = λ steps p. Due (place_of old) w (rw steps at (sym is)) tt

pub some_stepped : (o : Option Event) (last : Option Event) → IfSome o (λ e. last ≡ Some e) → IfSome o (λ e. e ≡ Step → has_stepped last ≡ true)
some_stepped None last is = tt
some_stepped (Some e) last is = λ step. rw (is, step) refl

-- after an instruction the two completions are due, with an operator
pub operator_completes : (old new : Operator) (w : WorldState) (p : Profile) (extent : Extent) (es : List Event) → has_stepped old.last ≡ true → plan_of new ≡ plan_of old → new.last ≡ Some PunchDone →
    Comes operating p extent (place_of new) (completed w) es → Comes operating p extent (place_of old) w (PrinterDone ∷ PunchDone ∷ es)
operator_completes old new w p extent es stepped left last comes =
    let begins : old.last ≡ Some Step = step_was old.last stepped in
    let mid = printer_done w in
    let after : Comes operating p extent (record { plan = plan_of old; last = Some PunchDone }) (completed w) es = rw (left, last) at comes in
    let half : Comes operating p extent (record { plan = plan_of old; last = Some PrinterDone }) mid (PunchDone ∷ es) =
    Then (record { plan = plan_of old; last = Some PrinterDone }) mid (completed w) PunchDone es refl (device_goes mid.devices.punch.busy) refl after in
    rw begins (Then (record { plan = plan_of old; last = Some Step }) w mid PrinterDone (PunchDone ∷ es) refl (device_goes w.devices.printer.busy) refl half)

-- with an operator fewer events are left after the completions
pub completed_fewer : (old new : Operator) → has_stepped old.last ≡ true → plan_of new ≡ plan_of old → new.last ≡ Some PunchDone → events_left (plan_of new) new.last ≤ events_left (plan_of old) old.last
completed_fewer old new stepped left last =
    let rounds : new.rounds ≡ old.rounds = ap (λ (q : Plan). q.rounds) left in
    rw (rounds, last, step_was old.last stepped) (omega arith)

-- Bytes that are typed one by one: these went out, and with those still to come they are all.
pub record Typed (told now : Option (List ℕ)) (bytes : List ℕ) (from index : ℕ) : Type 0 where
  pub sent : List ℕ
  pub wrote : Appends told now sent
  pub rest : sent ++ map character (drop index bytes) ≡ map character (drop from bytes)

pub typed_none : (told : Option (List ℕ)) (bytes : List ℕ) (from : ℕ) → Typed told told bytes from from
typed_none told bytes from = record { sent = []; wrote = Appends-nil told; rest = refl }

typed_rest : (bytes sent : List ℕ) (from index : ℕ) → index < length bytes → sent ++ map character (drop index bytes) ≡ map character (drop from bytes) →
    (sent ++ (get_or bytes index 0 % 128) ∷ []) ++ map character (drop (suc index) bytes) ≡ map character (drop from bytes)
typed_rest bytes sent from index within rest =
    let next : drop index bytes ≡ get_or bytes index 0 ∷ drop (suc index) bytes = drop-cons bytes index 0 within in
    append_assoc sent ((get_or bytes index 0 % 128) ∷ []) (map character (drop (suc index) bytes)) ∙ ap (λ (l : List ℕ). sent ++ map character l) (sym next) ∙ rest

pub typed_more : (told now new : Option (List ℕ)) (bytes : List ℕ) (from index byte : ℕ) → Typed told now bytes from index → index < length bytes → byte ≡ get_or bytes index 0 →
    Appends now new ((byte % 128) ∷ []) → Typed told new bytes from (index + 1)
typed_more told now new bytes from index byte typed within is wrote =
    let more : Typed told new bytes from (suc index) = record {
      sent = typed.sent ++ (get_or bytes index 0 % 128) ∷ [];
      wrote = Appends-trans told now new typed.sent ((get_or bytes index 0 % 128) ∷ []) typed.wrote (rw is at wrote);
      rest = typed_rest bytes typed.sent from index within typed.rest;
    } in
    subst (Typed told new bytes from) (sym (add-one index)) more

pub typed_all : (told now : Option (List ℕ)) (bytes : List ℕ) (from index : ℕ) → Typed told now bytes from index → length bytes ≤ index → Appends told now (map character (drop from bytes))
typed_all told now bytes from index typed past =
    let none : drop index bytes ≡ [] = drop_all index bytes past in
    let all : typed.sent ≡ map character (drop from bytes) = sym (append-nil typed.sent) ∙ ap (λ (l : List ℕ). typed.sent ++ map character l) (sym none) ∙ typed.rest in
    rw (← all) typed.wrote

-- the same of what is written whole
pub writes_by : (P Q : List ℕ → List ℕ → List ℕ → Type 0) (old new : Taken) → ((text printed punched : List ℕ) → P text printed punched → Q text printed punched) → WritesAll P old new → WritesAll Q old new
writes_by P Q old new by writes = record {
  text = writes.text;
  printed = writes.printed;
  punched = writes.punched;
  is = by writes.text writes.printed writes.punched writes.is;
  to_report = writes.to_report;
  to_teletype = writes.to_teletype;
  to_punch = writes.to_punch;
}

-- an operator's place that is its first
pub first_place_is : (plan : Plan) (o : Operator) → plan_of o ≡ plan → o.last ≡ None → place_of o ≡ first_place plan
first_place_is plan o is first = rw (is, first) refl

pub or_true : (b : Bool) → b || true ≡ true
or_true true = refl
or_true false = refl

-- bytes that came whole
pub came_whole : (most : ℕ) (had left : Option (List ℕ)) (bytes : List ℕ) → Consumes had left bytes → AreFirst most had bytes → Gave had left (λ given. AreFirst most had given)
came_whole most None left bytes taken first = tt
came_whole most (Some all) left bytes taken first = (bytes, taken, first)
