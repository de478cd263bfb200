-- Each list of events has a run.
use Rattle.std.proofs.Common.{ℕ, ◌≡◌, ◌+◌, ◌<◌, ◌==◌, Bool, true, false, Option, Some, None, List, [], ◌∷◌, ◌++◌, if◌then◌else◌, bit_and, bit_or, refl, sym, ◌∙◌, ap, subst, arith, inl, inr}
use Rattle.std.specs.Prelude.{◌/◌, ◌%◌}
use Rattle.std.specs.List.{AllByRecursion, find}
use Rattle.std.specs.Option.{option_map}
use Rattle.std.proofs.lemmas.Bool.Decides.{eqb_tells}
use Rattle.instruct.specs.declared.Profile.{Profile}
use Rattle.instruct.specs.declared.devices.DeviceOperation.{DeviceOperation}
use Rattle.instruct.specs.declared.devices.DeviceOperation.TheVariants.{DisableInterrupts, SkipOnReaderFlag, ReadReaderBuffer, FetchReaderFrame, ReadReaderBufferAndFetchFrame, SkipOnPunchFlag, ClearPunchFlag, Punch, ClearPunchFlagAndPunch, SkipOnKeyboardFlag, ClearKeyboardFlagAndAccumulator, ReadKeyboardBuffer, TakeKeyboardByte, SkipOnPrinterFlag, ClearPrinterFlag, Print, ClearPrinterFlagAndPrint, ClearKeyboardFlag, SetPrinterFlag}
use Rattle.instruct.specs.Devices.{word_of, operations, more_operations, device_operation}
use Rattle.instruct.specs.Operates.{operate1_of, operate2_of, skips_of, mq_operate}
use Rattle.instruct.specs.Instructions.{Meaning, And, Tad, Isz, Dca, Jms, Jmp, Group1, Group2, Group3, Device, Undefined, DeviceAction, processor_action, meaning_of, kind_of}
use Rattle.instruct.proofs.KindLemmas.{device_meaning_of}
use Rattle.processor.specs.Cells.{updated}
use Rattle.processor.specs.Machine.{State, Answer, Does, Answers, operand, seen, place, after, next_pc, instruction}
use Rattle.processor.specs.Steps.{answer_taken, halts_after}
use Rattle.peripherals.specs.declared.Event.{Event}
use Rattle.peripherals.specs.declared.Event.TheVariants.{Step, Key, PrinterDone, ReaderDone, PunchDone, Switches, Continue}
use Rattle.peripherals.specs.declared.Seen.{Seen}
use Rattle.peripherals.specs.declared.Seen.TheVariants as seen
use Rattle.peripherals.specs.Devices.{Devices, Reader, WorldState, answer_to, answer_of, devices_after, word_at_pc, Instructs, with_reader_flag, with_writer_flag, with_keyboard_flag, fetched, fetches, clears_keyboard, given}
use Rattle.peripherals.specs.Events.{Happens, done, read, struck, with_devices}
use Rattle.peripherals.specs.EventOutcomes.{seen_of}
use Rattle.machine_commands.specs.declared.follow.End.{End}
use Rattle.machine_commands.specs.declared.follow.End.TheVariants.{Unsupported}
use Rattle.wordset.specs.Lanes.{words}
use Rattle.command_parts.specs.declared.options.RunOptions.{RunOptions}
use Rattle.machine_commands.specs.Follows.{Follows, Ended, Stuck, Stopped, Went, end_of, goes_on, counted}
use Rattle.command_laws.specs.Laws.{Carries, RunsEnd}
use Rattle.machine_commands.specs.Running.{IsRunOf, fresh, status_of}
use Rattle.machine_commands.specs.Summary.{closing}
use Rattle.machine_commands.specs.Trace.{trace_of, traced}

-- what the devices deliver is bytes, and the switches show a word
pub record Tells (v : Devices) : Type 0 where
  pub key : v.keyboard.buffer < 256
  pub frame : v.reader.buffer < 256
  pub switches : v.switches < 4096

-- one step of a search: the value that is found passes the test
found_by : {X : Type 0} (test : X → Bool) (b : Bool) (x o : X) (rest : Option X) → test x ≡ b → (if b then Some x else rest) ≡ Some o →
    (rest ≡ Some o → test o ≡ true) → test o ≡ true
found_by test true x o rest is same later = cc
found_by test false x o rest is same later = later same

passes : {X : Type 0} (test : X → Bool) (xs : List X) (o : X) → find test xs ≡ Some o → test o ≡ true
passes test [] o is = cc
passes test (x ∷ xs) o is = found_by test (test x) x o (find test xs) refl is (passes test xs o)

equal : (a b : ℕ) → (a == b) ≡ true → a ≡ b
equal a b is = elim (eqb_tells a b) [
  | inl same ↦ same.1
  | inr apart ↦ let other : (a == b) ≡ false = apart.0 in cc
]

word_is : (p : Profile) (word : ℕ) (o : DeviceOperation) → device_operation p word ≡ Some o → word ≡ word_of o
unfolding device_operation
word_is p word o is = equal word (word_of o) (passes (λ o. word == word_of o) (operations ++ more_operations p) o is)

-- a device instruction has an answer: the accumulator after it, and whether it skips
abbrev Answered : DeviceAction → ℕ → Answer → Type 0
Answered a ac q = (ac' : ℕ) × (skip : Bool) × Answers a ac q ac' skip

answered : (o : DeviceOperation) (v : Devices) (ac : ℕ) → Tells v → Answered (processor_action o) ac (answer_to v (word_of o))
answered DisableInterrupts v ac tells = (ac, false, (refl, refl, refl))
answered SkipOnReaderFlag v ac tells = (ac, v.reader.flag, (refl, refl))
answered ReadReaderBuffer v ac tells = (bit_or ac v.reader.buffer, false, (v.reader.buffer, tells.frame, refl, refl, refl))
answered FetchReaderFrame v ac tells = (ac, false, (refl, refl, refl))
answered ReadReaderBufferAndFetchFrame v ac tells = (bit_or ac v.reader.buffer, false, (v.reader.buffer, tells.frame, refl, refl, refl))
answered SkipOnPunchFlag v ac tells = (ac, v.punch.flag, (refl, refl))
answered ClearPunchFlag v ac tells = (ac, false, (refl, refl, refl))
answered Punch v ac tells = (ac, false, (refl, refl, refl))
answered ClearPunchFlagAndPunch v ac tells = (ac, false, (refl, refl, refl))
answered SkipOnKeyboardFlag v ac tells = (ac, v.keyboard.flag, (refl, refl))
answered ClearKeyboardFlagAndAccumulator v ac tells = (0, false, (refl, refl, refl))
answered ReadKeyboardBuffer v ac tells = (bit_or ac v.keyboard.buffer, false, (v.keyboard.buffer, tells.key, refl, refl, refl))
answered TakeKeyboardByte v ac tells = (v.keyboard.buffer, false, (v.keyboard.buffer, tells.key, refl, refl, refl))
answered SkipOnPrinterFlag v ac tells = (ac, v.printer.flag, (refl, refl))
answered ClearPrinterFlag v ac tells = (ac, false, (refl, refl, refl))
answered Print v ac tells = (ac, false, (refl, refl, refl))
answered ClearPrinterFlagAndPrint v ac tells = (ac, false, (refl, refl, refl))
answered ClearKeyboardFlag v ac tells = (ac, false, (refl, refl, refl))
answered SetPrinterFlag v ac tells = (ac, false, (refl, refl, refl))

operation_answered : (p : Profile) (word : ℕ) (found : Option DeviceOperation) (a : DeviceAction) (v : Devices) (ac : ℕ) → device_operation p word ≡ found →
    option_map processor_action found ≡ Some a → Tells v → Answered a ac (answer_to v word)
operation_answered p word None a v ac is some tells = cc
operation_answered p word (Some o) a v ac is some tells =
    let same : word ≡ word_of o = word_is p word o is in
    let action : processor_action o ≡ a = cc in
    subst (λ w. Answered a ac (answer_to v w)) (sym same) (subst (λ x. Answered x ac (answer_to v (word_of o))) action (answered o v ac tells))

same_action : (a b : DeviceAction) → Device a ≡ Device b → a ≡ b
same_action a b same = cc

device_answered : (p : Profile) (at word : ℕ) (a : DeviceAction) (v : Devices) (ac : ℕ) → meaning_of p at word ≡ Device a → Tells v → Answered a ac (answer_to v word)
device_answered p at word a v ac is tells =
    let told = device_meaning_of p at word (ap kind_of is) in
    let same : told.0 ≡ a = same_action told.0 a (sym told.2 ∙ is) in
    operation_answered p word (device_operation p word) a v ac refl (told.1 ∙ ap Some same) tells

-- an instruction that has a meaning leads to a state
abbrev Leads : Meaning → State → Answer → Type 0
Leads m s q = (t : State) × Does m s q t

led : (p : Profile) (m : Meaning) (s : State) (v : Devices) → meaning_of p s.pc (s.memory s.pc) ≡ m → (m ≡ Undefined → ⊥) → Tells v →
    Leads m s (answer_taken m (answer_to v (s.memory s.pc)) v.switches)
led p (And i c) s v is some tells = (record s { ac = bit_and s.ac (operand i c s.memory); pc = after s.pc 1; memory = seen i c s.memory }, (refl, refl))
led p (Tad i c) s v is some tells = (record s { ac = (s.ac + operand i c s.memory) % 4096; link = (s.link + (s.ac + operand i c s.memory) / 4096) % 2; pc = after s.pc 1; memory = seen i c s.memory }, (refl, refl))
led p (Isz i c) s v is some tells = (record s { pc = next_pc s.pc (after (operand i c s.memory) 1 == 0); memory = updated (seen i c s.memory) (place i c s.memory) (after (operand i c s.memory) 1) }, (refl, refl))
led p (Dca i c) s v is some tells = (record s { ac = 0; pc = after s.pc 1; memory = updated (seen i c s.memory) (place i c s.memory) s.ac }, (refl, refl))
led p (Jms i c) s v is some tells = (record s { pc = after (place i c s.memory) 1; memory = updated (seen i c s.memory) (place i c s.memory) (after s.pc 1) }, (refl, refl))
led p (Jmp i c) s v is some tells = (record s { pc = place i c s.memory; memory = seen i c s.memory }, (refl, refl))
led p (Group1 w) s v is some tells = (record s { ac = (operate1_of w (s.ac, s.link)).0; link = (operate1_of w (s.ac, s.link)).1; pc = after s.pc 1 }, (refl, refl))
led p (Group2 w) s v is some tells = (record s { ac = operate2_of w s.ac v.switches; pc = next_pc s.pc (skips_of w s.ac s.link) }, (v.switches, tells.switches, refl, refl))
led p (Group3 o) s v is some tells = (record s { ac = (mq_operate o (s.ac, s.mq)).0; mq = (mq_operate o (s.ac, s.mq)).1; pc = after s.pc 1 }, (refl, refl))
led p (Device a) s v is some tells =
    let told = device_answered p s.pc (s.memory s.pc) a v s.ac is tells in
    (record s { ac = told.0; pc = next_pc s.pc told.1 }, (told.0, told.1, told.2, refl))
led p Undefined s v is some tells = absurd (some refl)

-- the devices go on delivering bytes and a word, whichever of the two they become
tells_if : (b : Bool) (x y : Devices) → Tells x → Tells y → Tells (if b then x else y)
tells_if true x y first second = first
tells_if false x y first second = second

with_same : (v u : Devices) → u.keyboard.buffer ≡ v.keyboard.buffer → u.reader.buffer ≡ v.reader.buffer → u.switches ≡ v.switches → Tells v → Tells u
with_same v u keys frames shown tells = record { key = rw keys tells.key; frame = rw frames tells.frame; switches = rw shown tells.switches }

tells_after : (v : Devices) (word ac : ℕ) → Tells v → Tells (devices_after v word ac)
unfolding devices_after
tells_after v word ac tells =
    let small : 0 < 256 = omega arith in
    let frames : Tells (record v { reader = fetched v.reader }) = record { key = tells.key; frame = small; switches = tells.switches } in
    tells_if (word == word_of ReadReaderBuffer) (record v { reader = with_reader_flag false v.reader }) _ (with_same v (record v { reader = with_reader_flag false v.reader }) refl refl refl tells)
    (tells_if (fetches word) (record v { reader = fetched v.reader }) _ frames
    (tells_if (word == word_of ClearPunchFlag) (record v { punch = with_writer_flag false v.punch }) _ (with_same v (record v { punch = with_writer_flag false v.punch }) refl refl refl tells)
    (tells_if (word == word_of Punch) (record v { punch = given ac v.punch }) _ (with_same v (record v { punch = given ac v.punch }) refl refl refl tells)
    (tells_if (word == word_of ClearPunchFlagAndPunch) (record v { punch = given ac (with_writer_flag false v.punch) }) _ (with_same v (record v { punch = given ac (with_writer_flag false v.punch) }) refl refl refl tells)
    (tells_if (clears_keyboard word) (record v { keyboard = with_keyboard_flag false v.keyboard }) _ (with_same v (record v { keyboard = with_keyboard_flag false v.keyboard }) refl refl refl tells)
    (tells_if (word == word_of SetPrinterFlag) (record v { printer = with_writer_flag true v.printer }) _ (with_same v (record v { printer = with_writer_flag true v.printer }) refl refl refl tells)
    (tells_if (word == word_of ClearPrinterFlag) (record v { printer = with_writer_flag false v.printer }) _ (with_same v (record v { printer = with_writer_flag false v.printer }) refl refl refl tells)
    (tells_if (word == word_of Print) (record v { printer = given ac v.printer }) _ (with_same v (record v { printer = given ac v.printer }) refl refl refl tells)
    (tells_if (word == word_of ClearPrinterFlagAndPrint) (record v { printer = given ac (with_writer_flag false v.printer) }) _ (with_same v (record v { printer = given ac (with_writer_flag false v.printer) }) refl refl refl tells) tells)))))))))

frame_if : (b : Bool) (x y : Reader) → x.buffer < 256 → y.buffer < 256 → (if b then x else y).buffer < 256
frame_if true x y first second = first
frame_if false x y first second = second

-- an event leads to a state in which the devices still deliver bytes
abbrev pub Goes : Profile → WorldState → Event → Type 0
Goes p w e = (x : WorldState) × Happens p w e x × Tells x.devices

carried : (p : Profile) (w : WorldState) (m : Meaning) → instruction p w.state ≡ m → (m ≡ Undefined → ⊥) → Tells w.devices → (x : WorldState) × Instructs p w x × Tells x.devices
carried p w m is some tells =
    let led = led p m w.state w.devices is some tells in
    let step : Does (instruction p w.state) w.state (answer_of p w) led.0 = rw is led.1 in (
      record { state = led.0; devices = devices_after w.devices (word_at_pc w) w.state.ac; halted_at = if halts_after (instruction p w.state) then Some w.state.pc else None },
      inl (record { step = step; devices = refl; halted_at = refl }),
      tells_after w.devices (word_at_pc w) w.state.ac tells,
    )

instructed : (p : Profile) (w : WorldState) (m : Meaning) → instruction p w.state ≡ m → Tells w.devices → (x : WorldState) × Instructs p w x × Tells x.devices
instructed p w (And i c) is tells = carried p w (And i c) is (λ e. cc) tells
instructed p w (Tad i c) is tells = carried p w (Tad i c) is (λ e. cc) tells
instructed p w (Isz i c) is tells = carried p w (Isz i c) is (λ e. cc) tells
instructed p w (Dca i c) is tells = carried p w (Dca i c) is (λ e. cc) tells
instructed p w (Jms i c) is tells = carried p w (Jms i c) is (λ e. cc) tells
instructed p w (Jmp i c) is tells = carried p w (Jmp i c) is (λ e. cc) tells
instructed p w (Group1 g) is tells = carried p w (Group1 g) is (λ e. cc) tells
instructed p w (Group2 g) is tells = carried p w (Group2 g) is (λ e. cc) tells
instructed p w (Group3 o) is tells = carried p w (Group3 o) is (λ e. cc) tells
instructed p w (Device a) is tells = carried p w (Device a) is (λ e. cc) tells
instructed p w Undefined is tells = (w, inr (is, refl), tells)

stepped : (p : Profile) (w : WorldState) (halted : Option ℕ) → w.halted_at ≡ halted → Tells w.devices → Goes p w Step
stepped p w (Some at) halted tells = (w, record { runs = λ running. cc; halted = λ here is. refl }, tells)
stepped p w None running tells =
    let done = instructed p w (instruction p w.state) refl tells in
    (done.0, record { runs = λ so. done.1; halted = λ here is. cc }, done.2)

pub goes : (p : Profile) (w : WorldState) (e : Event) → Carries e → Tells w.devices → Goes p w e
goes p w Step carries tells = stepped p w w.halted_at refl tells
goes p w (Key byte) carries tells =
    (with_devices w (struck byte w.devices), (carries, refl), record { key = carries; frame = tells.frame; switches = tells.switches })
goes p w PrinterDone carries tells =
    (with_devices w (record w.devices { printer = done w.devices.printer }), refl, with_same w.devices (record w.devices { printer = done w.devices.printer }) refl refl refl tells)
goes p w (ReaderDone byte) carries tells = (
  with_devices w (record w.devices { reader = read byte w.devices.reader }),
  (carries, refl),
  record { key = tells.key; frame = frame_if w.devices.reader.fetching _ _ carries tells.frame; switches = tells.switches },
)
goes p w PunchDone carries tells =
    (with_devices w (record w.devices { punch = done w.devices.punch }), refl, with_same w.devices (record w.devices { punch = done w.devices.punch }) refl refl refl tells)
goes p w (Switches word) carries tells =
    (with_devices w (record w.devices { switches = word }), (carries, refl), record { key = tells.key; frame = tells.frame; switches = carries })
goes p w Continue carries tells = (record w { halted_at = None }, refl, tells)

-- the events have a run from this state
abbrev pub Ends : Profile → Bool → List Event → WorldState → Type 0
Ends p ends es w = (lines : List ℕ) × (n : ℕ) × (end : End) × (x : WorldState) × Follows p ends es w lines n end x

went : (p : Profile) (ends : Bool) (e : Event) (es : List Event) (w m : WorldState) (what : Seen) → seen_of p w e ≡ what → goes_on ends what ≡ true → Happens p w e m →
    Ends p ends es m → Ends p ends (e ∷ es) w
went p ends e es w m what sees on happens later =
    (trace_of p w e m ++ later.0, counted what + later.1, later.2, later.3, Went e es w m later.3 what later.0 later.1 later.2 sees on happens later.4)

halted : (p : Profile) (ends : Bool) (e : Event) (es : List Event) (w m : WorldState) → seen_of p w e ≡ seen.Halted → Happens p w e m → Ends p ends es m → Ends p ends (e ∷ es) w
halted p true e es w m sees happens later = (trace_of p w e m, 1, end_of m, m, Stopped e es w m refl sees happens)
halted p false e es w m sees happens later = went p false e es w m seen.Halted sees refl happens later

one_more : (p : Profile) (ends : Bool) (e : Event) (es : List Event) (w m : WorldState) (what : Seen) → seen_of p w e ≡ what → Happens p w e m → Ends p ends es m → Ends p ends (e ∷ es) w
one_more p ends e es w m seen.Ran sees happens later = went p ends e es w m seen.Ran sees refl happens later
one_more p ends e es w m seen.Changed sees happens later = went p ends e es w m seen.Changed sees refl happens later
one_more p ends e es w m seen.NotEnabled sees happens later = went p ends e es w m seen.NotEnabled sees refl happens later
one_more p ends e es w m seen.Halted sees happens later = halted p ends e es w m sees happens later
one_more p ends e es w m (seen.Unsupported word) sees happens later = ([], 0, Unsupported m.state.pc, m, Stuck e es w m word sees happens)

ended : (p : Profile) (ends : Bool) (es : List Event) (w : WorldState) → AllByRecursion Carries es → Tells w.devices → Ends p ends es w
ended p ends [] w all tells = ([], 0, end_of w, w, Ended w)
ended p ends (e ∷ es) w all tells =
    let next = goes p w e all.0 tells in
    one_more p ends e es w next.0 (seen_of p w e) refl next.1 (ended p ends es next.0 all.1 next.2)

run_of : (options : RunOptions) (ends : Bool) (events : List Event) (image : List (Option ℕ)) (lines : List ℕ) (n : ℕ) (end : End) (x : WorldState) →
    Follows options.profile ends events (fresh image options.start) lines n end x →
    IsRunOf options ends events image (traced options.trace lines ++ closing (words options.show) end x n) (status_of end)
run_of options ends events image lines n end x follows = record {
  lines = lines;
  steps = n;
  end = end;
  final = x;
  follows = follows;
  text_is = refl;
  status_is = refl;
}

pub runs_end : RunsEnd
runs_end options ends events image all =
    let idles : Tells (fresh image options.start).devices = record { key = omega arith; frame = omega arith; switches = omega arith } in
    let run = ended options.profile ends events (fresh image options.start) all idles in
    (traced options.trace run.0 ++ closing (words options.show) run.2 run.3 run.1, status_of run.2, run_of options ends events image run.0 run.1 run.2 run.3 run.4)
