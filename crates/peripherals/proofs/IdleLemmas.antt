-- Events that change nothing.
use Rattle.std.proofs.Common.{ℕ, ◌≡◌, Bool, true, false, inl, inr, Option, Some, None, refl, ap, ◌∙◌}
use Rattle.std.specs.Prelude.{if◌then◌else◌, is_none, is_some}
use Rattle.instruct.specs.declared.Profile.{Profile}
use Rattle.instruct.specs.Instructions.{Meaning, And, Tad, Isz, Dca, Jms, Jmp, Group1, Group2, Group3, Device, Undefined}
use Rattle.processor.specs.Machine.{instruction}
use Rattle.processor.specs.Steps.{halts_after}
use Rattle.peripherals.specs.declared.Event.TheVariants.{Step as Instruct, Key, PrinterDone, ReaderDone, PunchDone, Switches, Continue}
use Rattle.peripherals.specs.declared.Seen.TheVariants.{NotEnabled, Ran, Halted, Unsupported}
use Rattle.peripherals.specs.Devices.{Reader, Writer, WorldState, Instructs, answer_of, word_at_pc}
use Rattle.peripherals.specs.Events.{Steps, done, read, with_devices}
use Rattle.peripherals.specs.Laws.{IdleEventsChangeNothing, UnsupportedStepsChangeNothing}
use Rattle.peripherals.specs.EventOutcomes.{seen_of_step}
use Rattle.peripherals.proofs.OneLemmas.{not_carried}

idle_writer : (d : Writer) → d.busy ≡ false → done d ≡ d
idle_writer d idle = rw idle refl

idle_reader : (byte : ℕ) (d : Reader) → d.fetching ≡ false → read byte d ≡ d
idle_reader byte d idle = rw idle refl

halted_step : (p : Profile) (w x : WorldState) (o : Option ℕ) → w.halted_at ≡ o → is_none o ≡ false → Steps p w x → x ≡ w
halted_step p w x None is idle steps = cc
halted_step p w x (Some at) is idle steps = steps.halted at is

running_on : (w x : WorldState) (o : Option ℕ) → w.halted_at ≡ o → is_some o ≡ false → x ≡ record w { halted_at = None } → x ≡ w
running_on w x None is idle same = same ∙ ap (λ (h : Option ℕ). let made : WorldState = record w { halted_at = h } in made) (None_is is)
  where
    None_is : w.halted_at ≡ None → None ≡ w.halted_at
    None_is e = cc
running_on w x (Some at) is idle same = cc

pub idle_events : IdleEventsChangeNothing
idle_events p w x Instruct idle happens = halted_step p w x w.halted_at refl idle happens
idle_events p w x (Key byte) idle happens = cc
idle_events p w x PrinterDone idle happens =
    happens ∙ ap (λ (d : Writer). with_devices w (record w.devices { printer = d })) (idle_writer w.devices.printer idle)
idle_events p w x (ReaderDone byte) idle happens =
    happens.1 ∙ ap (λ (d : Reader). with_devices w (record w.devices { reader = d })) (idle_reader byte w.devices.reader idle)
idle_events p w x PunchDone idle happens =
    happens ∙ ap (λ (d : Writer). with_devices w (record w.devices { punch = d })) (idle_writer w.devices.punch idle)
idle_events p w x (Switches word) idle happens = cc
idle_events p w x Continue idle happens = running_on w x w.halted_at refl idle happens

-- ---- words without a meaning

ran_or_halted : (b : Bool) (word : ℕ) → (if b then Halted else Ran) ≡ Unsupported word → ⊥
ran_or_halted true word is = cc
ran_or_halted false word is = cc

no_meaning : (m : Meaning) (at word : ℕ) → seen_of_step m at ≡ Unsupported word → m ≡ Undefined
no_meaning (And i c) at word is = absurd (ran_or_halted (halts_after (And i c)) word is)
no_meaning (Tad i c) at word is = absurd (ran_or_halted (halts_after (Tad i c)) word is)
no_meaning (Isz i c) at word is = absurd (ran_or_halted (halts_after (Isz i c)) word is)
no_meaning (Dca i c) at word is = absurd (ran_or_halted (halts_after (Dca i c)) word is)
no_meaning (Jms i c) at word is = absurd (ran_or_halted (halts_after (Jms i c)) word is)
no_meaning (Jmp i c) at word is = absurd (ran_or_halted (halts_after (Jmp i c)) word is)
no_meaning (Group1 w) at word is = absurd (ran_or_halted (halts_after (Group1 w)) word is)
no_meaning (Group2 w) at word is = absurd (ran_or_halted (halts_after (Group2 w)) word is)
no_meaning (Group3 o) at word is = absurd (ran_or_halted (halts_after (Group3 o)) word is)
no_meaning (Device a) at word is = absurd (ran_or_halted (halts_after (Device a)) word is)
no_meaning Undefined at word is = refl

stays : (p : Profile) (w x : WorldState) → instruction p w.state ≡ Undefined → Instructs p w x → x ≡ w
stays p w x none (inl out) = absurd (not_carried (instruction p w.state) w.state (answer_of p w) x.state none out.step)
stays p w x none (inr same) = same.1

at_step : (p : Profile) (w x : WorldState) (word : ℕ) (o : Option ℕ) → w.halted_at ≡ o → (if is_none o then seen_of_step (instruction p w.state) (word_at_pc w) else NotEnabled) ≡ Unsupported word → Steps p w x → x ≡ w
at_step p w x word None is sees steps = stays p w x (no_meaning (instruction p w.state) (word_at_pc w) word sees) (steps.runs is)
at_step p w x word (Some at) is sees steps = steps.halted at is

pub unsupported_steps : UnsupportedStepsChangeNothing
unsupported_steps p w x word sees happens = at_step p w x word w.halted_at refl sees happens
