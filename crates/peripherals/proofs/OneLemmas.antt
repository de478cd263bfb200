-- An event leads to one world.
use Rattle.std.proofs.Common.{ℕ, ◌≡◌, inl, inr, Option, Some, None, refl, sym, ap, ◌∙◌}
use Rattle.instruct.specs.declared.Profile.{Profile}
use Rattle.instruct.specs.Instructions.{Meaning, Undefined}
use Rattle.processor.specs.Machine.{State, Answer, Does, instruction}
use Rattle.processor.proofs.OneLemmas.{does_one}
use Rattle.peripherals.specs.declared.Event.TheVariants.{Step as Instruct, Key, PrinterDone, ReaderDone, PunchDone, Switches, Continue}
use Rattle.peripherals.specs.Devices.{Devices, WorldState, answer_of, CarriesOut, Instructs}
use Rattle.peripherals.specs.Events.{Steps}
use Rattle.peripherals.specs.Laws.{EventsLeadToOneWorld}

same_world : (x y : WorldState) → x.state ≡ y.state → x.devices ≡ y.devices → x.halted_at ≡ y.halted_at → x ≡ y
same_world x y p q r =
    let made : State → Devices → Option ℕ → WorldState = λ s v h. record { state = s; devices = v; halted_at = h } in
    ap (λ (s : State). made s x.devices x.halted_at) p ∙ ap (λ (v : Devices). made y.state v x.halted_at) q ∙ ap (λ (h : Option ℕ). made y.state y.devices h) r

carried_one : (profile : Profile) (w x y : WorldState) → CarriesOut profile w x → CarriesOut profile w y → x ≡ y
carried_one profile w x y a b =
    same_world x y (does_one (instruction profile w.state) w.state (answer_of profile w) x.state y.state a.step b.step) (a.devices ∙ sym b.devices) (a.halted_at ∙ sym b.halted_at)

pub not_carried : (m : Meaning) (s : State) (q : Answer) (t : State) → m ≡ Undefined → Does m s q t → ⊥
not_carried m s q t is does = rw is at does

instructs_one : (profile : Profile) (w x y : WorldState) → Instructs profile w x → Instructs profile w y → x ≡ y
instructs_one profile w x y (inl a) (inl b) = carried_one profile w x y a b
instructs_one profile w x y (inl a) (inr b) = absurd (not_carried (instruction profile w.state) w.state (answer_of profile w) x.state b.0 a.step)
instructs_one profile w x y (inr a) (inl b) = absurd (not_carried (instruction profile w.state) w.state (answer_of profile w) y.state a.0 b.step)
instructs_one profile w x y (inr a) (inr b) = a.1 ∙ sym b.1

steps_one : (profile : Profile) (w x y : WorldState) (halted : Option ℕ) → w.halted_at ≡ halted → Steps profile w x → Steps profile w y → x ≡ y
steps_one profile w x y None is a b = instructs_one profile w x y (a.runs is) (b.runs is)
steps_one profile w x y (Some at) is a b = a.halted at is ∙ sym (b.halted at is)

-- an event leads to one world
pub one_world : EventsLeadToOneWorld
one_world profile w Instruct x y a b = steps_one profile w x y w.halted_at refl a b
one_world profile w (Key byte) x y a b = a.1 ∙ sym b.1
one_world profile w PrinterDone x y a b = a ∙ sym b
one_world profile w (ReaderDone byte) x y a b = a.1 ∙ sym b.1
one_world profile w PunchDone x y a b = a ∙ sym b
one_world profile w (Switches word) x y a b = a.1 ∙ sym b.1
one_world profile w Continue x y a b = a ∙ sym b
