-- One instruction of the world, from the processor's step and what the panel made of it.
use Rattle.std.proofs.Common.{ℕ, ◌≡◌, ◌/◌, ◌==◌, inl, inr, Bool, false, Option, Some, None, List, if◌then◌else◌, refl, sym, ◌∙◌, ap, arith, subst}
use Rattle.std.proofs.lemmas.Bool.Decides.{nat_tests, eqb_tells}
use Rattle.instruct.specs.declared.Profile.{Profile}
use Rattle.instruct.specs.declared.Instruction.TheVariants.{Memory, Operate1, Operate2, Operate3, Iot, Unsupported}
use Rattle.instruct.specs.declared.Instruction.{Instruction}
use Rattle.instruct.specs.Instructions.{Leaves, Meaning, Undefined, And, Tad, Isz, Dca, Jms, Jmp, Group1, Group2, Group3, Device, meaning_of, kind_of, DeviceAction, device_action, device_meaning}
use Rattle.instruct.specs.Devices.{device_operation}
use Rattle.instruct.specs.declared.Profile.TheVariants.{Pdp8E}
use Rattle.instruct.specs.declared.devices.DeviceOperation.{DeviceOperation}
use Rattle.instruct.specs.declared.devices.DeviceOperation.TheVariants.{Print, ClearPrinterFlagAndPrint, Punch, ClearPunchFlagAndPunch}
use Rattle.processor.specs.Cells.{Cells}
use Rattle.processor.specs.Fetch.{decoded, fetched}
use Rattle.processor.specs.Machine.{State, Answer, Step, Does, instruction}
use Rattle.processor.specs.Steps.{answer_taken, halts_after, BusAfter}
use Rattle.processor.specs.declared.fetch.DecodedInstruction.{DecodedInstruction}
use Rattle.peripherals.specs.declared.devices.Panel.{Panel}
use Rattle.peripherals.specs.Devices.{Devices, devices_after}
use Rattle.peripherals.specs.Events.{Steps}
use Rattle.peripherals.specs.World.{devices_of, panel_answer, prints, punches, does_print, does_punch, put_out, GoesOn}

apart : (word k : ℕ) → k / 512 ≡ 6 → (word / 512 ≡ 6 → ⊥) → (word == k) ≡ false
apart word k six other = grind (arith, nat_tests)

-- only a device word changes the devices
pub devices_stay : (v : Devices) (word ac : ℕ) → (word / 512 ≡ 6 → ⊥) → devices_after v word ac ≡ v
unfolding devices_after
devices_stay v word ac other =
    rw (apart word 0o6012 refl other, apart word 0o6014 refl other, apart word 0o6016 refl other, apart word 0o6022 refl other, apart word 0o6024 refl other, apart word 0o6026 refl other, apart word 0o6030 refl other, apart word 0o6032 refl other, apart word 0o6036 refl other, apart word 0o6040 refl other, apart word 0o6042 refl other, apart word 0o6044 refl other, apart word 0o6046 refl other) refl

no_print : (word : ℕ) → (word / 512 ≡ 6 → ⊥) → prints word ≡ false
no_print word other = rw (apart word 0o6044 refl other, apart word 0o6046 refl other) refl

no_punch : (word : ℕ) → (word / 512 ≡ 6 → ⊥) → punches word ≡ false
no_punch word other = rw (apart word 0o6024 refl other, apart word 0o6026 refl other) refl

sixth : (p : Profile) (at word : ℕ) → word / 512 ≡ 6 → meaning_of p at word ≡ device_meaning (device_action p word)
unfolding meaning_of
sixth p at word six = rw six refl

device_kinds : (o : Option DeviceAction) (k : Instruction) → kind_of (device_meaning o) ≡ k → (k ≡ Iot → ⊥) → (k ≡ Unsupported → ⊥) → ⊥
device_kinds (Some a) k is iot unsupported = iot (sym is)
device_kinds None k is iot unsupported = unsupported (sym is)

-- a word that is neither a device word nor unsupported has another operation
other_operation : (p : Profile) (at word : ℕ) (k : Instruction) → kind_of (meaning_of p at word) ≡ k → (k ≡ Iot → ⊥) → (k ≡ Unsupported → ⊥) → word / 512 ≡ 6 → ⊥
other_operation p at word k is iot unsupported six =
    device_kinds (device_action p word) k (ap kind_of (sym (sixth p at word six)) ∙ is) iot unsupported

stays : (p : Profile) (at word ac : ℕ) (q q' : Panel) (printed punched : List ℕ) (k : Instruction) → kind_of (meaning_of p at word) ≡ k → (k ≡ Iot → ⊥) → (k ≡ Unsupported → ⊥) → q' ≡ q →
    devices_of q' (put_out (prints word) ac printed) (put_out (punches word) ac punched) ≡ devices_after (devices_of q printed punched) word ac
stays p at word ac q q' printed punched k is iot unsupported same =
    let other = other_operation p at word k is iot unsupported in
    rw (devices_stay (devices_of q printed punched) word ac other, no_print word other, no_punch word other, same) refl

-- the devices after an instruction that is carried out
devices_carried : (m : Meaning) (p : Profile) (at word ac : ℕ) (q q' : Panel) (printed punched : List ℕ) → meaning_of p at word ≡ m → (m ≡ Undefined → ⊥) → BusAfter m (GoesOn q word ac q') (q' ≡ q) →
    devices_of q' (put_out (prints word) ac printed) (put_out (punches word) ac punched) ≡ devices_after (devices_of q printed punched) word ac
devices_carried (And i c) p at word ac q q' o r is some bus = stays p at word ac q q' o r Memory (ap kind_of is) (λ e. cc) (λ e. cc) bus
devices_carried (Tad i c) p at word ac q q' o r is some bus = stays p at word ac q q' o r Memory (ap kind_of is) (λ e. cc) (λ e. cc) bus
devices_carried (Isz i c) p at word ac q q' o r is some bus = stays p at word ac q q' o r Memory (ap kind_of is) (λ e. cc) (λ e. cc) bus
devices_carried (Dca i c) p at word ac q q' o r is some bus = stays p at word ac q q' o r Memory (ap kind_of is) (λ e. cc) (λ e. cc) bus
devices_carried (Jms i c) p at word ac q q' o r is some bus = stays p at word ac q q' o r Memory (ap kind_of is) (λ e. cc) (λ e. cc) bus
devices_carried (Jmp i c) p at word ac q q' o r is some bus = stays p at word ac q q' o r Memory (ap kind_of is) (λ e. cc) (λ e. cc) bus
devices_carried (Group1 w) p at word ac q q' o r is some bus = stays p at word ac q q' o r Operate1 (ap kind_of is) (λ e. cc) (λ e. cc) bus
devices_carried (Group2 w) p at word ac q q' o r is some bus = stays p at word ac q q' o r Operate2 (ap kind_of is) (λ e. cc) (λ e. cc) bus
devices_carried (Group3 g) p at word ac q q' o r is some bus = stays p at word ac q q' o r Operate3 (ap kind_of is) (λ e. cc) (λ e. cc) bus
devices_carried (Device a) p at word ac q q' o r is some bus = sym (bus.devices o r)
devices_carried Undefined p at word ac q q' o r is some bus = absurd (some refl)

differs : (p : Profile) (at word k : ℕ) → meaning_of p at k ≡ Device Leaves → meaning_of p at word ≡ Undefined → (word == k) ≡ false
differs p at word k meaning is = elim (eqb_tells word k) [
  | inl same ↦ let other : meaning_of p at k ≡ Undefined = rw same.1 at is in cc
  | inr apart ↦ apart.0
]

leaves : (p : Profile) (at : ℕ) → (meaning_of p at 0o6044 ≡ Device Leaves) × (meaning_of p at 0o6046 ≡ Device Leaves) × (meaning_of p at 0o6024 ≡ Device Leaves) × (meaning_of p at 0o6026 ≡ Device Leaves)
unfolding meaning_of device_operation
leaves p at = (refl, refl, refl, refl)

undefined_prints : (p : Profile) (at word : ℕ) → meaning_of p at word ≡ Undefined → prints word ≡ false
undefined_prints p at word is = rw (differs p at word 0o6044 (leaves p at).0 is, differs p at word 0o6046 (leaves p at).1 is) refl

undefined_punches : (p : Profile) (at word : ℕ) → meaning_of p at word ≡ Undefined → punches word ≡ false
undefined_punches p at word is = rw (differs p at word 0o6024 (leaves p at).2 is, differs p at word 0o6026 (leaves p at).3 is) refl

no_output : (p : Profile) (at word : ℕ) (k : Instruction) → kind_of (meaning_of p at word) ≡ k → (k ≡ Iot → ⊥) → (k ≡ Unsupported → ⊥) → (false ≡ prints word) × (false ≡ punches word)
no_output p at word k is iot unsupported =
    let other = other_operation p at word k is iot unsupported in
    (sym (no_print word other), sym (no_punch word other))

-- an instruction that was fetched prints and punches what its word does
device_prints : (m : Meaning) (p : Profile) (at word : ℕ) (memory : Cells) → meaning_of p at word ≡ m → (does_print (decoded m word memory) ≡ prints word) × (does_punch (decoded m word memory) ≡ punches word)
device_prints (And i c) p at word memory is = no_output p at word Memory (ap kind_of is) (λ e. cc) (λ e. cc)
device_prints (Tad i c) p at word memory is = no_output p at word Memory (ap kind_of is) (λ e. cc) (λ e. cc)
device_prints (Isz i c) p at word memory is = no_output p at word Memory (ap kind_of is) (λ e. cc) (λ e. cc)
device_prints (Dca i c) p at word memory is = no_output p at word Memory (ap kind_of is) (λ e. cc) (λ e. cc)
device_prints (Jms i c) p at word memory is = no_output p at word Memory (ap kind_of is) (λ e. cc) (λ e. cc)
device_prints (Jmp i c) p at word memory is = no_output p at word Memory (ap kind_of is) (λ e. cc) (λ e. cc)
device_prints (Group1 w) p at word memory is = no_output p at word Operate1 (ap kind_of is) (λ e. cc) (λ e. cc)
device_prints (Group2 w) p at word memory is = no_output p at word Operate2 (ap kind_of is) (λ e. cc) (λ e. cc)
device_prints (Group3 g) p at word memory is = no_output p at word Operate3 (ap kind_of is) (λ e. cc) (λ e. cc)
device_prints (Device a) p at word memory is = (refl, refl)
device_prints Undefined p at word memory is = (sym (undefined_prints p at word is), sym (undefined_punches p at word is))

pub fetched_prints : (p : Profile) (s : State) (i : DecodedInstruction) → i ≡ fetched p s → (does_print i ≡ prints (s.memory s.pc)) × (does_punch i ≡ punches (s.memory s.pc))
fetched_prints p s i is = rw is (device_prints (instruction p s) p s.pc (s.memory s.pc) s.memory refl)

undefined_does_nothing : (m : Meaning) (s t : State) (answer : Answer) → Does m s answer t → m ≡ Undefined → ⊥
undefined_does_nothing m s t answer does is =
    let P : Meaning → Type 0 = λ x. Does x s answer t in
    subst P is does

-- an instruction that is carried out, in front of the panel q
pub carried : (p : Profile) (s t : State) (q q' : Panel) (printed punched printed' punched' : List ℕ) (i : DecodedInstruction) (before halted : Option ℕ) (halts : Bool) →
    i ≡ fetched p s → before ≡ None → halted ≡ (if halts then Some s.pc else None) →
    Step p s (answer_taken (instruction p s) (panel_answer q (s.memory s.pc)) q.switches) t → halts_after (instruction p s) ≡ halts →
    BusAfter (instruction p s) (GoesOn q (s.memory s.pc) s.ac q') (q' ≡ q) →
    printed' ≡ put_out (does_print i) s.ac printed → punched' ≡ put_out (does_punch i) s.ac punched →
    Steps p (record { state = s; devices = devices_of q printed punched; halted_at = before }) (record { state = t; devices = devices_of q' printed' punched'; halted_at = halted })
carried p s t q q' printed punched printed' punched' i before halted halts read runs after step halting bus out1 out2 =
    let some : instruction p s ≡ Undefined → ⊥ = undefined_does_nothing (instruction p s) s t _ step in
    let told = fetched_prints p s i read in
    record {
      runs = λ running. inl (record {
        step = step;
        devices = rw (out1, out2, told.0, told.1) (devices_carried (instruction p s) p s.pc (s.memory s.pc) s.ac q q' printed punched refl some bus);
        halted_at = rw halting after;
      });
      halted = λ at is. cc;
    }

-- a word without an operation prints and punches nothing
is_another : (word k : ℕ) (o : DeviceOperation) → None ≡ device_operation Pdp8E word → device_operation Pdp8E k ≡ Some o → (word == k) ≡ false
is_another word k o none some = elim (eqb_tells word k) [
  | inl same ↦ let here : None ≡ device_operation Pdp8E k = rw same.1 at none in cc
  | inr apart ↦ apart.0
]

pub no_operation : (word : ℕ) → None ≡ device_operation Pdp8E word → (prints word ≡ false) × (punches word ≡ false)
unfolding device_operation
no_operation word none = (
  rw (is_another word 0o6044 Print none refl, is_another word 0o6046 ClearPrinterFlagAndPrint none refl) refl,
  rw (is_another word 0o6024 Punch none refl, is_another word 0o6026 ClearPunchFlagAndPunch none refl) refl,
)

-- at a word without a meaning nothing changes
pub refused : (p : Profile) (s t : State) (q q' : Panel) (printed punched printed' punched' : List ℕ) (i : DecodedInstruction) (before : Option ℕ) →
    i ≡ fetched p s → instruction p s ≡ Undefined → t ≡ s →
    BusAfter (instruction p s) (GoesOn q (s.memory s.pc) s.ac q') (q' ≡ q) →
    printed' ≡ put_out (does_print i) s.ac printed → punched' ≡ put_out (does_punch i) s.ac punched →
    Steps p (record { state = s; devices = devices_of q printed punched; halted_at = before }) (record { state = t; devices = devices_of q' printed' punched'; halted_at = before })
refused p s t q q' printed punched printed' punched' i before read none same bus out1 out2 =
    let panel : q' ≡ q = rw none at bus in
    let told = fetched_prints p s i read in
    let no1 : does_print i ≡ false = told.0 ∙ undefined_prints p s.pc (s.memory s.pc) none in
    let no2 : does_punch i ≡ false = told.1 ∙ undefined_punches p s.pc (s.memory s.pc) none in
    let unchanged : record { state = t; devices = devices_of q' printed' punched'; halted_at = before } ≡ record { state = s; devices = devices_of q printed punched; halted_at = before } =
    rw (same, panel, out1, out2, no1, no2) refl in
    record { runs = λ running. inr (none, unchanged); halted = λ at is. unchanged }
