use Rattle.std.proofs.Common.{◌≡◌, ◌⊎◌, ◌∙◌, ℕ, inl, inr, refl, ap}
use Rattle.instruct.specs.declared.devices.DeviceOperation.{DeviceOperation}
use Rattle.instruct.specs.declared.devices.DeviceOperation.TheVariants.{SkipOnReaderFlag, SkipOnPunchFlag, SkipOnKeyboardFlag, SkipOnPrinterFlag, ReadReaderBuffer, ReadReaderBufferAndFetchFrame, ReadKeyboardBuffer, ClearKeyboardFlagAndAccumulator, TakeKeyboardByte}
use Rattle.instruct.specs.Instructions.{Ors, Leaves, processor_action}
use Rattle.wordset.specs.Words.{all_words, one}
use Rattle.transfer.specs.Outcomes.{goes}
use Rattle.transfer.specs.Operations.{device_outcomes}
use Rattle.domain.specs.FactInCode.{fact_in_code}
use Rattle.facts.specs.PlaceInCode.{place_in_code}
use Rattle.transfer.proofs.ComesLemmas.{none_after}
use Rattle.facts.proofs.DeviceLemmas.{byte_in, zero_in, byte_taken}
use Rattle.facts.proofs.place.Place.transfer.Goals as goal

reads : (o : DeviceOperation) → (o ≡ ReadReaderBuffer) ⊎ ((o ≡ ReadReaderBufferAndFetchFrame) ⊎ (o ≡ ReadKeyboardBuffer)) → processor_action o ≡ Ors
reads o is = elim is [ inl e ↦ rw e refl | inr other ↦ elim other [ inl e ↦ rw e refl | inr e ↦ rw e refl ] ]

pub returns-in-ReadReaderBuffer : goal.returns-in-ReadReaderBuffer
returns-in-ReadReaderBuffer g c = none_after (byte_in (place_in_code c.args.self.now) c.args.at (fact_in_code c.args.fact.now) c.assign.ensures (reads c.args.operation c.in-ReadReaderBuffer.is) c.with_byte.ensures) c.clear.ensures

pub returns-in-ClearKeyboardFlagAndAccumulator : goal.returns-in-ClearKeyboardFlagAndAccumulator
returns-in-ClearKeyboardFlagAndAccumulator g c = rw c.in-ClearKeyboardFlagAndAccumulator.is (none_after (zero_in (place_in_code c.args.self.now) c.args.at (fact_in_code c.args.fact.now) c.assign-in-ClearKeyboardFlagAndAccumulator.ensures refl c.one.ensures) c.clear.ensures)

pub returns-in-TakeKeyboardByte : goal.returns-in-TakeKeyboardByte
returns-in-TakeKeyboardByte g c = rw c.in-TakeKeyboardByte.is (none_after (byte_taken (place_in_code c.args.self.now) c.args.at (fact_in_code c.args.fact.now) _ _ c.assign-in-TakeKeyboardByte.ensures refl c.range-set.ensures refl c.from_byte.ensures.same) c.clear.ensures)

leaves : (o : DeviceOperation) → (o ≡ SkipOnReaderFlag → ⊥) → (o ≡ SkipOnPunchFlag → ⊥) → (o ≡ SkipOnKeyboardFlag → ⊥) → (o ≡ SkipOnPrinterFlag → ⊥) →
    (o ≡ ReadReaderBuffer → ⊥) → (o ≡ ReadReaderBufferAndFetchFrame → ⊥) → (o ≡ ReadKeyboardBuffer → ⊥) → (o ≡ ClearKeyboardFlagAndAccumulator → ⊥) → (o ≡ TakeKeyboardByte → ⊥) →
    Leaves ≡ processor_action o
leaves SkipOnReaderFlag a b c d e f g h i = absurd (a refl)
leaves SkipOnPunchFlag a b c d e f g h i = absurd (b refl)
leaves SkipOnKeyboardFlag a b c d e f g h i = absurd (c refl)
leaves SkipOnPrinterFlag a b c d e f g h i = absurd (d refl)
leaves ReadReaderBuffer a b c d e f g h i = absurd (e refl)
leaves ReadReaderBufferAndFetchFrame a b c d e f g h i = absurd (f refl)
leaves ReadKeyboardBuffer a b c d e f g h i = absurd (g refl)
leaves ClearKeyboardFlagAndAccumulator a b c d e f g h i = absurd (h refl)
leaves TakeKeyboardByte a b c d e f g h i = absurd (i refl)
leaves _ a b c d e f g h i = refl

pub returns-in_default : goal.returns-in_default
returns-in_default g c = none_after (c.leave.ensures
    ∙ ap (λ (n : ℕ). goes (place_in_code c.args.self.now) all_words (fact_in_code c.args.fact.now) all_words (one n) (fact_in_code c.args.fact.now)) c.increment.ensures
    ∙ ap (device_outcomes (place_in_code c.args.self.now) c.args.at (fact_in_code c.args.fact.now)) (leaves c.args.operation
    c.in_default.not-SkipOnReaderFlag c.in_default.not-SkipOnPunchFlag c.in_default.not-SkipOnKeyboardFlag c.in_default.not-SkipOnPrinterFlag
    c.in_default.not-ReadReaderBuffer c.in_default.not-ReadReaderBufferAndFetchFrame c.in_default.not-ReadKeyboardBuffer
    c.in_default.not-ClearKeyboardFlagAndAccumulator c.in_default.not-TakeKeyboardByte)) c.clear.ensures
