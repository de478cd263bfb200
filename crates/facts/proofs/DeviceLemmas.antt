-- What words of group 3 and device words make of a fact, and the outcomes of a word by its kind.
use Rattle.std.proofs.Common.{◌≡◌, ℕ, ◌&&◌, Some, None, List, sym, ap, ◌∙◌, arith}
use Rattle.std.specs.Prelude.{nat_le, nat_lt}
use Rattle.std.proofs.Math.Path.{fun_ext}
use Rattle.std.proofs.lemmas.Bool.Decides.{nat_tests}
use Rattle.std.specs.Option.{option_map}
use Rattle.instruct.specs.declared.Instruction.TheVariants.{Operate3, Iot}
use Rattle.instruct.specs.declared.devices.DeviceOperation.{DeviceOperation}
use Rattle.instruct.specs.Devices.{device_operation}
use Rattle.instruct.specs.Operates.{MqOperate, mq_operate_of}
use Rattle.instruct.specs.Instructions.{Meaning, DeviceAction, Ors, Clears, Takes, kind_of, meaning_of, processor_action}
use Rattle.instruct.proofs.KindLemmas.{group3_meaning_of, device_meaning_of}
use Rattle.wordset.specs.Words.{Words, all_words, between, one, plus, or_any}
use Rattle.domain.specs.Locations.{Ac}
use Rattle.domain.specs.Facts.{Fact, Place}
use Rattle.domain.specs.Moves.{taking}
use Rattle.transfer.specs.Outcomes.{Successor, goes, ac_of}
use Rattle.transfer.specs.Operations.{operated3, device_outcomes, outcomes_of}
use Rattle.facts.specs.PlaceInCode.{meaning_in}
use Rattle.transfer.proofs.EntailLemmas.{none_is, some_is}

-- the words of a byte
pub bytes_same : {s : Words} (low high : ℕ) → s ≡ between low high → low ≡ 0 → high ≡ 255 → s ≡ (λ v. nat_lt v 256)
bytes_same {s} low high e l h = e ∙ ap (λ n. between n high) l ∙ ap (between 0) h ∙ fun_ext below
  where
    below : (n : ℕ) → (nat_le 0 n && nat_le n 255) ≡ nat_lt n 256
    below n = grind (arith, nat_tests)

-- the outcome of the word of group 3 that it is
pub exchange_is : {os : List Successor} (pl : Place) (at w k : ℕ) (p o : MqOperate) (f : Fact) → w ≡ k → mq_operate_of k ≡ Some p → mq_operate_of w ≡ Some o →
    os ≡ goes pl all_words f all_words (one (plus at 1)) (operated3 p (ac_of pl f) f) → os ≡ goes pl all_words f all_words (one (plus at 1)) (operated3 o (ac_of pl f) f)
exchange_is pl at w k p o f e q r h =
    let same : p ≡ o = some_is (sym q ∙ (ap mq_operate_of (sym e) ∙ r)) in
    h ∙ ap (λ x. goes pl all_words f all_words (one (plus at 1)) (operated3 x (ac_of pl f) f)) same

-- the accumulator's words after a device word
pub byte_in : {os : List Successor} {a : DeviceAction} {s : Words} (pl : Place) (at : ℕ) (f : Fact) →
    os ≡ goes pl all_words f all_words (one (plus at 1)) (taking Ac s f) → a ≡ Ors → s ≡ or_any 255 (ac_of pl f) → os ≡ device_outcomes pl at f a
byte_in pl at f h a e = h ∙ ap (λ (x : Words). goes pl all_words f all_words (one (plus at 1)) (taking Ac x f)) e ∙ ap (device_outcomes pl at f) (sym a)

pub zero_in : {os : List Successor} {a : DeviceAction} {s : Words} (pl : Place) (at : ℕ) (f : Fact) →
    os ≡ goes pl all_words f all_words (one (plus at 1)) (taking Ac s f) → a ≡ Clears → s ≡ one 0 → os ≡ device_outcomes pl at f a
zero_in pl at f h a e = h ∙ ap (λ (x : Words). goes pl all_words f all_words (one (plus at 1)) (taking Ac x f)) e ∙ ap (device_outcomes pl at f) (sym a)

pub byte_taken : {os : List Successor} {a : DeviceAction} {s : Words} (pl : Place) (at : ℕ) (f : Fact) (low high : ℕ) →
    os ≡ goes pl all_words f all_words (one (plus at 1)) (taking Ac s f) → a ≡ Takes → s ≡ between low high → low ≡ 0 → high ≡ 255 → os ≡ device_outcomes pl at f a
byte_taken pl at f low high h a e l g =
    h ∙ ap (λ (x : Words). goes pl all_words f all_words (one (plus at 1)) (taking Ac x f)) (bytes_same low high e l g) ∙ ap (device_outcomes pl at f) (sym a)

-- the outcomes of a word by its kind
pub of_meaning : {os : List Successor} {m : Meaning} (pl : Place) (f : Fact) (at w : ℕ) → meaning_of pl.declaration.profile at w ≡ m →
    os ≡ outcomes_of pl f at m → os ≡ outcomes_of pl f at (meaning_in pl at w)
of_meaning pl f at w e h = h ∙ ap (outcomes_of pl f at) (sym e)

pub of_group3 : {os : List Successor} (pl : Place) (f : Fact) (at w : ℕ) → kind_of (meaning_of pl.declaration.profile at w) ≡ Operate3 →
    ((o : MqOperate) → mq_operate_of w ≡ Some o → os ≡ goes pl all_words f all_words (one (plus at 1)) (operated3 o (ac_of pl f) f)) → os ≡ outcomes_of pl f at (meaning_in pl at w)
of_group3 pl f at w k h =
    let told = group3_meaning_of pl.declaration.profile at w k in
    of_meaning pl f at w told.2 (h told.0 told.1)

pub of_device : {os : List Successor} (pl : Place) (f : Fact) (at w : ℕ) (o : DeviceOperation) → kind_of (meaning_of pl.declaration.profile at w) ≡ Iot → Some o ≡ device_operation pl.declaration.profile w →
    os ≡ device_outcomes pl at f (processor_action o) → os ≡ outcomes_of pl f at (meaning_in pl at w)
of_device pl f at w o k e h =
    let told = device_meaning_of pl.declaration.profile at w k in
    let same : processor_action o ≡ told.0 = some_is (ap (λ x. option_map processor_action x) e ∙ told.1) in
    h ∙ ap (device_outcomes pl at f) same ∙ ap (outcomes_of pl f at) (sym told.2)

pub of_no_device : {os : List Successor} (pl : Place) (f : Fact) (at w : ℕ) → kind_of (meaning_of pl.declaration.profile at w) ≡ Iot → None ≡ device_operation pl.declaration.profile w → os ≡ outcomes_of pl f at (meaning_in pl at w)
of_no_device pl f at w k e =
    let told = device_meaning_of pl.declaration.profile at w k in
    absurd (none_is (ap (λ x. option_map processor_action x) e ∙ told.1))
