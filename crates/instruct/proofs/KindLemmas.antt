-- The kind of a word and its meaning, one from the other.
use Rattle.std.proofs.Common.{ℕ, ◌<◌, ◌≡◌, ◌/◌, ◌≤◌, ◌==◌, arith, refl, ap, Bool, true, false, if◌then◌else◌, Option, Some, None, cond, List, [], ◌∷◌, ◌++◌, zero, suc}
use Rattle.std.specs.List.{find}
use Rattle.std.specs.Option.{option_map}
use Rattle.std.proofs.lemmas.Bool.Decides.{nat_tests}
use Rattle.instruct.specs.declared.Profile.{Profile}
use Rattle.instruct.specs.declared.Profile.TheVariants.{Pdp8I, Pdp8E}
use Rattle.instruct.specs.declared.Instruction.TheVariants.{Memory, Operate1, Operate2, Operate3, Iot, Unsupported}
use Rattle.instruct.specs.declared.devices.DeviceOperation.{DeviceOperation}
use Rattle.instruct.specs.Bits.{has_bit, is_indirect, named_cell}
use Rattle.instruct.specs.Devices.{word_of, operations, more_operations, device_operation}
use Rattle.instruct.specs.Operates.{MqOperate, mq_operate_of}
use Rattle.instruct.specs.Instructions.{DeviceAction, Meaning, Group1, Group2, Group3, Device, Undefined, processor_action, operation_of, reference, device_action, device_meaning, is_group1, mq_meaning, group3_meaning, operate_meaning, meaning_of, kind_of}

pub memory_kind : (p : Profile) (at word : ℕ) → word / 512 < 6 → kind_of (meaning_of p at word) ≡ Memory
unfolding meaning_of
memory_kind p at word h = grind (arith, nat_tests)

pub device_kind : (p : Profile) (at word : ℕ) → word / 512 ≡ 6 → kind_of (meaning_of p at word) ≡ kind_of (device_meaning (device_action p word))
unfolding meaning_of
device_kind p at word h = rw h refl

pub operate_kind : (p : Profile) (at word : ℕ) → 7 ≤ word / 512 → kind_of (meaning_of p at word) ≡ kind_of (operate_meaning p word)
unfolding meaning_of
operate_kind p at word h = grind (arith, nat_tests)

pub ruleset kinds = (arith, memory_kind, device_kind, operate_kind)

-- what a meaning says of its word
pub data Shape (p : Profile) (word : ℕ) (m : Meaning) : Type 0 where
  IsMemory : word / 512 < 6 → kind_of m ≡ Memory → Shape p word m
  IsDevice : (a : DeviceAction) → device_action p word ≡ Some a → m ≡ Device a → Shape p word m
  IsGroup1 : m ≡ Group1 word → Shape p word m
  IsGroup2 : m ≡ Group2 word → Shape p word m
  IsGroup3 : (o : MqOperate) → mq_operate_of word ≡ Some o → m ≡ Group3 o → Shape p word m
  IsUndefined : m ≡ Undefined → Shape p word m

device_shape : (p : Profile) (word : ℕ) (o : Option DeviceAction) → device_action p word ≡ o → Shape p word (device_meaning o)
device_shape p word (Some a) is = IsDevice a is refl
device_shape p word None is = IsUndefined refl

mq_shape : (p : Profile) (word : ℕ) (o : Option MqOperate) → mq_operate_of word ≡ o → Shape p word (mq_meaning o)
mq_shape p word (Some o) is = IsGroup3 o is refl
mq_shape p word None is = IsUndefined refl

group3_shape : (p q : Profile) (word : ℕ) → Shape p word (group3_meaning q word)
group3_shape p Pdp8I word = IsUndefined refl
group3_shape p Pdp8E word = mq_shape p word (mq_operate_of word) refl

if_shape : (p : Profile) (word : ℕ) (b : Bool) (x y : Meaning) → Shape p word x → Shape p word y → Shape p word (if b then x else y)
if_shape p word true x y sx sy = sx
if_shape p word false x y sx sy = sy

operate_shape : (p : Profile) (word : ℕ) → Shape p word (operate_meaning p word)
operate_shape p word =
    if_shape p word (has_bit 8 word) _ _
    (if_shape p word (has_bit 0 word) _ _ (group3_shape p p word) (IsGroup2 refl))
    (if_shape p word (is_group1 p word) _ _ (IsGroup1 refl) (IsUndefined refl))

-- a memory reference, or the rest of the chain
memory_shape : (p : Profile) (word k : ℕ) (b : Bool) (x y : Meaning) → k < 6 → (word / 512 == k) ≡ b → kind_of x ≡ Memory → Shape p word y → Shape p word (if b then x else y)
memory_shape p word k true x y low is kind sy = let same : word / 512 ≡ k = grind (arith, nat_tests) in IsMemory (omega arith) kind
memory_shape p word k false x y low is kind sy = sy

pub shape : (p : Profile) (at word : ℕ) → Shape p word (meaning_of p at word)
unfolding meaning_of
shape p at word =
    memory_shape p word 0 _ _ _ (omega arith) refl refl
    (memory_shape p word 1 _ _ _ (omega arith) refl refl
    (memory_shape p word 2 _ _ _ (omega arith) refl refl
    (memory_shape p word 3 _ _ _ (omega arith) refl refl
    (memory_shape p word 4 _ _ _ (omega arith) refl refl
    (memory_shape p word 5 _ _ _ (omega arith) refl refl
    (if_shape p word (word / 512 == 6) _ _ (device_shape p word (device_action p word) refl) (operate_shape p word)))))))

memory_of : (p : Profile) (word : ℕ) (m : Meaning) → Shape p word m → kind_of m ≡ Memory → word / 512 < 6
memory_of p word m (IsMemory low kind) is = low
memory_of p word m (IsDevice a action same) is = let other : kind_of m ≡ Iot = ap kind_of same in cc
memory_of p word m (IsGroup1 same) is = let other : kind_of m ≡ Operate1 = ap kind_of same in cc
memory_of p word m (IsGroup2 same) is = let other : kind_of m ≡ Operate2 = ap kind_of same in cc
memory_of p word m (IsGroup3 o operate same) is = let other : kind_of m ≡ Operate3 = ap kind_of same in cc
memory_of p word m (IsUndefined same) is = let other : kind_of m ≡ Unsupported = ap kind_of same in cc

group1_of : (p : Profile) (word : ℕ) (m : Meaning) → Shape p word m → kind_of m ≡ Operate1 → m ≡ Group1 word
group1_of p word m (IsMemory low kind) is = cc
group1_of p word m (IsDevice a action same) is = let other : kind_of m ≡ Iot = ap kind_of same in cc
group1_of p word m (IsGroup1 same) is = same
group1_of p word m (IsGroup2 same) is = let other : kind_of m ≡ Operate2 = ap kind_of same in cc
group1_of p word m (IsGroup3 o operate same) is = let other : kind_of m ≡ Operate3 = ap kind_of same in cc
group1_of p word m (IsUndefined same) is = let other : kind_of m ≡ Unsupported = ap kind_of same in cc

group2_of : (p : Profile) (word : ℕ) (m : Meaning) → Shape p word m → kind_of m ≡ Operate2 → m ≡ Group2 word
group2_of p word m (IsMemory low kind) is = cc
group2_of p word m (IsDevice a action same) is = let other : kind_of m ≡ Iot = ap kind_of same in cc
group2_of p word m (IsGroup1 same) is = let other : kind_of m ≡ Operate1 = ap kind_of same in cc
group2_of p word m (IsGroup2 same) is = same
group2_of p word m (IsGroup3 o operate same) is = let other : kind_of m ≡ Operate3 = ap kind_of same in cc
group2_of p word m (IsUndefined same) is = let other : kind_of m ≡ Unsupported = ap kind_of same in cc

group3_of : (p : Profile) (word : ℕ) (m : Meaning) → Shape p word m → kind_of m ≡ Operate3 → (o : MqOperate) × (mq_operate_of word ≡ Some o) × (m ≡ Group3 o)
group3_of p word m (IsMemory low kind) is = cc
group3_of p word m (IsDevice a action same) is = let other : kind_of m ≡ Iot = ap kind_of same in cc
group3_of p word m (IsGroup1 same) is = let other : kind_of m ≡ Operate1 = ap kind_of same in cc
group3_of p word m (IsGroup2 same) is = let other : kind_of m ≡ Operate2 = ap kind_of same in cc
group3_of p word m (IsGroup3 o operate same) is = (o, operate, same)
group3_of p word m (IsUndefined same) is = let other : kind_of m ≡ Unsupported = ap kind_of same in cc

device_of : (p : Profile) (word : ℕ) (m : Meaning) → Shape p word m → kind_of m ≡ Iot → (a : DeviceAction) × (device_action p word ≡ Some a) × (m ≡ Device a)
device_of p word m (IsMemory low kind) is = cc
device_of p word m (IsDevice a action same) is = (a, action, same)
device_of p word m (IsGroup1 same) is = let other : kind_of m ≡ Operate1 = ap kind_of same in cc
device_of p word m (IsGroup2 same) is = let other : kind_of m ≡ Operate2 = ap kind_of same in cc
device_of p word m (IsGroup3 o operate same) is = let other : kind_of m ≡ Operate3 = ap kind_of same in cc
device_of p word m (IsUndefined same) is = let other : kind_of m ≡ Unsupported = ap kind_of same in cc

undefined_of : (p : Profile) (word : ℕ) (m : Meaning) → Shape p word m → kind_of m ≡ Unsupported → m ≡ Undefined
undefined_of p word m (IsMemory low kind) is = cc
undefined_of p word m (IsDevice a action same) is = let other : kind_of m ≡ Iot = ap kind_of same in cc
undefined_of p word m (IsGroup1 same) is = let other : kind_of m ≡ Operate1 = ap kind_of same in cc
undefined_of p word m (IsGroup2 same) is = let other : kind_of m ≡ Operate2 = ap kind_of same in cc
undefined_of p word m (IsGroup3 o operate same) is = let other : kind_of m ≡ Operate3 = ap kind_of same in cc
undefined_of p word m (IsUndefined same) is = same

-- the meaning of a word, from its kind
pub memory_operation : (p : Profile) (at word : ℕ) → kind_of (meaning_of p at word) ≡ Memory → word / 512 < 6
memory_operation p at word is = memory_of p word (meaning_of p at word) (shape p at word) is

pub group1_meaning : (p : Profile) (at word : ℕ) → kind_of (meaning_of p at word) ≡ Operate1 → meaning_of p at word ≡ Group1 word
group1_meaning p at word is = group1_of p word (meaning_of p at word) (shape p at word) is

pub group2_meaning : (p : Profile) (at word : ℕ) → kind_of (meaning_of p at word) ≡ Operate2 → meaning_of p at word ≡ Group2 word
group2_meaning p at word is = group2_of p word (meaning_of p at word) (shape p at word) is

pub group3_meaning_of : (p : Profile) (at word : ℕ) → kind_of (meaning_of p at word) ≡ Operate3 → (o : MqOperate) × (mq_operate_of word ≡ Some o) × (meaning_of p at word ≡ Group3 o)
group3_meaning_of p at word is = group3_of p word (meaning_of p at word) (shape p at word) is

pub device_meaning_of : (p : Profile) (at word : ℕ) → kind_of (meaning_of p at word) ≡ Iot → (a : DeviceAction) × (device_action p word ≡ Some a) × (meaning_of p at word ≡ Device a)
device_meaning_of p at word is = device_of p word (meaning_of p at word) (shape p at word) is

pub undefined_meaning : (p : Profile) (at word : ℕ) → kind_of (meaning_of p at word) ≡ Unsupported → meaning_of p at word ≡ Undefined
undefined_meaning p at word is = undefined_of p word (meaning_of p at word) (shape p at word) is

find_front : {X : Type 0} → (test : X → Bool) (xs ys : List X) (z : X) → find test xs ≡ Some z → find test (xs ++ ys) ≡ Some z
find_front test [] ys z is = cc
find_front test (x ∷ xs) ys z is = go (test x) (λ e. find_front test xs ys z e) is
  where
    go : (b : Bool) → (find test xs ≡ Some z → find test (xs ++ ys) ≡ Some z) → cond b (Some x) (find test xs) ≡ Some z → cond b (Some x) (find test (xs ++ ys)) ≡ Some z
    go true rest e = e
    go false rest e = rest e

operation_of_8e : (word : ℕ) (o : DeviceOperation) → device_operation Pdp8I word ≡ Some o → device_operation Pdp8E word ≡ Some o
unfolding device_operation
operation_of_8e word o is = find_front (λ p. word == word_of p) operations (more_operations Pdp8E) o is

mapped : (o : Option DeviceOperation) (a : DeviceAction) → option_map processor_action o ≡ Some a → (p : DeviceOperation) × (o ≡ Some p) × (processor_action p ≡ a)
mapped (Some p) a is = (p, refl, some_is (processor_action p) a is)
  where
    some_is : (x y : DeviceAction) → Some x ≡ Some y → x ≡ y
    some_is x y e = cc
mapped None a is = cc

-- the 8/E has each device word of the 8/I, with the same action
pub action_of_8e : (p : Profile) (word : ℕ) (a : DeviceAction) → device_action p word ≡ Some a → device_action Pdp8E word ≡ Some a
action_of_8e Pdp8E word a is = is
action_of_8e Pdp8I word a is =
    let found = mapped (device_operation Pdp8I word) a is in
    rw (operation_of_8e word found.0 found.1) (ap (λ x. Some x) found.2)

by_operation : (p : Profile) (at word k : ℕ) → k < 6 → word / 512 ≡ k → meaning_of p at word ≡ reference (operation_of word) (is_indirect word) (named_cell word at)
unfolding meaning_of
by_operation p at word zero h e = rw e refl
by_operation p at word (suc zero) h e = rw e refl
by_operation p at word (suc (suc zero)) h e = rw e refl
by_operation p at word (suc (suc (suc zero))) h e = rw e refl
by_operation p at word (suc (suc (suc (suc zero)))) h e = rw e refl
by_operation p at word (suc (suc (suc (suc (suc zero))))) h e = rw e refl
by_operation p at word (suc (suc (suc (suc (suc (suc k)))))) h e = absurd (omega arith)

-- the operation, the indirect bit and the named cell are the meaning of a memory reference
pub reference_meaning : (p : Profile) (at word : ℕ) → kind_of (meaning_of p at word) ≡ Memory → meaning_of p at word ≡ reference (operation_of word) (is_indirect word) (named_cell word at)
reference_meaning p at word is = by_operation p at word (word / 512) (memory_operation p at word is) refl
