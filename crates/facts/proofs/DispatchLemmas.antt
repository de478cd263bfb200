-- Which group of operate words a word is of, on the 8/I and on the 8/E.
use Rattle.std.proofs.Common.{◌≡◌, ℕ, ◌==◌, ◌/◌, Bool, true, false, not, ◌||◌, Option, Some, None, refl, sym, ap, ◌∙◌}
use Rattle.std.specs.Prelude.{if◌then◌else◌}
use Rattle.instruct.specs.declared.Profile.{Profile}
use Rattle.instruct.specs.declared.Profile.TheVariants.{Pdp8I, Pdp8E}
use Rattle.instruct.specs.declared.Instruction.{Instruction}
use Rattle.instruct.specs.declared.Instruction.TheVariants.{Operate1, Operate3, Iot, Unsupported}
use Rattle.instruct.specs.Bits.{has_bit}
use Rattle.instruct.specs.Operates.{MqOperate, mq_operate_of}
use Rattle.instruct.specs.Instructions.{Meaning, Group1, Undefined, DeviceAction, kind_of, meaning_of, instruction_of, device_action, device_meaning, mq_meaning, group3_meaning, operate_meaning, is_group1}

-- each word of group 1 of the 8/I is one of the 8/E
kind_if : (b : Bool) (x y p q : Meaning) → (kind_of x ≡ Operate1 → kind_of p ≡ Operate1) → (kind_of y ≡ Operate1 → kind_of q ≡ Operate1) → kind_of (if b then x else y) ≡ Operate1 → kind_of (if b then p else q) ≡ Operate1
kind_if true x y p q h g k = h k
kind_if false x y p q h g k = g k

group1_if : (w : ℕ) (b c : Bool) → (b ≡ true → c ≡ true) → kind_of (if b then Group1 w else Undefined) ≡ Operate1 → kind_of (if c then Group1 w else Undefined) ≡ Operate1
group1_if w true true h k = refl
group1_if w true false h k = absurd (let e : false ≡ true = h refl in cc)
group1_if w false c h k = absurd (let e : Unsupported ≡ Operate1 = k in cc)

group1_8e : (p : Profile) (w : ℕ) → is_group1 p w ≡ true → is_group1 Pdp8E w ≡ true
group1_8e Pdp8E w h = h
group1_8e Pdp8I w h = go (has_bit 3 w) (has_bit 2 w) (has_bit 1 w) h
  where
    go : (a b c : Bool) → (if a then not b else (b || (not c || false))) ≡ true → (if a then not b else (b || (not c || true))) ≡ true
    go true b c q = q
    go false true c q = refl
    go false false true q = refl
    go false false false q = refl

no_mq : (o : Option MqOperate) → kind_of (mq_meaning o) ≡ Operate1 → ⊥
no_mq (Some o) k = let e : Operate3 ≡ Operate1 = k in cc
no_mq None k = let e : Unsupported ≡ Operate1 = k in cc

no_group3 : (p : Profile) (w : ℕ) → kind_of (group3_meaning p w) ≡ Operate1 → ⊥
no_group3 Pdp8I w k = let e : Unsupported ≡ Operate1 = k in cc
no_group3 Pdp8E w k = no_mq (mq_operate_of w) k

no_device : (o : Option DeviceAction) → kind_of (device_meaning o) ≡ Operate1 → ⊥
no_device (Some a) k = let e : Iot ≡ Operate1 = k in cc
no_device None k = let e : Unsupported ≡ Operate1 = k in cc

operate_8e : (p : Profile) (w : ℕ) → kind_of (operate_meaning p w) ≡ Operate1 → kind_of (operate_meaning Pdp8E w) ≡ Operate1
operate_8e p w k =
    kind_if (has_bit 8 w) _ _ _ _
    (kind_if (has_bit 0 w) _ _ _ _ (λ q. absurd (no_group3 p w q)) (λ q. q))
    (group1_if w (is_group1 p w) (is_group1 Pdp8E w) (group1_8e p w)) k

pub first_group_8e : (p : Profile) (w : ℕ) → instruction_of p w ≡ Operate1 → instruction_of Pdp8E w ≡ Operate1
unfolding instruction_of meaning_of
first_group_8e p w k =
    kind_if (w / 512 == 0) _ _ _ _ (λ q. q)
    (kind_if (w / 512 == 1) _ _ _ _ (λ q. q)
    (kind_if (w / 512 == 2) _ _ _ _ (λ q. q)
    (kind_if (w / 512 == 3) _ _ _ _ (λ q. q)
    (kind_if (w / 512 == 4) _ _ _ _ (λ q. q)
    (kind_if (w / 512 == 5) _ _ _ _ (λ q. q)
    (kind_if (w / 512 == 6) _ _ _ _ (λ q. absurd (no_device (device_action p w) q)) (operate_8e p w))))))) k

pub kind_here : {p q : Profile} {r k : Instruction} (at w : ℕ) → p ≡ q → r ≡ kind_of (meaning_of p at w) → r ≡ k → kind_of (meaning_of q at w) ≡ k
kind_here at w e h is = sym (ap (λ x. kind_of (meaning_of x at w)) e) ∙ (sym h ∙ is)
