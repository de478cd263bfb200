-- The instructions of the PDP-8/I leave MQ.
use Rattle.std.proofs.Common.{ℕ, ◌≡◌, ◌/◌, ◌==◌, Bool, true, false, if◌then◌else◌, Option, Some, None, refl, ap}
use Rattle.instruct.specs.declared.Profile.TheVariants.{Pdp8I}
use Rattle.instruct.specs.Bits.{has_bit}
use Rattle.instruct.specs.Instructions.{Meaning, And, Tad, Isz, Dca, Jms, Jmp, Group1, Group2, Group3, Device, Undefined, DeviceAction, meaning_of, device_action, device_meaning, operate_meaning, is_group1}
use Rattle.processor.specs.Machine.{State, Answer, Does}
use Rattle.processor.specs.Mq.{with_mq, LeavesMq}

-- the meanings that say nothing of MQ
leaves : Meaning → Bool
leaves (Group3 o) = false
leaves _ = true

if_leaves : (b : Bool) (x y : Meaning) → leaves x ≡ true → leaves y ≡ true → leaves (if b then x else y) ≡ true
if_leaves true x y ex ey = ex
if_leaves false x y ex ey = ey

device_leaves : (o : Option DeviceAction) → leaves (device_meaning o) ≡ true
unfolding leaves
device_leaves (Some a) = refl
device_leaves None = refl

operate_leaves : (word : ℕ) → leaves (operate_meaning Pdp8I word) ≡ true
unfolding leaves
operate_leaves word =
    if_leaves (has_bit 8 word) _ _ (if_leaves (has_bit 0 word) Undefined (Group2 word) refl refl) (if_leaves (is_group1 Pdp8I word) (Group1 word) Undefined refl refl)

all_leave : (at word : ℕ) → leaves (meaning_of Pdp8I at word) ≡ true
unfolding leaves meaning_of
all_leave at word =
    if_leaves (word / 512 == 0) _ _ refl
    (if_leaves (word / 512 == 1) _ _ refl
    (if_leaves (word / 512 == 2) _ _ refl
    (if_leaves (word / 512 == 3) _ _ refl
    (if_leaves (word / 512 == 4) _ _ refl
    (if_leaves (word / 512 == 5) _ _ refl
    (if_leaves (word / 512 == 6) _ _ (device_leaves (device_action Pdp8I word)) (operate_leaves word)))))))

-- a step by such a meaning
stays : (m : Meaning) (s t : State) (q : Answer) → leaves m ≡ true → Does m s q t → (t.mq ≡ s.mq) × ((mq : ℕ) → Does m (with_mq mq s) q (with_mq mq t))
unfolding leaves
stays (And i c) s t q is (qe, te) = (ap (λ (x : State). x.mq) te, λ mq. (qe, ap (with_mq mq) te))
stays (Tad i c) s t q is (qe, te) = (ap (λ (x : State). x.mq) te, λ mq. (qe, ap (with_mq mq) te))
stays (Isz i c) s t q is (qe, te) = (ap (λ (x : State). x.mq) te, λ mq. (qe, ap (with_mq mq) te))
stays (Dca i c) s t q is (qe, te) = (ap (λ (x : State). x.mq) te, λ mq. (qe, ap (with_mq mq) te))
stays (Jms i c) s t q is (qe, te) = (ap (λ (x : State). x.mq) te, λ mq. (qe, ap (with_mq mq) te))
stays (Jmp i c) s t q is (qe, te) = (ap (λ (x : State). x.mq) te, λ mq. (qe, ap (with_mq mq) te))
stays (Group1 w) s t q is (qe, te) = (ap (λ (x : State). x.mq) te, λ mq. (qe, ap (with_mq mq) te))
stays (Group2 w) s t q is (v, small, qe, te) = (ap (λ (x : State). x.mq) te, λ mq. (v, small, qe, ap (with_mq mq) te))
stays (Group3 o) s t q is does = cc
stays (Device a) s t q is (ac, skip, answers, te) = (ap (λ (x : State). x.mq) te, λ mq. (ac, skip, answers, ap (with_mq mq) te))
stays Undefined s t q is does = absurd does

pub leaves_mq : LeavesMq
leaves_mq s t q step = stays (meaning_of Pdp8I s.pc (s.memory s.pc)) s t q (all_leave s.pc (s.memory s.pc)) step
