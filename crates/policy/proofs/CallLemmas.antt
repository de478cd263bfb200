-- The call list, of which the code keeps the last call last.
use Rattle.std.proofs.Common.{ℕ, ◌≡◌, ◌==◌, ◌&&◌, nat_lt, ◌-◌, List, [], ◌∷◌, ◌++◌, Option, Some, None, length, arith, refl, ap}
use Rattle.std.specs.Prelude.{slice_get}
use Rattle.std.specs.Option.{option_to_list}
use Rattle.std.proofs.lemmas.Grind.{common_steps}
use Rattle.wordset.specs.Words.{minus}
use Rattle.declaration.specs.Declaration.{Declaration}
use Rattle.processor.specs.Machine.{State}
use Rattle.policy.specs.Decided.{implies, each_holds_by, finds_call, holds_at_return}
use Rattle.policy.specs.Calls.{Calls, returned}
use Rattle.policy.specs.OpenCalls.{call_of, put_on, open_calls}
use Rattle.policy.specs.declared.legality.Call.{Call as KeptCall}

put_on_more : (cs : List KeptCall) (c : KeptCall) (ks : Calls) → put_on (cs ++ c ∷ []) ks ≡ call_of c ∷ put_on cs ks
put_on_more [] c ks = refl
put_on_more (d ∷ cs) c ks = put_on_more cs c (call_of d ∷ ks)

-- a call more
pub more_calls : (cs : List KeptCall) (c : KeptCall) → open_calls (cs ++ c ∷ []) ≡ call_of c ∷ open_calls cs
more_calls cs c = put_on_more cs c []

-- the last call that is kept, on the calls under it
put_on_last : (cs : List KeptCall) (d c : KeptCall) (ks : Calls) → slice_get (d ∷ cs) (length cs) ≡ Some c →
    (rest : Calls) × (put_on (d ∷ cs) ks ≡ call_of c ∷ rest)
put_on_last [] d c ks is = let same : d ≡ c = cc in (ks, ap (λ (k : KeptCall). call_of k ∷ ks) same)
put_on_last (e ∷ cs) d c ks is = put_on_last cs e c (call_of d ∷ ks) is

none_last : (c : KeptCall) → slice_get (let none : List KeptCall = [] in none) 0 ≡ Some c → ⊥
none_last c is = cc

last_of : (d : KeptCall) (cs : List KeptCall) (c : KeptCall) (n : ℕ) → n ≡ length cs → slice_get (d ∷ cs) n ≡ Some c → (rest : Calls) × (open_calls (d ∷ cs) ≡ call_of c ∷ rest)
last_of d cs c n same is = put_on_last cs d c [] (rw same at is)

within : (d : KeptCall) (cs : List KeptCall) → slice_get (d ∷ cs) (length cs) ≡ None → ⊥
within d [] is = cc
within d (e ∷ cs) is = within e cs is

past : (d : KeptCall) (cs : List KeptCall) (n : ℕ) → n ≡ length cs → slice_get (d ∷ cs) n ≡ None → ⊥
past d cs n same is = within d cs (rw same at is)

pub last_call : (cs : List KeptCall) (c : KeptCall) → slice_get cs (length cs - 1) ≡ Some c → (rest : Calls) × (open_calls cs ≡ call_of c ∷ rest)
last_call [] c is = absurd (none_last c is)
last_call (d ∷ cs) c is = last_of d cs c (length (d ∷ cs) - 1) (grind (arith, common_steps)) is

-- whether the last call is found
pub last_found : (d : Declaration) (e word : ℕ) (cs : List KeptCall) (c : KeptCall) → slice_get cs (length cs - 1) ≡ Some c →
    finds_call d e word (open_calls cs) ≡ ((c.entry == e) && (nat_lt (minus word c.after) 64 && d.offset e (minus word c.after)))
last_found d e word cs c is = rw (last_call cs c is).1 refl

-- what is to hold at a return by the last call
pub last_holds : (d : Declaration) (e : ℕ) (s : State) (cs : List KeptCall) (c : KeptCall) → slice_get cs (length cs - 1) ≡ Some c →
    holds_at_return d e s (open_calls cs) ≡ implies (c.entry == e) (each_holds_by d.returns e (minus (s.memory e) c.after) s)
last_holds d e s cs c is = rw (last_call cs c is).1 refl

-- a call less
pub popped_calls : (cs ds : List KeptCall) (last : Option KeptCall) → cs ≡ ds ++ option_to_list last → (last ≡ None → ds ≡ []) → open_calls ds ≡ returned (open_calls cs)
popped_calls cs ds None is none = rw (is, none refl) refl
popped_calls cs ds (Some c) is none = rw (is, more_calls ds c) refl
