-- What a watcher shows: its machine and its call stack.
use Rattle.std.specs.Prelude.{List, [], ◌∷◌}
use Rattle.peripherals.specs.Devices.{WorldState}
use Rattle.peripherals.specs.World.{view}
use Rattle.policy.specs.Calls.{Call, Calls}
use Rattle.policy.specs.declared.legality.Call.{Call as KeptCall}
use Rattle.policy.specs.declared.watcher.Watcher.{Watcher}

-- An open call.
abbrev pub call_of : KeptCall → Call
call_of k = record { entry = k.entry; after = k.after }

-- The calls put on a list one after the other.
abbrev pub put_on : List KeptCall → Calls → Calls
put_on [] ks = ks
put_on (c ∷ cs) ks = put_on cs (call_of c ∷ ks)

-- The call stack, the last call first; the code keeps the last call last.
abbrev pub open_calls : List KeptCall → Calls
open_calls cs = put_on cs []

-- The machine that is watched, as the event table sees it.
abbrev pub machine_of : {A : Type 0} → Watcher A → WorldState
machine_of w = view w.world

-- The calls that have not returned, the last call first.
abbrev pub calls_of : {A : Type 0} → Watcher A → Calls
calls_of w = open_calls w.calls.items
