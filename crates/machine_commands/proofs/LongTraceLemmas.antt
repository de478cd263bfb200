-- A run behind its long trace.
use Rattle.std.proofs.Common.{ℕ, Bool, List, [], ◌++◌, Option, None, refl, IfOk, Ok, Err, Result}
use Rattle.std.specs.Io.KnownBytes.{Appends}
use Rattle.std.proofs.KnownBytes.{Appends-nil, Appends-trans}
use Rattle.peripherals.specs.declared.Event.{Event}
use Rattle.command_parts.specs.declared.options.RunOptions.{RunOptions}
use Rattle.command_parts.specs.declared.options.Stops.{Stops}
use Rattle.command_parts.specs.declared.status.Fault.{Fault}
use Rattle.command_parts.specs.declared.status.Status.{Status}
use Rattle.command_parts.specs.Writes.{Writes}
use Rattle.machine_commands.specs.LongTrace.{IsRunBehind, Appended, quiet}
use Rattle.machine_commands.specs.Stopping.{IsRunWithStops}

pub some_none : (a : Option (List ℕ)) → Appended a a
some_none a = record { text = []; wrote = Appends-nil a }

pub some_one : (a b : Option (List ℕ)) (text : List ℕ) → Appends a b text → Appended a b
some_one a b text wrote = record { text = text; wrote = wrote }

pub some_more : (a b c : Option (List ℕ)) → Appended a b → Appended b c → Appended a c
some_more a b c first second = record { text = first.text ++ second.text; wrote = Appends-trans a b c first.text second.text first.wrote second.wrote }

-- what a run writes without a trace, behind some lines
pub behind_some : (options : RunOptions) (stops : Stops) (ends : Bool) (events : List Event) (image : List (Option ℕ)) (r : Result Status Fault) (a b c : Option (List ℕ)) → Appended a b →
    IfOk r (λ status. Writes (λ text. IsRunWithStops (quiet options) stops None ends events image text status) b c) → IfOk r (λ status. Writes (λ text. IsRunBehind options stops ends events image text status) a c)
behind_some options stops ends events image (Ok status) a b c lines rest = record {
  text = lines.text ++ rest.text;
  is = record { lines = lines.text; rest = rest.text; run = rest.is; text_is = refl };
  written = Appends-trans a b c lines.text rest.text lines.wrote rest.written;
}
behind_some options stops ends events image (Err fault) a b c lines rest = tt
