-- Runs by lists of events, one event after another.
use Rattle.std.proofs.Common.{◌≡◌, ℕ, ◌+◌, Bool, Option, List, ◌++◌, ◌∷◌, [], true, false, ◌&&◌, None, Some, take, refl, sym, ap, ◌∙◌, subst}
use Rattle.std.specs.Prelude.{slice_get, is_none, IsTrue}
use Rattle.peripherals.specs.declared.Event.{Event}
use Rattle.peripherals.specs.declared.Event.TheVariants.{Step as Instruct, Key, PrinterDone, ReaderDone, PunchDone, Switches, Continue}
use Rattle.peripherals.specs.Devices.{WorldState}
use Rattle.peripherals.specs.EventOutcomes.{puts_out}
use Rattle.declaration.specs.Declaration.{Declaration}
use Rattle.policy.specs.Runs.{DeclaredEvents, HappensDeclared, calls_by}
use Rattle.policy.specs.Watching.{LeadsTo, StepPutsOut}
use Rattle.policy.proofs.WatchLemmas.{run_more}

pub led_more : (d : Declaration) (events : List Event) (w : WorldState) (n : ℕ) (e : Event) (x y : WorldState) →
    take (n + 1) events ≡ take n events ++ e ∷ [] → LeadsTo d (take n events) w x → HappensDeclared d x e y → LeadsTo d (take (n + 1) events) w y
led_more d events w n e x y more led happens =
    (calls_by d x e led.0, subst (λ (es : List Event). DeclaredEvents d es w [] y (calls_by d x e led.0)) (sym more) (run_more d (take n events) w [] x led.0 e y led.1 happens))

false_true : false ≡ true → ⊥
false_true e = cc

runs_and : (a : Bool) (b : Bool) → (a && b) ≡ true → a ≡ true
runs_and true b both = refl
runs_and false b both = both

none_is : (halted : Option ℕ) → is_none halted ≡ true → halted ≡ None
none_is None is = refl
none_is (Some at) is = absurd (false_true is)

puts_step : (w : WorldState) (e : Event) → IsTrue (puts_out w e) → (e ≡ Instruct) × (puts_out w Instruct ≡ true)
puts_step w Instruct puts = (refl, puts)
puts_step w (Key byte) puts = absurd (false_true puts)
puts_step w PrinterDone puts = absurd (false_true puts)
puts_step w (ReaderDone byte) puts = absurd (false_true puts)
puts_step w PunchDone puts = absurd (false_true puts)
puts_step w (Switches word) puts = absurd (false_true puts)
puts_step w Continue puts = absurd (false_true puts)

pub refused_at : (d : Declaration) (events : List Event) (w : WorldState) (n : ℕ) (e : Event) (x : WorldState) →
    slice_get events n ≡ Some e → LeadsTo d (take n events) w x → IsTrue (puts_out x e) → StepPutsOut d events w
refused_at d events w n e x is led puts =
    let step = puts_step x e puts in
    record {
      place = n;
      world = x;
      calls = led.0;
      tries = record {
        step = is ∙ ap (λ (f : Event). Some f) step.0;
        before = led.1;
        runs = none_is x.halted_at (runs_and (is_none x.halted_at) _ step.1);
      };
      puts = step.1;
    }
