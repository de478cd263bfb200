-- What a watched run says of a program: each step is legal, or a first one violates a rule.
use Rattle.std.specs.Prelude.{◌≡◌, ℕ, ◌<◌, true, Some, None, List, [], take, slice_get}
use Rattle.processor.specs.Machine.{State, instruction}
use Rattle.processor.specs.Runs.{Image}
use Rattle.peripherals.specs.declared.Event.{Event}
use Rattle.peripherals.specs.declared.Event.TheVariants.{Step as Instruct}
use Rattle.peripherals.specs.declared.Start.{Start}
use Rattle.peripherals.specs.Devices.{WorldState}
use Rattle.peripherals.specs.Loading.{loaded}
use Rattle.peripherals.specs.EventOutcomes.{puts_out}
use Rattle.policy.specs.declared.rules.Rule.{Rule}
use Rattle.policy.specs.declared.watcher.Watched.{Watched}
use Rattle.policy.specs.declared.watcher.Watched.TheVariants.{Clean, Broken}
use Rattle.policy.specs.declared.rules.Rule.TheVariants as rule
use Rattle.declaration.specs.Declaration.{Declaration}
use Rattle.policy.specs.Calls.{Calls}
use Rattle.policy.specs.Rules.{StaysInBody, WritesDeclared, CallsEntries, ReturnsToItsCall, HaltsDeclared, KeepsCode, ReadsListed, AssertionsHold, IsLegal}
use Rattle.policy.specs.Runs.{DeclaredEvents}

-- The rules have the numbers 1 to 8.
abbrev pub number_of : Rule → ℕ
number_of rule.StaysInBody = 1
number_of rule.WritesDeclared = 2
number_of rule.CallsEntries = 3
number_of rule.ReturnsToItsCall = 4
number_of rule.HaltsDeclared = 5
number_of rule.KeepsCode = 6
number_of rule.ReadsListed = 7
number_of rule.AssertionsHold = 8

-- The next step keeps a rule.
abbrev pub Keeps : Rule → Image → Declaration → State → Calls → Type 0
Keeps rule.StaysInBody image d s ks = StaysInBody d s ks
Keeps rule.WritesDeclared image d s ks = WritesDeclared d (instruction d.profile s) s ks
Keeps rule.CallsEntries image d s ks = CallsEntries d (instruction d.profile s) s
Keeps rule.ReturnsToItsCall image d s ks = ReturnsToItsCall d (instruction d.profile s) s ks
Keeps rule.HaltsDeclared image d s ks = HaltsDeclared d (instruction d.profile s) s.pc
Keeps rule.KeepsCode image d s ks = KeepsCode image d s.memory
Keeps rule.ReadsListed image d s ks = ReadsListed d (instruction d.profile s) s ks
Keeps rule.AssertionsHold image d s ks = AssertionsHold d (instruction d.profile s) s ks

-- The next step violates this rule, and keeps all rules of lesser numbers.
pub record IsLeastBroken (image : Image) (d : Declaration) (s : State) (ks : Calls) (r : Rule) : Type 0 where
  pub broken : Keeps r image d s ks → ⊥
  pub least : (other : Rule) → number_of other < number_of r → Keeps other image d s ks

-- Event n of a declared run from w is a step, and it is enabled: the events before it lead to a world x, which runs,
-- with the call stack ks.
pub record TriesAt (d : Declaration) (events : List Event) (w : WorldState) (n : ℕ) (x : WorldState) (ks : Calls) : Type 0 where
  pub step : slice_get events n ≡ Some Instruct
  pub before : DeclaredEvents d (take n events) w [] x ks
  pub runs : x.halted_at ≡ None

-- Each enabled step before event n is legal.
abbrev pub IsCleanBefore : Image → Declaration → List Event → WorldState → ℕ → Type 0
IsCleanBefore image d events w n =
    (m : ℕ) (x : WorldState) (ks : Calls) → m < n → TriesAt d events w m x ks → IsLegal image d x.state ks

-- Each enabled step of the declared run from w is legal.
abbrev pub IsClean : Image → Declaration → List Event → WorldState → Type 0
IsClean image d events w =
    (m : ℕ) (x : WorldState) (ks : Calls) → TriesAt d events w m x ks → IsLegal image d x.state ks

-- The first enabled step of the declared run from w that is not legal is event n, and the lowest-numbered rule that it
-- violates is r.
pub record BreaksAt (image : Image) (d : Declaration) (events : List Event) (w : WorldState) (n : ℕ) (r : Rule) : Type 0 where
  pub world : WorldState
  pub calls : Calls
  pub tries : TriesAt d events w n world calls
  pub broken : IsLeastBroken image d world.state calls r
  pub first : IsCleanBefore image d events w n

-- What a watched run tells is true.
abbrev pub Tells : Image → Declaration → List Event → WorldState → Watched → Type 0
Tells image d events w Clean = IsClean image d events w
Tells image d events w (Broken n r) = BreaksAt image d events w n r

-- The world in which a declared run begins: the tape's words lie over what the machine holds.
abbrev pub begun : Image → Declaration → Start → WorldState
begun image d start = loaded image d.start start

-- These events lead a declared run from w, with no call open, to x.
abbrev pub LeadsTo : Declaration → List Event → WorldState → WorldState → Type 0
LeadsTo d events w x = (ks : Calls) × DeclaredEvents d events w [] x ks

-- An enabled step of the declared run from w prints or punches.
pub record StepPutsOut (d : Declaration) (events : List Event) (w : WorldState) : Type 0 where
  pub place : ℕ
  pub world : WorldState
  pub calls : Calls
  pub tries : TriesAt d events w place world calls
  pub puts : puts_out world Instruct ≡ true
