-- A run that breaks the declaration shows that the program isn't safe.
use Rattle.std.proofs.Common.{ℕ, ◌≡◌, ◌<◌, Option, Some, None, unwrap_or, refl, take, arith}
use Rattle.declaration.specs.Declaration.{Declaration}
use Rattle.peripherals.specs.Events.{IsLoaded}
use Rattle.policy.specs.Calls.{Calls}
use Rattle.policy.specs.Rules.{IsLegal}
use Rattle.policy.specs.Watching.{Keeps}
use Rattle.policy.specs.declared.rules.Rule.{Rule}
use Rattle.policy.specs.declared.rules.Rule.TheVariants as rule
use Rattle.processor.specs.Machine.{State}
use Rattle.processor.specs.Runs.{Image}
use Rattle.refuter.specs.Laws.{BrokenIsUnsafe, PutsWords}
use Rattle.refuter.specs.Witnesses.{begun_from_zero}

-- a legal step keeps each rule
keeps : (r : Rule) (image : Image) (d : Declaration) (s : State) (ks : Calls) → IsLegal image d s ks → Keeps r image d s ks
keeps rule.StaysInBody image d s ks legal = legal.stays
keeps rule.WritesDeclared image d s ks legal = legal.writes
keeps rule.CallsEntries image d s ks legal = legal.calls
keeps rule.ReturnsToItsCall image d s ks legal = legal.returns
keeps rule.HaltsDeclared image d s ks legal = legal.halts
keeps rule.KeepsCode image d s ks legal = legal.code
keeps rule.ReadsListed image d s ks legal = legal.reads
keeps rule.AssertionsHold image d s ks legal = legal.assertions

below : (word : Option ℕ) → ((w : ℕ) → word ≡ Some w → w < 4096) → unwrap_or word 0 < 4096
below None words = omega arith
below (Some w) words = words w refl

put : (word : Option ℕ) (w : ℕ) → word ≡ Some w → unwrap_or word 0 ≡ w
put word w is = rw is refl

-- the world in which all else is 0 is one as it is loaded
begins : (image : Image) (d : Declaration) → PutsWords image → IsLoaded image d.start (begun_from_zero image d)
begins image d words = record {
  state = record {
    pc = refl;
    ac = omega arith;
    link = omega arith;
    mq = omega arith;
    words = λ a. below (image a) (words a);
    loaded = λ a w is. put (image a) w is;
  };
  devices = refl;
  running = refl;
}

pub broken_is_unsafe : BrokenIsUnsafe
broken_is_unsafe image d events event rule words breaks safe =
    let legal = safe.events (begun_from_zero image d) breaks.world breaks.calls (take event events) (begins image d words) breaks.tries.before breaks.tries.runs in
    breaks.broken.broken (keeps rule image d breaks.world.state breaks.calls legal)
