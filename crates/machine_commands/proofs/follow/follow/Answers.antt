use Rattle.std.proofs.Common.{rules, ◌≡◌, ◌+◌, ◌≤◌, ◌<◌, ◌∙◌, true, false, not, take, length, sym, ap, refl, arith, add-zero}
use Rattle.std.proofs.lemmas.List.{take_all}
use Rattle.std.specs.Io.KnownBytes.{Appends}
use Rattle.streams.specs.Bytes.{AppendsFront}
use Rattle.peripherals.specs.declared.Seen.{Seen}
use Rattle.peripherals.specs.declared.Seen.TheVariants.{NotEnabled, Changed, Ran, Halted, Unsupported}
use Rattle.peripherals.specs.Events.{Happens}
use Rattle.peripherals.specs.EventOutcomes.{seen_of}
use Rattle.peripherals.specs.World.{view, profile_of}
use Rattle.machine_commands.specs.Course.{ends_at_halt, events_in}
use Rattle.machine_commands.specs.Follows.{counted, goes_on}
use Rattle.machine_commands.specs.Trace.{trace_of, traced}
use Rattle.machine_commands.proofs.FollowLemmas.{Came, came_all, came_more, came_into_line, came_to_refusal, of_fault, came_to_halt, came_to_stuck}
use Rattle.machine_commands.proofs.follow.follow.Goals.{in-Ran, in-Halted-2, in-NotEnabled, in-Changed}
use Rattle.machine_commands.proofs.follow.follow.Goals as goal

pub returns-in_err-advance-clause-broke : goal.returns-in_err-advance-clause-broke
returns-in_err-advance-clause-broke g c = λ marked.
    let inv = c.loop-index.invariant in
    let p = profile_of c.args.world.now in
    let es = events_in c.args.course.now in
    let within : c.loop-index.index < length es = search rules in
    let happens : Happens p (view c.loop-index.world) c.event.result (view c.advance.new.world) = rw inv.profile at (c.advance.ensures.broke marked) in
    let front : AppendsFront (g.W.ByteSink.taken c.loop-index.out) (g.W.ByteSink.taken c.advance.new.out) (trace_of p (view c.loop-index.world) c.event.result (view c.advance.new.world)) = rw inv.profile at (c.advance.ensures.front marked) in
    came_into_line p (ends_at_halt c.args.course.now) c.args.trace es c.loop-index.index c.event.result (view c.args.world.now) (view c.loop-index.world) (view c.advance.new.world) c.loop-index.steps _ _ _
    inv.came within c.event.ensures (c.advance.ensures.asked marked) happens front

pub returns-in_err-advance-clause-refused : goal.returns-in_err-advance-clause-refused
returns-in_err-advance-clause-refused g c = of_fault c.from_residual.result (λ unmarked.
    let inv = c.loop-index.invariant in
    let within : c.loop-index.index < length (events_in c.args.course.now) = search rules in
    came_to_refusal (profile_of c.args.world.now) (ends_at_halt c.args.course.now) c.args.trace (events_in c.args.course.now) c.loop-index.index c.event.result (view c.args.world.now) (view c.loop-index.world) (view c.advance.new.world) c.loop-index.steps _ _ _
    inv.came within c.event.ensures (c.in_err-advance.ensures.wants unmarked) (c.in_err-advance.ensures.unchanged unmarked) (c.in_err-advance.ensures.kept unmarked))

pub returns-in-Halted-clause-ran : goal.returns-in-Halted-clause-ran
returns-in-Halted-clause-ran g c =
    let inv = c.loop-index.invariant in
    let p = profile_of c.args.world.now in
    let es = events_in c.args.course.now in
    let within : c.loop-index.index < length es = search rules in
    let ends : ends_at_halt c.args.course.now ≡ true = search rules in
    let happens : Happens p (view c.loop-index.world) c.event.result (view c.advance.new.world) = rw inv.profile at c.in_ok-advance.ensures.happens in
    let sees : seen_of p (view c.loop-index.world) c.event.result ≡ Halted = rw inv.profile at (sym c.in_ok-advance.ensures.seen ∙ c.in-Halted.is) in
    let wrote : Appends (g.W.ByteSink.taken c.loop-index.out) (g.W.ByteSink.taken c.advance.new.out) (traced c.args.trace (trace_of p (view c.loop-index.world) c.event.result (view c.advance.new.world))) = rw inv.profile at c.in_ok-advance.ensures.wrote in
    came_to_halt p (ends_at_halt c.args.course.now) c.args.trace es c.loop-index.index c.event.result (view c.args.world.now) (view c.loop-index.world) (view c.advance.new.world) c.loop-index.steps _ _ _ _
    inv.came within c.event.ensures ends sees happens wrote refl c.end_of.ensures

pub returns-in-Unsupported-clause-ran : goal.returns-in-Unsupported-clause-ran
returns-in-Unsupported-clause-ran g c =
    let inv = c.loop-index.invariant in
    let p = profile_of c.args.world.now in
    let es = events_in c.args.course.now in
    let within : c.loop-index.index < length es = search rules in
    let happens : Happens p (view c.loop-index.world) c.event.result (view c.advance.new.world) = rw inv.profile at c.in_ok-advance.ensures.happens in
    let sees : seen_of p (view c.loop-index.world) c.event.result ≡ Unsupported c.in-Unsupported.field-0 = rw inv.profile at (sym c.in_ok-advance.ensures.seen ∙ c.in-Unsupported.is) in
    let wrote : Appends (g.W.ByteSink.taken c.loop-index.out) (g.W.ByteSink.taken c.advance.new.out) (traced c.args.trace (trace_of p (view c.loop-index.world) c.event.result (view c.advance.new.world))) = rw inv.profile at c.in_ok-advance.ensures.wrote in
    came_to_stuck p (ends_at_halt c.args.course.now) c.args.trace es c.loop-index.index c.event.result (view c.args.world.now) (view c.loop-index.world) (view c.advance.new.world) c.loop-index.steps c.in-Unsupported.field-0 _ _ _ _
    inv.came within c.event.ensures sees happens wrote refl (search rules)

pub loop-index-preserved : goal.loop-index-preserved
loop-index-preserved g c =
    let inv = c.loop-index.invariant in
    let p = profile_of c.args.world.now in
    let es = events_in c.args.course.now in
    let within : c.loop-index.index < length es = search rules in
    let happens : Happens p (view c.loop-index.world) c.event.result (view c.advance.new.world) = rw inv.profile at c.in_ok-advance.ensures.happens in
    let sees : seen_of p (view c.loop-index.world) c.event.result ≡ c.in_ok-advance.field-0 = rw inv.profile at (sym c.in_ok-advance.ensures.seen) in
    let wrote : Appends (g.W.ByteSink.taken c.loop-index.out) (g.W.ByteSink.taken c.advance.new.out) (traced c.args.trace (trace_of p (view c.loop-index.world) c.event.result (view c.advance.new.world))) = rw inv.profile at c.in_ok-advance.ensures.wrote in
    let same : profile_of c.advance.new.world ≡ p = c.in_ok-advance.ensures.profile ∙ inv.profile in
    let more : (what : Seen) → c.in_ok-advance.field-0 ≡ what → goes_on (ends_at_halt c.args.course.now) what ≡ true →
    Came p (ends_at_halt c.args.course.now) c.args.trace (take (c.loop-index.index + 1) es) (view c.args.world.now) (c.loop-index.steps + counted what) (view c.advance.new.world) (g.W.ByteSink.taken c.args.out.now) (g.W.ByteSink.taken c.advance.new.out) =
    λ (what : Seen) is goes. came_more p (ends_at_halt c.args.course.now) c.args.trace es c.loop-index.index c.event.result (view c.args.world.now) (view c.loop-index.world) (view c.advance.new.world) c.loop-index.steps what _ _ _
    inv.came within c.event.ensures (sees ∙ is) goes happens wrote in
    elim c.match-branch-2.branch [
      | in-Ran w ↦ record {
        came = rw w.steps-is (more Ran w.in-Ran.is refl);
        profile = same;
        steps = let was = inv.steps in let is = w.steps-is in omega (arith, was, is);
        unmarked = c.in_ok-advance.ensures.marks;
        silent = λ quiet. c.in_ok-advance.ensures.silent quiet ∙ inv.silent quiet;
      }
      | in-Halted-2 w ↦ record {
        came = rw w.steps-is (more Halted w.in-Halted-2.is (let on : ends_at_halt c.args.course.now ≡ false = search rules in ap not on));
        profile = same;
        steps = let was = inv.steps in let is = w.steps-is in omega (arith, was, is);
        unmarked = c.in_ok-advance.ensures.marks;
        silent = λ quiet. c.in_ok-advance.ensures.silent quiet ∙ inv.silent quiet;
      }
      | in-NotEnabled w ↦ record {
        came = rw (w.steps-is, ← add-zero c.loop-index.steps) (more NotEnabled w.in-NotEnabled.is refl);
        profile = same;
        steps = let was = inv.steps in let is = w.steps-is in omega (arith, was, is);
        unmarked = c.in_ok-advance.ensures.marks;
        silent = λ quiet. c.in_ok-advance.ensures.silent quiet ∙ inv.silent quiet;
      }
      | in-Changed w ↦ record {
        came = rw (w.steps-is, ← add-zero c.loop-index.steps) (more Changed w.in-Changed.is refl);
        profile = same;
        steps = let was = inv.steps in let is = w.steps-is in omega (arith, was, is);
        unmarked = c.in_ok-advance.ensures.marks;
        silent = λ quiet. c.in_ok-advance.ensures.silent quiet ∙ inv.silent quiet;
      }
    ]

pub returns-clause-ran : goal.returns-clause-ran
returns-clause-ran g c =
    let inv = c.loop-index.invariant in
    let p = profile_of c.args.world.now in
    let es = events_in c.args.course.now in
    let past : length es ≤ c.loop-index.index = search rules in
    let all : take c.loop-index.index es ≡ es = take_all c.loop-index.index es past in
    came_all p (ends_at_halt c.args.course.now) c.args.trace es (view c.args.world.now) (view c.loop-index.world) _ _ _ (rw all at inv.came) c.end_of-2.ensures
