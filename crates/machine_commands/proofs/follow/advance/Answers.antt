use Rattle.std.proofs.Common.{rules, ◌≡◌, subst}
use Rattle.std.specs.Io.KnownBytes.{Appends}
use Rattle.streams.specs.Bytes.{AppendsFront}
use Rattle.processor.specs.Steps.{state_of}
use Rattle.peripherals.specs.World.{view, profile_of}
use Rattle.machine_commands.specs.Trace.{trace_of}
use Rattle.machine_commands.proofs.FollowLemmas.{same_line, where_traced, word_there}
use Rattle.machine_commands.proofs.follow.advance.Goals as goal

pub returns-in_err-put_trace-clause-front : goal.returns-in_err-put_trace-clause-front
returns-in_err-put_trace-clause-front g c = λ marked.
    let there : c.cpu.result.now.pc ≡ (view c.args.world.now).state.pc = search rules in
    let reads = word_there (view c.args.world.now) (state_of c.cpu-2.result.now) c.cpu.result.now.pc c.get-word.result c.cpu-2.ensures.state there c.get-word.ensures in
    let after : state_of c.cpu-3.result.now ≡ (view c.apply-2.new.self).state = search rules in
    let profile : c.cpu-3.result.now.profile ≡ profile_of c.args.world.now = search rules in
    let same = same_line (profile_of c.args.world.now) c.cpu-3.result.now.profile (view c.args.world.now) c.args.event (view c.apply-2.new.self) c.in_ok-seen.seen c.cpu.result.now.pc c.get-word.result (state_of c.cpu-3.result.now)
    c.in_ok-seen.ensures.seen there reads after profile in
    subst (AppendsFront (g.W.ByteSink.taken c.args.out.now) (g.W.ByteSink.taken c.put_trace.new.out)) same c.in_err-put_trace.ensures.front

pub returns-clause-wrote : goal.returns-clause-wrote
returns-clause-wrote g c =
    let there : c.cpu.result.now.pc ≡ (view c.args.world.now).state.pc = search rules in
    let reads = word_there (view c.args.world.now) (state_of c.cpu-2.result.now) c.cpu.result.now.pc c.get-word.result c.cpu-2.ensures.state there c.get-word.ensures in
    let after : state_of c.cpu-3.result.now ≡ (view c.apply-2.new.self).state = search rules in
    let profile : c.cpu-3.result.now.profile ≡ profile_of c.args.world.now = search rules in
    let same = same_line (profile_of c.args.world.now) c.cpu-3.result.now.profile (view c.args.world.now) c.args.event (view c.apply-2.new.self) c.in_ok-seen.seen c.cpu.result.now.pc c.get-word.result (state_of c.cpu-3.result.now)
    c.in_ok-seen.ensures.seen there reads after profile in
    let wrote : Appends (g.W.ByteSink.taken c.args.out.now) (g.W.ByteSink.taken c.put_trace.new.out) (trace_of (profile_of c.args.world.now) (view c.args.world.now) c.args.event (view c.apply-2.new.self)) =
    subst (Appends (g.W.ByteSink.taken c.args.out.now) (g.W.ByteSink.taken c.put_trace.new.out)) same c.in_ok-put_trace.ensures.whole in
    where_traced c.args.trace _ _ _ (search rules) wrote
