use Rattle.std.proofs.Common.{◌≡◌, ◌<◌, ◌≤◌, ◌+◌, length, arith, rules}
use Rattle.streams.proofs.InputLemmas.{full, gave_some, gave_two}
use Rattle.streams.proofs.input.read_at_most.Goals as goal

pub returns-clause-text : goal.returns-clause-text
returns-clause-text g c =
    let whole : length c.loop-piece.text.items ≡ c.args.limit = omega (arith, c.len.ensures) in
    full (g.R.ByteSource.remaining c.args.source.now) (g.R.ByteSource.remaining c.loop-piece.source) c.loop-piece.text.items c.args.limit c.loop-piece.invariant.0 whole

-- the growth is refused after the piece that was read
pub returns-in_err-extend_from_slice-in-Ok-clause-bounded : goal.returns-in_err-extend_from_slice-in-Ok-clause-bounded
returns-in_err-extend_from_slice-in-Ok-clause-bounded g c =
    let within : length c.loop-piece.text.items + c.in-Ok.count ≤ c.args.limit = search rules in
    gave_two (g.R.ByteSource.remaining c.args.source.now) (g.R.ByteSource.remaining c.loop-piece.source) (g.R.ByteSource.remaining c.read.new.self) c.loop-piece.text.items c.read.new.piece c.in-Ok.count c.args.limit c.loop-piece.invariant.0 c.in-Ok.ensures.bytes.0 c.in-Ok.ensures.count within

pub returns-in_err-extend_from_slice-in-Ok-clause-wanted : goal.returns-in_err-extend_from_slice-in-Ok-clause-wanted
returns-in_err-extend_from_slice-in-Ok-clause-wanted g c =
    let some : 0 < c.in-Ok.count = omega (arith, c.in-Ok.count-test) in
    λ refused. gave_some (g.R.ByteSource.remaining c.args.source.now) (g.R.ByteSource.remaining c.loop-piece.source) (g.R.ByteSource.remaining c.read.new.self) c.loop-piece.text.items c.read.new.piece c.in-Ok.count c.loop-piece.invariant.0 c.in-Ok.ensures.bytes.0 c.in-Ok.ensures.count some
