use Rattle.std.proofs.Common.{rules}
use Rattle.proposer.specs.Widenings.{Supersedes}
use Rattle.proposer.proofs.WidthLemmas.{supersedes_on}
use Rattle.proposer.proofs.widening.widened.Goals as goal

pub returns-in-Some-2-clause-wider : goal.returns-in-Some-2-clause-wider
returns-in-Some-2-clause-wider g c =
    let first : Supersedes c.args.image.now c.args.given.now.declaration c.in-Some.wider = search rules in
    let second : Supersedes c.args.image.now c.in-Some.wider.declaration c.in-Some-2.shown = search rules in
    supersedes_on c.args.image.now c.args.given.now.declaration c.in-Some.wider c.in-Some-2.shown first second
