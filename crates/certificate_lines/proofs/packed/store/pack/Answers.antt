use Rattle.std.proofs.Common.{drop, length}
use Rattle.certificate_lines.proofs.packed.store.pack.Goals as goal

pub returns-in_ok-packed-in-Chain-clause-packed : goal.returns-in_ok-packed-in-Chain-clause-packed
returns-in_ok-packed-in-Chain-clause-packed g c =
    rw c.in-Chain.is (c.in_ok-packed-in-Chain.ensures.packed (drop (length c.args.runs.now.items) c.args.runs.now.items))
