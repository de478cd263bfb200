use Rattle.declaration.specs.DeclarationInCode.{meaning}
use Rattle.proposer.specs.Obstacles.{IsObstacle}
use Rattle.search_commands.proofs.WidenedLemmas.{broken_by}
use Rattle.search_commands.proofs.widening.after_run.Goals as goal

pub returns-in-Never-clause-next : goal.returns-in-Never-clause-next
returns-in-Never-clause-next g c =
    let given = c.args.proposal.now.declaration in
    let told : IsObstacle c.args.image.now (meaning given) c.deref.result.now c.in-Never.obstacle = rw c.in-Never.is at c.in_ok-wider.ensures.wider in
    broken_by c.args.image.now given c.args.witness c.in-Never.obstacle c.deref.result.now c.deref.ensures.value c.requires told
