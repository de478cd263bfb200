use Rattle.search_commands.proofs.DeclareLemmas.{remarked_proposal, shown_proposal}
use Rattle.search_commands.proofs.declaring.proposed.Goals as goal

pub returns-in-Safe-clause-proposal : goal.returns-in-Safe-clause-proposal
returns-in-Safe-clause-proposal g c =
    shown_proposal c.args.options.now c.args.image.now c.in_ok-proposal.proposal c.in-Safe.field-0 c.in_ok-proposal.ensures.fits c.in_ok-proposal.ensures.shown
    c.in_ok-proposal.ensures.listed c.in_ok-proposal.ensures.unlisted c.in-Safe.is

pub returns-clause-proposal : goal.returns-clause-proposal
returns-clause-proposal g c = remarked_proposal c.args.options.now c.args.image.now c.in_ok-text.text.items c.in_ok-text.ensures.declares
