use Rattle.proposer.proofs.propose_with_reads.Goals as goal

pub returns-in_ok-verdict-in-Safe-clause-listed : goal.returns-in_ok-verdict-in-Safe-clause-listed
returns-in_ok-verdict-in-Safe-clause-listed g c = c.in_ok-verdict-in-Safe.ensures.listed c.in_ok-listing-in-Safe.listing c.in_ok-listing-in-Safe.ensures.listed
