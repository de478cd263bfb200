use Rattle.std.proofs.Common.{refl}
use Rattle.declaration.proofs.drafts.Draft.add.Goals as goal
use Rattle.declaration.proofs.drafts.Draft.add.Goals.{in-Nothing, in-Main, in-Variables, in-Stops, in-Pauses, in-Reads, in-Moves, in-Abandon}

pub returns-in-Sub-clause-added : goal.returns-in-Sub-clause-added
returns-in-Sub-clause-added g c = rw c.in-Sub.is c.add_routine.ensures.added

pub returns-in-Skips-clause-added : goal.returns-in-Skips-clause-added
returns-in-Skips-clause-added g c = rw c.in-Skips.is c.add_skips.ensures.added

pub returns-in-Holds-clause-added : goal.returns-in-Holds-clause-added
returns-in-Holds-clause-added g c = rw c.in-Holds.is c.add_holding.ensures.added

pub returns-in-Returns-clause-added : goal.returns-in-Returns-clause-added
returns-in-Returns-clause-added g c = rw c.in-Returns.is c.add_returning.ensures.added

pub returns-clause-added : goal.returns-clause-added
returns-clause-added g c = elim c.match-line.branch [
  | in-Nothing w ↦ λ number. rw (w.in-Nothing.is, w.self-is) refl
  | in-Main w ↦ λ number. rw (w.in-Main.is, w.self-is, w.union-self.ensures) refl
  | in-Variables w ↦ λ number. rw (w.in-Variables.is, w.self-is, w.union-self-in-Variables.ensures) refl
  | in-Stops w ↦ λ number. rw (w.in-Stops.is, w.self-is, w.union-self-in-Stops.ensures) refl
  | in-Pauses w ↦ λ number. rw (w.in-Pauses.is, w.self-is, w.union-self-in-Pauses.ensures) refl
  | in-Reads w ↦ rw (w.in-Reads.is, w.self-is) w.add_reads.ensures
  | in-Moves w ↦ λ number. rw (w.in-Moves.is, w.self-is, w.union-self-in-Moves.ensures) refl
  | in-Abandon w ↦ λ number. rw (w.in-Abandon.is, w.self-is, w.union-self-in-Abandon.ensures) refl
]
