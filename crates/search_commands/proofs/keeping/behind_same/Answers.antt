use Rattle.std.proofs.lemmas.Bool.{ne_eqb}
use Rattle.search_commands.proofs.KeepingLemmas.{both_stand, same_shorter}
use Rattle.search_commands.proofs.keeping.behind_same.Goals as goal

pub returns-then-first-byte-clause-grows : goal.returns-then-first-byte-clause-grows
returns-then-first-byte-clause-grows c = λ h.
    both_stand c.args.old.now c.in-Some.others.now c.args.new.now c.in-Some-split_first.more.now c.in-Some.first.now c.in-Some-split_first.byte.now c.in-Some.ensures.cases.0 c.in-Some-split_first.ensures.cases.0 c.if-first-byte.true (ne_eqb _ 47 c.if-byte-eq47.false) h

pub returns-then-first-byte-clause-shorter : goal.returns-then-first-byte-clause-shorter
returns-then-first-byte-clause-shorter c = same_shorter c.args.new.now c.in-Some-split_first.more.now c.in-Some-split_first.byte.now c.in-Some-split_first.ensures.cases.0
