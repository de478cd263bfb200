use Rattle.search_commands.proofs.keeping.grows.Goals as goal

pub loop-behind-preserved : goal.loop-behind-preserved
loop-behind-preserved c = λ h. c.loop-behind.invariant (c.in-Some.ensures.grows h)

pub returns-then-ends_here : goal.returns-then-ends_here
returns-then-ends_here c = λ done. c.loop-behind.invariant (c.if-ends_here.ensures done)

pub returns : goal.returns
returns c = λ done. c.loop-behind.invariant (c.ends_here-2.ensures done)
