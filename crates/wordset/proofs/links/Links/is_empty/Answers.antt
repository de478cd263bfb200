use Rattle.std.proofs.Common.{Bool, true, false, not, ◌||◌, ◌≡◌, refl, sym, ap, ◌∙◌}
use Rattle.wordset.proofs.links.Links.is_empty.Goals as goal
use Rattle.wordset.specs.Links.{links_of}
use Rattle.wordset.proofs.Tests.{some_of_two}

neither : (p q : Bool) → not p ≡ true → not q ≡ not (p || q)
neither true q e = cc
neither false q e = refl

one_there : (p q : Bool) → not p ≡ false → not p ≡ not (p || q)
one_there true q e = refl
one_there false q e = cc

pub returns-then-not-self : goal.returns-then-not-self
returns-then-not-self c = neither c.args.self.clear c.args.self.set c.if-not-self.true ∙ sym (ap not (some_of_two (links_of c.args.self)))

pub returns-else-not-self : goal.returns-else-not-self
returns-else-not-self c = one_there c.args.self.clear c.args.self.set c.if-not-self.false ∙ sym (ap not (some_of_two (links_of c.args.self)))
