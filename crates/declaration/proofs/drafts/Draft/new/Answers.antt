use Rattle.std.proofs.Common.{ap, map}
use Rattle.declaration.specs.DeclarationInCode.{subroutine_of, further_of, place_assertion_of, return_assertion_of}
use Rattle.declaration.proofs.DraftLemmas.{said_nothing}
use Rattle.declaration.proofs.drafts.Draft.new.Goals as goal

pub returns : goal.returns
returns g c =
    said_nothing c.empty.ensures (ap (map subroutine_of) c.new.ensures.items) c.empty-2.ensures c.empty-3.ensures c.empty-4.ensures (ap (map further_of) c.new-2.ensures.items) c.empty-5.ensures c.empty-6.ensures
    (ap (map place_assertion_of) c.new-3.ensures.items) (ap (map return_assertion_of) c.new-4.ensures.items)
