use Rattle.std.proofs.Common.{◌≡◌, length, sym, ap, ◌∙◌, arith}
use Rattle.std.proofs.lemmas.List.{length-map}
use Rattle.peripherals.specs.Loading.{image_of}
use Rattle.domain.specs.Facts.{Fact}
use Rattle.domain.specs.Narrowing.{narrowed}
use Rattle.domain.specs.RelationsInCode.{relations_of}
use Rattle.domain.specs.ChainsInCode.{chain_of}
use Rattle.transfer.proofs.operations.put_tested.Goals as goal

pub narrow-requires : goal.narrow-requires
narrow-requires g c =
    let relations : length (relations_of c.put_with_part-in-OfSums.new.after.relations) ≡ length (relations_of c.args.fact.now.relations) = ap (λ (h : Fact). length h.relations) c.put_with_part-in-OfSums.ensures.fact in
    let chains : length c.put_with_part-in-OfSums.new.after.chains.items ≡ length c.args.fact.now.chains.items =
    sym (length-map c.put_with_part-in-OfSums.new.after.chains.items chain_of) ∙ ap (λ (h : Fact). length h.chains) c.put_with_part-in-OfSums.ensures.fact ∙ length-map c.args.fact.now.chains.items chain_of in
    omega (arith, relations, chains, c.put_with_part-in-OfSums.ensures.cells, c.requires.cells, c.requires.room)

pub returns-in-OfEquations : goal.returns-in-OfEquations
returns-in-OfEquations g c = rw c.in-OfEquations.is c.put_with_part.ensures.fact

pub returns-in-OfSums : goal.returns-in-OfSums
returns-in-OfSums g c = rw c.in-OfSums.is (c.narrow.ensures.fact ∙ ap (λ (h : Fact). narrowed (image_of c.args.image.now) h) c.put_with_part-in-OfSums.ensures.fact)
