use Rattle.std.proofs.Common.{◌<◌, length, map, get_or, sym, subst}
use Rattle.certificate_lines.specs.Lines.{Line, End}
use Rattle.certificate_lines.specs.Packed.{kept_at, said_lines}
use Rattle.certificate_lines.specs.Adding.{Adds}
use Rattle.certificate_lines.proofs.SumPackedLemmas.{kept_there}
use Rattle.certificate_lines.proofs.packed.PackedLines.add_to.Goals as goal

pub returns-in-Cell-clause-says : goal.returns-in-Cell-clause-says
returns-in-Cell-clause-says g c =
    let runs = c.self.inside.runs.items in
    let steps = c.self.inside.steps.items in
    let ks = c.self.inside.list.items in
    let inside : c.args.at < length (map (kept_at runs steps) ks) = rw (← c.self.view_is) at c.requires.within in
    rw (← c.self.view_is) (subst (λ (l : Line). Adds c.args.fact.now c.track.new.fact l)
    (sym (kept_there runs steps ks c.args.at c.index-kept.result.now c.index-kept.ensures inside c.self.invariant.within))
    (rw c.in-Cell.is (rw (c.runs_from.ensures, c.deref.ensures.value, c.from.ensures) at c.track.ensures.cells, c.track.ensures.fact)))

pub returns-in-Sum-clause-says : goal.returns-in-Sum-clause-says
returns-in-Sum-clause-says g c =
    let runs = c.self.inside.runs.items in
    let steps = c.self.inside.steps.items in
    let ks = c.self.inside.list.items in
    let inside : c.args.at < length (map (kept_at runs steps) ks) = rw (← c.self.view_is) at c.requires.within in
    rw (← c.self.view_is) (subst (λ (l : Line). Adds c.args.fact.now c.relate.new.fact l)
    (sym (kept_there runs steps ks c.args.at c.index-kept.result.now c.index-kept.ensures inside c.self.invariant.within))
    (rw c.in-Sum.is (c.relate.ensures.cells, rw (c.runs_from-in-Sum.ensures, c.deref-in-Sum.ensures.value, c.from-in-Sum.ensures) at c.relate.ensures.fact)))

pub returns-in-Chain-clause-says : goal.returns-in-Chain-clause-says
returns-in-Chain-clause-says g c =
    let runs = c.self.inside.runs.items in
    let steps = c.self.inside.steps.items in
    let ks = c.self.inside.list.items in
    let inside : c.args.at < length (map (kept_at runs steps) ks) = rw (← c.self.view_is) at c.requires.within in
    rw (← c.self.view_is) (subst (λ (l : Line). Adds c.args.fact.now c.chain.new.fact l)
    (sym (kept_there runs steps ks c.args.at c.index-kept.result.now c.index-kept.ensures inside c.self.invariant.within))
    (rw c.in-Chain.is (c.chain.ensures.cells, rw (c.steps_from.ensures, c.deref-in-Chain.ensures.value) at c.chain.ensures.fact)))
