use Rattle.std.proofs.Common.{◌≡◌, ◌+◌, ◌*◌, ◌<◌, ◌^◌, get_or, arith, sym, ◌∙◌, ap}
use lib.Count.{ones}
use Rattle.wordset.specs.Words.{how_many}
use Rattle.wordset.specs.Lanes.{words}
use Rattle.wordset.proofs.WordSet.count.Goals as goal
use Rattle.wordset.proofs.Counts.{how_many-lane, how_many-le, how_many-none}

pub loop-i-init : goal.loop-i-init
loop-i-init c = sym (how_many-none (words c.self.inside.lanes))

pub overflow_add-total : goal.overflow_add-total
overflow_add-total c =
    let so_far : c.loop-i.total ≡ how_many (64 * c.loop-i.i) (words c.self.inside.lanes) = c.loop-i.invariant in
    let e : c.loop-i.total + ones (get_or c.self.inside.lanes c.loop-i.i 0) < 2 ^ 64 =
    omega (arith, how_many-lane c.self.inside.lanes c.loop-i.i c.self.invariant c.loop-i-test.true, how_many-le (64 * (c.loop-i.i + 1)) (words c.self.inside.lanes)) in
    record { fits = e }

pub loop-i-preserved : goal.loop-i-preserved
loop-i-preserved c =
    let so_far : c.loop-i.total ≡ how_many (64 * c.loop-i.i) (words c.self.inside.lanes) = c.loop-i.invariant in
    omega (arith, how_many-lane c.self.inside.lanes c.loop-i.i c.self.invariant c.loop-i-test.true)

pub returns : goal.returns
returns c =
    let e : c.loop-i.i ≡ 64 = omega arith in
    let so_far : c.loop-i.total ≡ how_many (64 * c.loop-i.i) (words c.self.inside.lanes) = c.loop-i.invariant in
    so_far ∙ ap (λ i. how_many (64 * i) (words c.self.inside.lanes)) e ∙ ap (λ l. how_many 4096 (words l)) c.self.view_is
