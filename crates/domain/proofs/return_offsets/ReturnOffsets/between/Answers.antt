use Rattle.std.proofs.Common.{◌+◌, ◌∙◌, arith, refl}
use Rattle.std.specs.Prelude.{not}
use Rattle.wordset.specs.Words.{has_some, meet, shifted}
use Rattle.wordset.specs.Lanes.{words}
use Rattle.domain.specs.Offsets.{offsets_in}
use Rattle.domain.proofs.OffsetLemmas.{none_below, one_next, all_below, reaches}
use Rattle.domain.proofs.return_offsets.ReturnOffsets.between.Goals as goal

pub loop-o-init : goal.loop-o-init
loop-o-init c = none_below _ (offsets_in c.none-offsets.result) c.none-offsets.ensures

pub loop-o-preserved : goal.loop-o-preserved
loop-o-preserved c =
    one_next (λ v. has_some (meet (shifted (words c.args.sites.now) (v + 1)) (words c.args.to.now))) (offsets_in c.loop-o.offsets) (offsets_in c.insert_if.new.self) c.loop-o.o (not c.is_empty.result)
    (reaches (words c.args.sites.now) (words c.args.to.now) _ _ _ c.loop-o.o _ _ c.from_index.ensures c.shift.ensures c.meet-reached.ensures c.is_empty.ensures refl) c.loop-o.invariant c.insert_if.ensures

pub returns : goal.returns
returns c = c.loop-o.invariant ∙ all_below _ c.loop-o.o (omega arith)
