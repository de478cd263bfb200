use Rattle.std.proofs.Common.{◌∙◌, sym, subst, List, length}
use Rattle.std.specs.List.{AllByRecursion}
use Rattle.pal_text.specs.declared.lines.Line.{Line}
use Rattle.pal_text.specs.Order.{IsLineWithin}
use Rattle.pal_asm.specs.SourceInCode.{lines_in}
use Rattle.pal_asm.proofs.Fronted.{all_lines_within}
use Rattle.pal_asm.proofs.Written.{front_left, no_front_left}
use Rattle.pal_asm.proofs.listing.keep_fronts.Goals as goal

pub keep_lines-requires : goal.keep_lines-requires
keep_lines-requires g c =
    let P : List Line → Type 0 = λ ls. AllByRecursion (IsLineWithin (length c.front-item.result.bytes.now)) ls in
    subst P (sym (c.deref.ensures.value ∙ c.in_ok-lines.ensures.lines)) (all_lines_within c.front-item.result.bytes.now)

pub loop-front-preserved : goal.loop-front-preserved
loop-front-preserved g c =
    front_left (lines_in c.loop-front.kept.items) (lines_in c.keep_lines.new.kept.items) c.args.fronts.now c.loop-front.front-index c.front-item.result _ c.deref.result.now c.loop-front-test.true c.front-item.is
    (c.deref.ensures.value ∙ c.in_ok-lines.ensures.lines) c.in_ok-keep_lines.ensures
    ∙ c.loop-front.invariant

pub returns : goal.returns
returns g c = no_front_left (lines_in c.loop-front.kept.items) c.args.fronts.now c.loop-front.front-index c.loop-front-test.false ∙ c.loop-front.invariant
