use Rattle.std.proofs.Common.{◌≡◌, ◌+◌, length, arith}
use Rattle.pal_text.proofs.Cuts.{told_on}
use Rattle.labels.specs.Lines.{IsPlaceFault, length_behind, lines_behind, placed_lines}
use Rattle.labels.proofs.Joins.{lines_go_on, lines_stop, length_left}
use Rattle.labels.proofs.placing.place_lines.Goals as goal

pub loop-rest-preserved : goal.loop-rest-preserved
loop-rest-preserved g c =
    let left : length_behind c.loop-rest.rest ≡ 1 + length c.in-Some.text.now = length_left c.loop-rest.rest c.in-Some.text c.in-Some.is in
    record {
      placed = lines_go_on c.args.own.now.entries (c.loop-rest.number + 1) c.loop-rest.out.items c.args.out.now.items c.split_first_line-cut.result.line.now c.loop-rest.rest c.split_first_line-cut.result.rest c.in-Some.text
          (placed_lines c.args.own.now.entries (c.args.before + 1) (lines_behind c.args.behind)) c.in-Some.is c.split_first_line-cut.ensures.lines c.loop-rest.invariant.placed
          c.extend_from_slice.new.self.items c.place_line.new.out.items c.in_ok-extend_from_slice.ensures.items c.in_ok-place_line.ensures.placed;
      within = omega (arith, c.loop-rest.invariant.within, c.split_first_line-cut.ensures.shorter);
    }

pub returns-in_err-place_line-clause-refused : goal.returns-in_err-place_line-clause-refused
returns-in_err-place_line-clause-refused g c =
    told_on c.from_residual-in_err-place_line.result c.in_err-place_line.field-0.0 (IsPlaceFault (placed_lines c.args.own.now.entries (c.args.before + 1) (lines_behind c.args.behind))) c.from_residual-in_err-place_line.ensures.1
    (lines_stop c.args.own.now.entries (c.loop-rest.number + 1) c.loop-rest.out.items c.args.out.now.items c.split_first_line-cut.result.line.now c.loop-rest.rest c.split_first_line-cut.result.rest c.in-Some.text
    (placed_lines c.args.own.now.entries (c.args.before + 1) (lines_behind c.args.behind)) c.in-Some.is c.split_first_line-cut.ensures.lines c.loop-rest.invariant.placed c.in_err-place_line.field-0.0 c.in_err-place_line.ensures.refused)

pub loop-rest-smaller : goal.loop-rest-smaller
loop-rest-smaller g c =
    let left : length_behind c.loop-rest.rest ≡ 1 + length c.in-Some.text.now = length_left c.loop-rest.rest c.in-Some.text c.in-Some.is in
    omega (arith, c.split_first_line-cut.ensures.shorter)
