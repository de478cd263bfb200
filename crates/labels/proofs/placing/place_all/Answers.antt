use Rattle.std.proofs.Common.{rules}
use Rattle.std.specs.List.{slice_split}
use Rattle.pal_text.proofs.Cuts.{told_on}
use Rattle.labels.specs.Lines.{IsPlaceFault, is_feed, lines_behind, placed_all}
use Rattle.labels.proofs.Joins.{lines_placed, first_stops, later_stops}
use Rattle.labels.proofs.placing.place_all.Goals as goal

pub returns-clause-placed : goal.returns-clause-placed
returns-clause-placed g c =
    lines_placed c.args.own.now.entries c.args.text.now c.split_first_line-cut.result.line.now (lines_behind c.split_first_line-cut.result.rest) c.split_first_line-cut.ensures.lines
    c.new-out.result.items c.place_line.new.out.items c.place_lines.new.out.items (search rules) c.in_ok-place_line.ensures.placed c.in_ok-place_lines.ensures.placed

pub returns-in_err-place_line-clause-refused : goal.returns-in_err-place_line-clause-refused
returns-in_err-place_line-clause-refused g c =
    told_on c.from_residual.result c.in_err-place_line.field-0.0 (IsPlaceFault (placed_all c.args.own.now.entries (slice_split is_feed c.args.text.now))) c.from_residual.ensures.1
    (first_stops c.args.own.now.entries c.args.text.now c.split_first_line-cut.result.line.now (lines_behind c.split_first_line-cut.result.rest) c.split_first_line-cut.ensures.lines c.in_err-place_line.field-0.0 c.in_err-place_line.ensures.refused)

pub returns-in_err-place_lines-clause-refused : goal.returns-in_err-place_lines-clause-refused
returns-in_err-place_lines-clause-refused g c =
    told_on c.from_residual-in_err-place_lines.result c.in_err-place_lines.field-0.0 (IsPlaceFault (placed_all c.args.own.now.entries (slice_split is_feed c.args.text.now))) c.from_residual-in_err-place_lines.ensures.1
    (later_stops c.args.own.now.entries c.args.text.now c.split_first_line-cut.result.line.now (lines_behind c.split_first_line-cut.result.rest) c.split_first_line-cut.ensures.lines
    c.new-out.result.items c.place_line.new.out.items (search rules) c.in_ok-place_line.ensures.placed c.in_err-place_lines.field-0.0 c.in_err-place_lines.ensures.refused)
