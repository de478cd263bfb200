use Rattle.std.proofs.Common.{ℕ, List, Bool, sym, ap, ◌∙◌}
use Rattle.std.specs.List.{list_any}
use Rattle.streams.specs.Text.{words_of}
use Rattle.streams.specs.TextLeft.{lines_left}
use Rattle.labels.specs.Within.{is_8e, names_8e}
use Rattle.labels.proofs.Machines.{not_first, first, none_left, named, unnamed}
use Rattle.labels.proofs.within.machine_of.Goals as goal

-- whether a line names the 8/E
abbrev names : List ℕ → Bool
names line = is_8e (words_of line)

pub loop-line-init : goal.loop-line-init
loop-line-init c = ap (list_any names) c.of-lines.ensures

pub loop-line-preserved : goal.loop-line-preserved
loop-line-preserved c =
    not_first names (lines_left c.loop-line.lines) (lines_left c.next.new.self) c.in-Some.line.now (names_8e c.args.declaration.now) c.in-Some.ensures.steps c.loop-line.invariant (sym c.is_8e.ensures ∙ c.if-is_8e.false)

pub returns-then-is_8e : goal.returns-then-is_8e
returns-then-is_8e c =
    named c.args.declaration.now (first names (lines_left c.loop-line.lines) (lines_left c.next.new.self) c.in-Some.line.now (names_8e c.args.declaration.now) c.in-Some.ensures.steps c.loop-line.invariant (sym c.is_8e.ensures ∙ c.if-is_8e.true))

pub returns : goal.returns
returns c = unnamed c.args.declaration.now (none_left names (lines_left c.loop-line.lines) (names_8e c.args.declaration.now) (c.in_default.ensures.steps).0 c.loop-line.invariant)
