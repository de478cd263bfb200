use Rattle.std.proofs.Common.{ℕ, List, Bool, sym, ap, ◌∙◌}
use Rattle.std.specs.List.{list_any}
use Rattle.streams.specs.Text.{words_of}
use Rattle.streams.specs.TextLeft.{lines_left}
use Rattle.labels.specs.Located.{lacks_address, lacks_some}
use Rattle.labels.proofs.Machines.{not_first, first, none_left}
use Rattle.labels.proofs.located.lacks_some.Goals as goal

-- whether a line leaves out its address
abbrev lacks : List ℕ → Bool
lacks line = lacks_address (words_of line)

pub loop-line-init : goal.loop-line-init
loop-line-init c = ap (list_any lacks) c.of-lines.ensures

pub loop-line-preserved : goal.loop-line-preserved
loop-line-preserved c =
    not_first lacks (lines_left c.loop-line.lines) (lines_left c.next.new.self) c.in-Some.line.now (lacks_some c.args.text.now) c.in-Some.ensures.steps c.loop-line.invariant (sym c.lacks_address.ensures ∙ c.if-lacks_address.false)

pub returns-then-lacks_address : goal.returns-then-lacks_address
returns-then-lacks_address c =
    sym (first lacks (lines_left c.loop-line.lines) (lines_left c.next.new.self) c.in-Some.line.now (lacks_some c.args.text.now) c.in-Some.ensures.steps c.loop-line.invariant (sym c.lacks_address.ensures ∙ c.if-lacks_address.true))

pub returns : goal.returns
returns c = sym (none_left lacks (lines_left c.loop-line.lines) (lacks_some c.args.text.now) (c.in_default.ensures.steps).0 c.loop-line.invariant)
