use Rattle.std.proofs.Common.{◌≡◌, rules, true}
use Rattle.std.specs.Prelude.{is_some}
use Rattle.domain.specs.Facts.{Relation}
use Rattle.certificate_lines.specs.declared.Version.{Version}
use Rattle.certificate_lines.specs.declared.Version.TheVariants.{One, Two, Three}
use Rattle.certificate_lines.specs.Lines.{Line, RoutineIs, FactIs, ExitIs, CellIs, SumIs, ChainIs, End}
use Rattle.certificate_lines.specs.Spelling.{relation_line, line_text}
use Rattle.certificate_lines.specs.LineOf.{has_form}
use Rattle.certificate_lines.specs.Laws.{LineFits}
use Rattle.certificate_lines.proofs.line.read_line.Goals as goal

pub returns-in-102-clause-within : goal.returns-in-102-clause-within
returns-in-102-clause-within c = c.read_fact.ensures.within _

pub returns-in-101-clause-within : goal.returns-in-101-clause-within
returns-in-101-clause-within c = c.read_exit.ensures.within _

pub returns-in-101-2-clause-within : goal.returns-in-101-2-clause-within
returns-in-101-2-clause-within c = c.read_end.ensures.within _ _

pub returns-in-114-clause-within : goal.returns-in-114-clause-within
returns-in-114-clause-within c = c.read_routine.ensures.within _

pub returns-in-99-clause-within : goal.returns-in-99-clause-within
returns-in-99-clause-within c = c.read_cell.ensures.within _

pub returns-in-114-clause-only : goal.returns-in-114-clause-only
returns-in-114-clause-only c = go
  where
    sums : (v : Version) (r : Relation) → c.args.line.now ≡ relation_line v r → is_some c.read_routine.result ≡ true
    sums One r is = search rules
    sums Two r is = search rules
    sums Three r is = search rules

    go : (l : Line) → has_form c.args.version l ≡ true → LineFits c.args.version l → c.args.line.now ≡ line_text c.args.version l → is_some c.read_routine.result ≡ true
    go (RoutineIs r) form fits is = c.read_routine.ensures.only c.args.version r form is
    go (FactIs a s r o) form fits is = search rules
    go (ExitIs e o s r) form fits is = search rules
    go (CellIs t) form fits is = search rules
    go (SumIs r) form fits is = sums c.args.version r is
    go (ChainIs h) form fits is = search rules
    go End form fits is = search rules

pub returns-in-99-clause-only : goal.returns-in-99-clause-only
returns-in-99-clause-only c = go
  where
    sums : (v : Version) (r : Relation) → c.args.line.now ≡ relation_line v r → is_some c.read_cell.result ≡ true
    sums One r is = search rules
    sums Two r is = search rules
    sums Three r is = search rules

    go : (l : Line) → has_form c.args.version l ≡ true → LineFits c.args.version l → c.args.line.now ≡ line_text c.args.version l → is_some c.read_cell.result ≡ true
    go (RoutineIs r) form fits is = search rules
    go (FactIs a s r o) form fits is = search rules
    go (ExitIs e o s r) form fits is = search rules
    go (CellIs t) form fits is = c.read_cell.ensures.only c.args.version t form is
    go (SumIs r) form fits is = sums c.args.version r is
    go (ChainIs h) form fits is = search rules
    go End form fits is = search rules
