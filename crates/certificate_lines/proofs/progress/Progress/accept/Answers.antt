use Rattle.std.proofs.Common.{◌≡◌, ◌∙◌, List, Some, sym, ap}
use Rattle.std.proofs.lemmas.Bool.{false≢true}
use Rattle.domain.specs.declared.chains.Step.{Step}
use Rattle.certificate_lines.specs.declared.CertificateFault.TheVariants as faults
use Rattle.certificate_lines.specs.declared.runs.Run.{Run}
use Rattle.certificate_lines.specs.Lines.{Line}
use Rattle.certificate_lines.specs.LineOf.{line_of}
use Rattle.certificate_lines.specs.Reading.{Failed}
use Rattle.certificate_lines.specs.Packed.{said_at}
use Rattle.certificate_lines.proofs.SumTextLemmas.{no_line_of, line_of_text, bad_line, not_standing, misplaced, no_room}
use Rattle.certificate_lines.proofs.progress.Progress.accept.Goals as goal

pub returns-in_default-clause-lines : goal.returns-in_default-clause-lines
returns-in_default-clause-lines c = λ before t.
    bad_line c.args.self.now.version before c.args.bytes.now
    (no_line_of c.args.self.now.version c.args.bytes.now (λ l s. false≢true (c.in_default.ensures.only l s.form s.fits s.text))) ∙
    ap (λ n. Failed (faults.BadLine n)) (sym t.number)

pub returns-then-not-may_stand-clause-lines : goal.returns-then-not-may_stand-clause-lines
returns-then-not-may_stand-clause-lines c = λ before t.
    let runs : List Run = c.read_line.new.runs.items in
    let steps : List Step = c.read_line.new.steps.items in
    let l : Line = said_at runs steps c.in-Some.line in
    let is : line_of c.args.self.now.version c.args.bytes.now ≡ Some l = line_of_text c.args.self.now.version c.args.bytes.now l c.in-Some.ensures.read in
    not_standing c.args.self.now.version before c.args.bytes.now l is (sym (c.if-not-may_stand.ensures runs steps before t)) ∙
    ap (λ n. Failed (faults.BadLine n)) (sym t.number)

pub returns-then-not-is_next-clause-lines : goal.returns-then-not-is_next-clause-lines
returns-then-not-is_next-clause-lines c = λ before t.
    let runs : List Run = c.read_line.new.runs.items in
    let steps : List Step = c.read_line.new.steps.items in
    let l : Line = said_at runs steps c.in-Some.line in
    let is : line_of c.args.self.now.version c.args.bytes.now ≡ Some l = line_of_text c.args.self.now.version c.args.bytes.now l c.in-Some.ensures.read in
    misplaced c.args.self.now.version before c.args.bytes.now l is (sym (c.if-not-may_stand.ensures runs steps before t))
    (sym (c.if-not-is_next.ensures runs steps before t)) ∙
    ap (λ n. Failed (faults.Order n)) (sym t.number)

pub returns-then-not-has_room-clause-lines : goal.returns-then-not-has_room-clause-lines
returns-then-not-has_room-clause-lines c = λ before t.
    let runs : List Run = c.read_line.new.runs.items in
    let steps : List Step = c.read_line.new.steps.items in
    let l : Line = said_at runs steps c.in-Some.line in
    let is : line_of c.args.self.now.version c.args.bytes.now ≡ Some l = line_of_text c.args.self.now.version c.args.bytes.now l c.in-Some.ensures.read in
    no_room c.args.self.now.version before c.args.bytes.now l is (sym (c.if-not-may_stand.ensures runs steps before t))
    (sym (c.if-not-is_next.ensures runs steps before t)) (sym (c.if-not-has_room.ensures.room runs steps before t))

pub returns-clause-lines : goal.returns-clause-lines
returns-clause-lines c = λ before t.
    let runs : List Run = c.read_line.new.runs.items in
    let steps : List Step = c.read_line.new.steps.items in (
      record {
        spells = c.in-Some.ensures.read;
        next = record {
          stands = sym (c.if-not-may_stand.ensures runs steps before t);
          order = sym (c.if-not-is_next.ensures runs steps before t);
          room = sym (c.if-not-has_room.ensures.room runs steps before t);
        };
      },
      c.add.ensures.lines runs steps before t,
    )
