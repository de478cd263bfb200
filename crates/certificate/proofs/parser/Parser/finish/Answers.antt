use Rattle.std.proofs.Common.{◌∙◌, refl, sym}
use Rattle.std.proofs.lemmas.Bool.{true≢false, not-true, not-false}
use Rattle.certificate.proofs.SumParserLemmas.{no_lines, cut, not_empty, is_empty, whole_kept, whole_parsed}
use Rattle.certificate.proofs.parser.Parser.finish.Goals as goal
use Rattle.certificate.proofs.parser.Parser.finish.Goals.{then-is_long-via-then-is_long, then-is_long-via-else-is_long+then-not-is_empty}

pub returns-then-not-progress : goal.returns-then-not-progress
returns-then-not-progress g c = λ bytes h e. let few = c.requires.small.count in
    cut c.args.self.kept h.text c.args.self.line.items bytes c.args.self.is_long c.args.self.progress c.in-Some.progress c.in-Some.progress.number
    c.in-Some.is h.parts (rw e at few) refl (λ before k ended q none. true≢false (sym ended ∙ (sym k.others.ended ∙ not-true _ c.if-not-progress.true)))

pub returns-then-is_long : goal.returns-then-is_long
returns-then-is_long g c = λ bytes h e. let few = c.requires.small.count in
    cut c.args.self.kept h.text c.args.self.line.items bytes c.args.self.is_long c.args.self.progress c.in-Some.progress c.in-Some.progress.number
    c.in-Some.is h.parts (rw e at few) refl (λ before k ended q none. elim c.then-is_long.branch [
      | then-is_long-via-then-is_long w ↦ true≢false (sym w.if-is_long.true ∙ q)
      | then-is_long-via-else-is_long+then-not-is_empty w ↦ not_empty c.args.self.line.items w.if-not-is_empty.ensures none
    ])

pub invariant_of-result : goal.invariant_of-result
invariant_of-result g c =
    whole_kept c.args.self.kept c.requires.read.text c.args.self.progress c.in-Some.progress c.in-Some.is c.requires.read.read (not-false _ c.if-not-progress.false)

pub returns : goal.returns
returns g c = λ bytes h e. let few = c.requires.small.count in
    whole_parsed c.args.self.kept h.text c.args.self.line.items bytes c.args.self.progress c.in-Some.progress c.args.self.is_long
    c.in-Some.is (not-false _ c.if-not-progress.false)
    (whole_kept c.args.self.kept c.requires.read.text c.args.self.progress c.in-Some.progress c.in-Some.is c.requires.read.read (not-false _ c.if-not-progress.false))
    h.parts c.if-is_long.false (is_empty c.args.self.line.items c.if-not-is_empty.ensures) (rw e at few)

pub returns-in_default : goal.returns-in_default
returns-in_default g c = λ bytes h e. let few = c.requires.small.count in
    no_lines c.args.self.kept h.text c.args.self.line.items bytes c.args.self.progress c.args.self.is_long c.in_default.is h.parts (rw e at few)
