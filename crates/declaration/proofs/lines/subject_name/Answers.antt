use Rattle.std.proofs.Common.{ap, refl, sym, ◌∙◌}
use Rattle.std.specs.List.{find}
use Rattle.streams.specs.TextLeft.{words_left}
use Rattle.declaration.specs.Lines.{is_subject}
use Rattle.declaration.proofs.LineLemmas.{after_named, after_unnamed, found_named, found_other}
use Rattle.declaration.proofs.lines.subject_name.Goals as goal

pub loop-word-init : goal.loop-word-init
loop-word-init c = record { name = refl; rest = refl }

pub loop-word-preserved : goal.loop-word-preserved
loop-word-preserved c = record {
  name = sym (found_other (words_left c.loop-word.rest) (words_left c.next.new.self) c.in-Some.word.now c.in-Some.ensures.steps (sym c.is_subject.ensures ∙ c.if-is_subject.false)) ∙ c.loop-word.invariant.name;
  rest = sym (after_unnamed (words_left c.loop-word.rest) (words_left c.next.new.self) c.in-Some.word.now c.in-Some.ensures.steps (sym c.is_subject.ensures ∙ c.if-is_subject.false)) ∙ c.loop-word.invariant.rest;
}

pub returns-then-is_subject-clause-name : goal.returns-then-is_subject-clause-name
returns-then-is_subject-clause-name c =
    sym (found_named (words_left c.loop-word.rest) (words_left c.next.new.self) c.in-Some.word.now c.in-Some.ensures.steps (sym c.is_subject.ensures ∙ c.if-is_subject.true)) ∙ c.loop-word.invariant.name

pub returns-then-is_subject-clause-rest : goal.returns-then-is_subject-clause-rest
returns-then-is_subject-clause-rest c =
    sym (after_named (words_left c.loop-word.rest) (words_left c.next.new.self) c.in-Some.word.now c.in-Some.ensures.steps (sym c.is_subject.ensures ∙ c.if-is_subject.true)) ∙ c.loop-word.invariant.rest

pub returns-clause-name : goal.returns-clause-name
returns-clause-name c = sym (ap (λ ws. find is_subject ws) (c.in_default.ensures.steps).0) ∙ c.loop-word.invariant.name
