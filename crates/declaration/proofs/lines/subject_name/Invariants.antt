use Rattle.std.proofs.Common.{◌≡◌}
use Rattle.std.specs.List.{after_first, find}
use Rattle.streams.specs.TextLeft.{words_left}
use Rattle.declaration.specs.Lines.{is_subject}
use Rattle.declaration.proofs.lines.subject_name.Given as goal

-- the name and what follows it are still to come
abbrev pub invariant-loop-word : goal.invariant-loop-word
invariant-loop-word l = record {
  name : find is_subject (words_left l.rest) ≡ find is_subject (words_left l.initial.rest);
  rest : after_first is_subject (words_left l.rest) ≡ after_first is_subject (words_left l.initial.rest);
}
