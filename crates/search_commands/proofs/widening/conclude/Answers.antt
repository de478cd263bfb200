use Rattle.std.proofs.Common.{refl}
use Rattle.search_commands.proofs.widening.conclude.Goals as goal

pub returns-in-Open : goal.returns-in-Open
returns-in-Open g c = record {
  settled = record {
    start_is = refl;
    profile_is = refl;
    text = c.requires.text;
    answers = c.answer_by-answer.ensures.answer;
    reason = c.answer_by-answer.ensures.open;
  };
}
