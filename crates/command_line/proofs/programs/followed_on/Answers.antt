use Rattle.std.proofs.Common.{◌∙◌, subst, sym}
use Rattle.command_line.specs.Places.{AreShownOn, IsStoppedOn}
use Rattle.command_line.proofs.programs.followed_on.Goals as goal

pub returns : goal.returns
returns c = record {
  shown = subst (λ is. AreShownOn is c.args.places.now c.in_ok-show.show) c.tape-tape.ensures c.in_ok-show.ensures;
  stopped = subst (λ is. IsStoppedOn is c.args.places.now c.in_ok-stopping.stopping) c.tape-tape.ensures c.in_ok-stopping.ensures;
}

pub shown_on-requires-clause-tape : goal.shown_on-requires-clause-tape
shown_on-requires-clause-tape c = λ is. c.requires.tape (sym c.tape-tape.ensures ∙ is)

pub stopping_on-requires-clause-tape : goal.stopping_on-requires-clause-tape
stopping_on-requires-clause-tape c = λ is. c.requires.tape (sym c.tape-tape.ensures ∙ is)
