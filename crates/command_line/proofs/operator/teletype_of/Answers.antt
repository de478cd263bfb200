use Rattle.std.proofs.Common.{refl}
use Rattle.command_line.proofs.InputLemmas.{tape_alone}
use Rattle.command_line.proofs.operator.teletype_of.Goals as goal

pub returns : goal.returns
returns c = record {
  tape = c.requires.tape;
  reader = c.get_str.ensures;
  punch = c.in_ok-punch.ensures.named;
  apart = rw (← c.in_ok-inputs.ensures.given, ← c.deref.ensures.value) c.in_ok-punch.ensures.free;
  once = c.in_ok-inputs.ensures.none;
  unlike = c.in_ok-punch.ensures.unlike;
  options = c.in_ok-options.ensures.options;
  interrupt = c.in_ok-interrupt.ensures;
  summary = record { line = refl; printed = refl; punched = c.in_ok-punch.ensures.named };
  shown = c.in_ok-options.ensures.shown;
  stopping = c.in_ok-stopping.ensures;
}

pub punch_of-requires : goal.punch_of-requires
punch_of-requires c = rw c.deref.ensures.value c.in_ok-inputs.ensures.are

pub teletype_options-requires-clause-tape : goal.teletype_options-requires-clause-tape
teletype_options-requires-clause-tape c = λ is. tape_alone _ _ _ c.requires.tape is

pub stopping_on-requires-clause-tape : goal.stopping_on-requires-clause-tape
stopping_on-requires-clause-tape c = λ is. tape_alone _ _ _ c.requires.tape is
