use Rattle.std.proofs.Common.{rules}
use Rattle.command_line.proofs.place_options.is_traced.Goals as goal

pub returns-then-trace : goal.returns-then-trace
returns-then-trace c = record {
  trace = c.is_given-trace.result;
  trace_is = c.is_given-trace.ensures;
  long = c.is_given-long.result;
  long_is = c.is_given-long.ensures;
  any = search rules;
}

pub returns-else-trace : goal.returns-else-trace
returns-else-trace c = record {
  trace = c.is_given-trace.result;
  trace_is = c.is_given-trace.ensures;
  long = c.is_given-long.result;
  long_is = c.is_given-long.ensures;
  any = search rules;
}
