use Rattle.std.proofs.Common.{◌∙◌}
use Rattle.pal_text.proofs.Cuts.{found_at, told_on}
use Rattle.pal_asm.specs.SourceInCode.{StopsPart}
use Rattle.pal_asm.proofs.Stepped.{says_by, stepped_more, stuck_at}
use Rattle.pal_asm.proofs.reading.keep_read.Goals as goal

pub returns-in_err-found-clause-stops : goal.returns-in_err-found-clause-stops
returns-in_err-found-clause-stops g c =
    told_on c.from_residual.result c.in_err-found.field-0.0 (StopsPart c.args.part.now.source.now c.args.acts.now c.loop-found.acts) c.from_residual.ensures.1
    (stuck_at c.args.part.now c.args.before c.loop-found.radix c.args.acts.now c.loop-found.acts c.loop-found.reader c.in_err-found.field-0.0 c.loop-found.invariant.stepped c.loop-found.invariant.source c.in_err-found.ensures.fault)

pub loop-found-preserved : goal.loop-found-preserved
loop-found-preserved g c =
    let found = found_at c.loop-found.reader c.read_next.new.self c.args.part.now.source.now c.in_ok-found.field-0 c.in-Statement.found c.loop-found.invariant.source c.in-Statement.is c.in_ok-found.ensures.found in
    record {
      source = c.in_ok-found.ensures.source ∙ c.loop-found.invariant.source;
      stepped = stepped_more c.args.part.now c.args.before c.loop-found.radix c.after-radix.result c.args.acts.now c.loop-found.acts c.keep_statement-kept.new.acts c.loop-found.reader.count c.read_next.new.self.count
          c.loop-found.reader.close c.read_next.new.self.close c.in-Statement.found c.read_next.new.self.own c.loop-found.invariant.stepped found.0 found.1
          (c.in-Ok.ensures (says_by c.args.part.now.source.now c.loop-found.reader.count c.read_next.new.self.count c.in-Statement.found c.read_next.new.self.own c.tokens.result.now c.read_next.new.self.close found.1 c.tokens.ensures))
          c.after-radix.ensures;
    }
