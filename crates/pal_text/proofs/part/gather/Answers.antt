use Rattle.std.proofs.Common.{◌≡◌, ◌∙◌, ap, ◌∷◌, ◌++◌, [], length}
use Rattle.std.specs.Prelude.{not}
use Rattle.pal_text.specs.Names.{part_tokens}
use Rattle.pal_text.specs.Faults.{fault_of}
use Rattle.pal_text.specs.Parts.{IsFault}
use Rattle.pal_text.proofs.Rises.{part_tokens_within}
use Rattle.pal_text.proofs.Ends.{stop_within}
use Rattle.pal_text.proofs.Cuts.{reached_next, stands_end, held_next, found_at, ended_so, fault_at, on_ok, reached_at, told_on}
use Rattle.pal_text.proofs.part.gather.Goals as goal

pub returns-in_err-found-clause-fault : goal.returns-in_err-found-clause-fault
returns-in_err-found-clause-fault g c =
    told_on c.from_residual.result c.in_err-found.field-0.0 (λ e. IsFault c.args.reader.now.source (fault_of e)) c.from_residual.ensures.1
    (fault_at c.loop-found.reader c.args.reader.now.source c.loop-found.statements.items c.in_err-found.field-0.0 c.loop-found.invariant.0 c.in_err-found.ensures.fault c.loop-found.invariant.1)

pub loop-found-preserved : goal.loop-found-preserved
loop-found-preserved g c =
    let found = found_at c.loop-found.reader c.read_next.new.self c.args.reader.now.source c.in_ok-found.field-0 c.in-Statement.found c.loop-found.invariant.0 c.in-Statement.is c.in_ok-found.ensures.found in
    let more : c.keep.new.statements.items ≡ c.loop-found.statements.items ++ c.in-Statement.found.statement ∷ [] =
    on_ok c.keep.result _ c.keep.ensures.statements (c.is_err.ensures.negation ∙ ap not c.if-is_err.false) in (
      c.read_next.ensures.source ∙ c.loop-found.invariant.0,
      reached_at c.args.reader.now.source c.read_next.new.self.count c.read_next.new.self.close _ c.keep.new.statements.items more
          (reached_next c.args.reader.now.source c.loop-found.reader.count c.read_next.new.self.count c.in-Statement.found c.read_next.new.self.own c.loop-found.reader.close c.read_next.new.self.close c.loop-found.statements.items
          found.0 found.1 c.loop-found.invariant.1),
      held_next c.args.reader.now.source c.loop-found.reader.count c.read_next.new.self.count c.in-Statement.found c.read_next.new.self.own c.loop-found.tokens.items c.keep.new.tokens.items c.read_next.new.self.close c.loop-found.statements.items c.keep.new.statements.items
          found.1 c.loop-found.invariant.2
          (on_ok c.keep.result _ c.keep.ensures.tokens (c.is_err.ensures.negation ∙ ap not c.if-is_err.false) ∙ ap (λ l. c.loop-found.tokens.items ++ l ++ c.in-Statement.found.mark ∷ []) c.tokens.ensures)
          more,
    )

pub returns-in-End-clause-stop : goal.returns-in-End-clause-stop
returns-in-End-clause-stop g c =
    stop_within (part_tokens c.args.reader.now.source) (length c.args.reader.now.source) c.loop-found.statements.items c.in-End.close (part_tokens_within c.args.reader.now.source)
    (stands_end c.args.reader.now.source c.loop-found.reader.count c.loop-found.reader.close c.loop-found.statements.items c.in-End.close
    (ended_so c.loop-found.reader c.read_next.new.self c.in_ok-found.field-0 c.in-End.close c.in-End.is c.in_ok-found.ensures.found) c.loop-found.invariant.1)
