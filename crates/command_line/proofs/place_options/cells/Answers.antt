use Rattle.std.proofs.Common.{inl, inr, subst}
use Rattle.std.specs.Prelude.{Any}
use Rattle.command_line.specs.Places.{AreCellsOf}
use Rattle.command_line.proofs.CellLemmas.{none_is, none_of, some_of}
use Rattle.command_line.proofs.place_options.cells.Goals as goal

pub returns-else-is_empty : goal.returns-else-is_empty
returns-else-is_empty g c = record {
  are = subst (λ names. AreCellsOf (g.C.AddressReader.names_cells c.args.reader.now) names c.in_ok-set.set) c.of.ensures c.in_ok-set.ensures;
  some = some_of _ c.if-is_empty.ensures;
}

pub returns-then-is_empty : goal.returns-then-is_empty
returns-then-is_empty g c = inr (record {
  set = c.in_ok-set.set;
  are = subst (λ names. AreCellsOf (g.C.AddressReader.names_cells c.args.reader.now) names c.in_ok-set.set) c.of.ensures c.in_ok-set.ensures;
  none = none_of _ c.if-is_empty.ensures;
})

pub returns-in_err-set : goal.returns-in_err-set
returns-in_err-set g c = none_is _ _ _ c.from_residual.ensures (inl (subst (λ names. Any (g.C.AddressReader.no_cells c.args.reader.now) names) c.of.ensures c.in_err-set.ensures))
