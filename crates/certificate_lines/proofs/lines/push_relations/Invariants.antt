use Rattle.std.proofs.Common.{◌≡◌, ◌++◌, map, take}
use Rattle.domain.specs.RelationsInCode.{relation_of}
use Rattle.certificate_lines.specs.Packed.{said_lines}
use Rattle.certificate_lines.specs.Lines.{SumIs}
use Rattle.certificate_lines.proofs.lines.push_relations.Given as goal

abbrev pub invariant-loop-relation : goal.invariant-loop-relation
invariant-loop-relation g l = said_lines l.lines ≡ said_lines l.fn.lines ++ map SumIs (map relation_of (take l.relation-index l.relations))
