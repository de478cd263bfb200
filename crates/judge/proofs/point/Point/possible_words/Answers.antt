use Rattle.std.proofs.Common.{arith}
use Rattle.judge.proofs.point.Point.possible_words.Goals as goal

pub put_possible-requires : goal.put_possible-requires
put_possible-requires g c = omega (arith, c.requires.cells, c.requires.relations)
