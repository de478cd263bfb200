use Rattle.declaration.proofs.LineLemmas.{below_8}
use Rattle.declaration.proofs.lines.offset.Goals as goal

pub returns-then-word-eq1-clause-small : goal.returns-then-word-eq1-clause-small
returns-then-word-eq1-clause-small c = below_8 c.args.word.now c.octal_word.result c.if-word-eq1.true c.octal_word.ensures
