use Rattle.word12.proofs.ReadsBack.{octal_reads_back}
use Rattle.word12.proofs.laws.octal_reads_back.Goals as goal

pub returns : goal.returns
returns c = octal_reads_back
