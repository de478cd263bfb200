use Rattle.processor.proofs.MqLemmas.{leaves_mq}
use Rattle.processor.proofs.laws.basic_instructions_leave_mq.Goals as goal

pub returns : goal.returns
returns c = leaves_mq
