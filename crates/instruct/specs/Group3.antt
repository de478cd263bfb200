-- The operations of group 3 in code, and those that are meant.
use Rattle.instruct.specs.Operates.{MqOperate, Mql, Mqa, Swp, Cam, ClaMqa, ClaSwp}
use Rattle.instruct.specs.declared.operate.MqOperation.{MqOperation}
use Rattle.instruct.specs.declared.operate.MqOperation.TheVariants as code

abbrev pub mq_operate_as : MqOperation → MqOperate
mq_operate_as code.Mql = Mql
mq_operate_as code.Mqa = Mqa
mq_operate_as code.Swp = Swp
mq_operate_as code.Cam = Cam
mq_operate_as code.ClaMqa = ClaMqa
mq_operate_as code.ClaSwp = ClaSwp
