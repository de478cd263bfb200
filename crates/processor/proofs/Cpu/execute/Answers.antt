use Rattle.std.proofs.Common.{sym, ◌∙◌}
use Rattle.processor.specs.Steps.{state_of}
use Rattle.processor.proofs.StepLemmas.{group2_step, device_step, device_has_action}
use Rattle.processor.proofs.FetchLemmas.{fetched_group2, fetched_device}
use Rattle.processor.proofs.Cpu.execute.Goals as goal

pub iot-answer-requires : goal.iot-answer-requires
iot-answer-requires g c =
    let told = fetched_device c.args.self.now.profile (state_of c.args.self.now) c.in-Device.word (sym c.in-Device.is ∙ c.requires) in
    device_has_action c.args.self.now.profile c.args.self.now.pc c.in-Device.word told.1

pub returns-then-halts-clause-happened : goal.returns-then-halts-clause-happened
returns-then-halts-clause-happened g c =
    let told = fetched_group2 c.args.self.now.profile (state_of c.args.self.now) c.in-Operate2.word (sym c.in-Operate2.is ∙ c.requires) in
    group2_step c.args.self.now.profile (state_of c.args.self.now) (state_of c.operate_second.new.self) c.in-Operate2.word _ _ _ told.0 told.1 (rw c.switches.ensures at c.operate_second.ensures.does) (sym c.if-halts.true ∙ c.halts.ensures)

pub returns-else-halts-clause-happened : goal.returns-else-halts-clause-happened
returns-else-halts-clause-happened g c =
    let told = fetched_group2 c.args.self.now.profile (state_of c.args.self.now) c.in-Operate2.word (sym c.in-Operate2.is ∙ c.requires) in
    group2_step c.args.self.now.profile (state_of c.args.self.now) (state_of c.operate_second.new.self) c.in-Operate2.word _ _ _ told.0 told.1 (rw c.switches.ensures at c.operate_second.ensures.does) (sym c.if-halts.false ∙ c.halts.ensures)

pub returns-in-Device-clause-happened : goal.returns-in-Device-clause-happened
returns-in-Device-clause-happened g c =
    let told = fetched_device c.args.self.now.profile (state_of c.args.self.now) c.in-Device.word (sym c.in-Device.is ∙ c.requires) in
    device_step c.args.self.now.profile (state_of c.args.self.now) (state_of c.take.new.self) c.in-Device.word _ c.iot-answer.result.ac (g.B.Bus.answer_to c.args.bus.now) c.iot-answer.result.skip told.0 told.1 c.iot-answer.ensures.table c.take.ensures.taken
