use Rattle.peripherals.proofs.devices.PanelBus.iot.Goals as goal

pub returns-clause-table : goal.returns-clause-table
returns-clause-table c = rw (← c.in-Some.ensures.exact, c.in-Some.ensures.word) c.answer-answer.ensures

pub returns-clause-device : goal.returns-clause-device
returns-clause-device c = rw c.in-Some.ensures.word (c.go_on.ensures c.args.ac)
