use Rattle.processor.proofs.Cpu.refer.Goals as goal

pub returns-in-And-clause-does : goal.returns-in-And-clause-does
returns-in-And-clause-does c = rw c.in-And.is c.and.ensures.does

pub returns-in-Tad-clause-does : goal.returns-in-Tad-clause-does
returns-in-Tad-clause-does c = rw c.in-Tad.is c.add.ensures.does

pub returns-in-Jmp-clause-does : goal.returns-in-Jmp-clause-does
returns-in-Jmp-clause-does c = rw c.in-Jmp.is c.jump.ensures.does
