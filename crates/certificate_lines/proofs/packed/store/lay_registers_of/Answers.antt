use Rattle.std.proofs.Common.{◌+◌, arith}
use Rattle.certificate_lines.proofs.SumPackedLemmas.{registers_copied}
use Rattle.certificate_lines.proofs.packed.store.lay_registers_of.Goals as goal

pub returns-clause-laid : goal.returns-clause-laid
returns-clause-laid g c =
    (registers_copied c.args.runs.now.items c.extend_from_slice.new.self.items c.args.own.now c.args.sites c.from-first.result (c.from-first.result + c.in_both.result) c.args.registers.now
    c.from-first.ensures (omega (arith, c.in_both.ensures.count)) c.in_ok-extend_from_slice.ensures.items c.requires).1

pub returns-clause-within : goal.returns-clause-within
returns-clause-within g c =
    (registers_copied c.args.runs.now.items c.extend_from_slice.new.self.items c.args.own.now c.args.sites c.from-first.result (c.from-first.result + c.in_both.result) c.args.registers.now
    c.from-first.ensures (omega (arith, c.in_both.ensures.count)) c.in_ok-extend_from_slice.ensures.items c.requires).0
