use Rattle.std.proofs.Common.{◌++◌, codes, ◌∙◌}
use Rattle.instruct.specs.Bits.{has_bit}
use Rattle.instruct.specs.Names.{IsSpaced, named_if, test_names, group2_names}
use Rattle.instruct.proofs.Tests.{contains_2, contains_4, contains_128}
use Rattle.instruct.proofs.Spaces.{by_bit, or_nop}
use Rattle.instruct.proofs.naming.name_group2.Goals as goal

pub returns : goal.returns
returns c =
    let cla : IsSpaced (test_names c.args.bits.0 ++ named_if (has_bit 7 c.args.bits.0) (codes "CLA")) c.push_if.new.text.bytes =
    by_bit (test_names c.args.bits.0) c.contains.result (has_bit 7 c.args.bits.0) (codes "CLA") c.push_if.new.text.bytes (c.contains.ensures tt ∙ contains_128 c.args.bits.0) (c.push_if.ensures.names (test_names c.args.bits.0) c.name_tests-text.ensures.names) in
    let osr : IsSpaced (test_names c.args.bits.0 ++ named_if (has_bit 7 c.args.bits.0) (codes "CLA") ++ named_if (has_bit 2 c.args.bits.0) (codes "OSR")) c.push_if-2.new.text.bytes =
    by_bit (test_names c.args.bits.0 ++ named_if (has_bit 7 c.args.bits.0) (codes "CLA")) c.contains-2.result (has_bit 2 c.args.bits.0) (codes "OSR") c.push_if-2.new.text.bytes (c.contains-2.ensures tt ∙ contains_4 c.args.bits.0) (c.push_if-2.ensures.names (test_names c.args.bits.0 ++ named_if (has_bit 7 c.args.bits.0) (codes "CLA")) cla) in
    let hlt : IsSpaced (test_names c.args.bits.0 ++ named_if (has_bit 7 c.args.bits.0) (codes "CLA") ++ named_if (has_bit 2 c.args.bits.0) (codes "OSR") ++ named_if (has_bit 1 c.args.bits.0) (codes "HLT")) c.push_if-3.new.text.bytes =
    by_bit (test_names c.args.bits.0 ++ named_if (has_bit 7 c.args.bits.0) (codes "CLA") ++ named_if (has_bit 2 c.args.bits.0) (codes "OSR")) c.contains-3.result (has_bit 1 c.args.bits.0) (codes "HLT") c.push_if-3.new.text.bytes (c.contains-3.ensures tt ∙ contains_2 c.args.bits.0) (c.push_if-3.ensures.names (test_names c.args.bits.0 ++ named_if (has_bit 7 c.args.bits.0) (codes "CLA") ++ named_if (has_bit 2 c.args.bits.0) (codes "OSR")) osr) in
    c.push_if_empty.ensures ∙ or_nop (group2_names c.args.bits.0) c.push_if-3.new.text.bytes hlt
