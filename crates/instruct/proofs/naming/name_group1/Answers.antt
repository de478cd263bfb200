use Rattle.std.proofs.Common.{◌++◌, [], codes, ◌∙◌}
use Rattle.instruct.specs.Bits.{has_bit}
use Rattle.instruct.specs.Names.{IsSpaced, named_if, group1_names}
use Rattle.instruct.proofs.Tests.{contains_1, contains_16, contains_32, contains_64, contains_128}
use Rattle.instruct.proofs.Spaces.{no_names, by_bit, or_nop}
use Rattle.instruct.proofs.naming.name_group1.Goals as goal

pub returns : goal.returns
returns c =
    let start : IsSpaced [] c.new-text.result.bytes = no_names c.new-text.result.bytes c.new-text.ensures in
    let cla : IsSpaced ([] ++ named_if (has_bit 7 c.args.bits.0) (codes "CLA")) c.push_if.new.text.bytes =
    by_bit ([]) c.contains.result (has_bit 7 c.args.bits.0) (codes "CLA") c.push_if.new.text.bytes (c.contains.ensures tt ∙ contains_128 c.args.bits.0) (c.push_if.ensures.names ([]) start) in
    let cll : IsSpaced ([] ++ named_if (has_bit 7 c.args.bits.0) (codes "CLA") ++ named_if (has_bit 6 c.args.bits.0) (codes "CLL")) c.push_if-2.new.text.bytes =
    by_bit ([] ++ named_if (has_bit 7 c.args.bits.0) (codes "CLA")) c.contains-2.result (has_bit 6 c.args.bits.0) (codes "CLL") c.push_if-2.new.text.bytes (c.contains-2.ensures tt ∙ contains_64 c.args.bits.0) (c.push_if-2.ensures.names ([] ++ named_if (has_bit 7 c.args.bits.0) (codes "CLA")) cla) in
    let cma : IsSpaced ([] ++ named_if (has_bit 7 c.args.bits.0) (codes "CLA") ++ named_if (has_bit 6 c.args.bits.0) (codes "CLL") ++ named_if (has_bit 5 c.args.bits.0) (codes "CMA")) c.push_if-3.new.text.bytes =
    by_bit ([] ++ named_if (has_bit 7 c.args.bits.0) (codes "CLA") ++ named_if (has_bit 6 c.args.bits.0) (codes "CLL")) c.contains-3.result (has_bit 5 c.args.bits.0) (codes "CMA") c.push_if-3.new.text.bytes (c.contains-3.ensures tt ∙ contains_32 c.args.bits.0) (c.push_if-3.ensures.names ([] ++ named_if (has_bit 7 c.args.bits.0) (codes "CLA") ++ named_if (has_bit 6 c.args.bits.0) (codes "CLL")) cll) in
    let cml : IsSpaced ([] ++ named_if (has_bit 7 c.args.bits.0) (codes "CLA") ++ named_if (has_bit 6 c.args.bits.0) (codes "CLL") ++ named_if (has_bit 5 c.args.bits.0) (codes "CMA") ++ named_if (has_bit 4 c.args.bits.0) (codes "CML")) c.push_if-4.new.text.bytes =
    by_bit ([] ++ named_if (has_bit 7 c.args.bits.0) (codes "CLA") ++ named_if (has_bit 6 c.args.bits.0) (codes "CLL") ++ named_if (has_bit 5 c.args.bits.0) (codes "CMA")) c.contains-4.result (has_bit 4 c.args.bits.0) (codes "CML") c.push_if-4.new.text.bytes (c.contains-4.ensures tt ∙ contains_16 c.args.bits.0) (c.push_if-4.ensures.names ([] ++ named_if (has_bit 7 c.args.bits.0) (codes "CLA") ++ named_if (has_bit 6 c.args.bits.0) (codes "CLL") ++ named_if (has_bit 5 c.args.bits.0) (codes "CMA")) cma) in
    let iac : IsSpaced ([] ++ named_if (has_bit 7 c.args.bits.0) (codes "CLA") ++ named_if (has_bit 6 c.args.bits.0) (codes "CLL") ++ named_if (has_bit 5 c.args.bits.0) (codes "CMA") ++ named_if (has_bit 4 c.args.bits.0) (codes "CML") ++ named_if (has_bit 0 c.args.bits.0) (codes "IAC")) c.push_if-5.new.text.bytes =
    by_bit ([] ++ named_if (has_bit 7 c.args.bits.0) (codes "CLA") ++ named_if (has_bit 6 c.args.bits.0) (codes "CLL") ++ named_if (has_bit 5 c.args.bits.0) (codes "CMA") ++ named_if (has_bit 4 c.args.bits.0) (codes "CML")) c.contains-5.result (has_bit 0 c.args.bits.0) (codes "IAC") c.push_if-5.new.text.bytes (c.contains-5.ensures tt ∙ contains_1 c.args.bits.0) (c.push_if-5.ensures.names ([] ++ named_if (has_bit 7 c.args.bits.0) (codes "CLA") ++ named_if (has_bit 6 c.args.bits.0) (codes "CLL") ++ named_if (has_bit 5 c.args.bits.0) (codes "CMA") ++ named_if (has_bit 4 c.args.bits.0) (codes "CML")) cml) in
    c.push_if_empty.ensures ∙ or_nop (group1_names c.args.bits.0) c.push_rotate.new.text.bytes (c.push_rotate.ensures.names ([] ++ named_if (has_bit 7 c.args.bits.0) (codes "CLA") ++ named_if (has_bit 6 c.args.bits.0) (codes "CLL") ++ named_if (has_bit 5 c.args.bits.0) (codes "CMA") ++ named_if (has_bit 4 c.args.bits.0) (codes "CML") ++ named_if (has_bit 0 c.args.bits.0) (codes "IAC")) iac)
