use Rattle.std.proofs.Common.{◌++◌, [], codes, ◌≡◌, true, false, sym, ◌∙◌}
use Rattle.instruct.specs.Bits.{has_bit}
use Rattle.instruct.specs.Names.{IsSpaced, named_if}
use Rattle.instruct.proofs.Tests.{contains_8, contains_16, contains_32, contains_64}
use Rattle.instruct.proofs.Spaces.{no_names, by_bit, skip_or}
use Rattle.instruct.proofs.naming.name_tests.Goals as goal

pub returns-then-contains-clause-names : goal.returns-then-contains-clause-names
returns-then-contains-clause-names c =
    let start : IsSpaced [] c.new-text.result.bytes = no_names c.new-text.result.bytes c.new-text.ensures in
    let spa : IsSpaced ([] ++ named_if (has_bit 6 c.args.bits.0) (codes "SPA")) c.push_if.new.text.bytes =
    by_bit ([]) c.contains-then-contains.result (has_bit 6 c.args.bits.0) (codes "SPA") c.push_if.new.text.bytes (c.contains-then-contains.ensures tt ∙ contains_64 c.args.bits.0) (c.push_if.ensures.names ([]) start) in
    let sna : IsSpaced ([] ++ named_if (has_bit 6 c.args.bits.0) (codes "SPA") ++ named_if (has_bit 5 c.args.bits.0) (codes "SNA")) c.push_if-then-contains.new.text.bytes =
    by_bit ([] ++ named_if (has_bit 6 c.args.bits.0) (codes "SPA")) c.contains-then-contains-2.result (has_bit 5 c.args.bits.0) (codes "SNA") c.push_if-then-contains.new.text.bytes (c.contains-then-contains-2.ensures tt ∙ contains_32 c.args.bits.0) (c.push_if-then-contains.ensures.names ([] ++ named_if (has_bit 6 c.args.bits.0) (codes "SPA")) spa) in
    let szl : IsSpaced ([] ++ named_if (has_bit 6 c.args.bits.0) (codes "SPA") ++ named_if (has_bit 5 c.args.bits.0) (codes "SNA") ++ named_if (has_bit 4 c.args.bits.0) (codes "SZL")) c.push_if-then-contains-2.new.text.bytes =
    by_bit ([] ++ named_if (has_bit 6 c.args.bits.0) (codes "SPA") ++ named_if (has_bit 5 c.args.bits.0) (codes "SNA")) c.contains-then-contains-3.result (has_bit 4 c.args.bits.0) (codes "SZL") c.push_if-then-contains-2.new.text.bytes (c.contains-then-contains-3.ensures tt ∙ contains_16 c.args.bits.0) (c.push_if-then-contains-2.ensures.names ([] ++ named_if (has_bit 6 c.args.bits.0) (codes "SPA") ++ named_if (has_bit 5 c.args.bits.0) (codes "SNA")) sna) in
    let reversed : has_bit 3 c.args.bits.0 ≡ true = sym (contains_8 c.args.bits.0) ∙ sym (c.contains.ensures tt) ∙ c.if-contains.true in
    rw reversed (skip_or ([] ++ named_if (has_bit 6 c.args.bits.0) (codes "SPA") ++ named_if (has_bit 5 c.args.bits.0) (codes "SNA") ++ named_if (has_bit 4 c.args.bits.0) (codes "SZL")) c.push_if-then-contains-2.new.text.bytes c.push_if_empty.new.text.bytes c.push_if_empty.ensures szl)

pub returns-else-contains-clause-names : goal.returns-else-contains-clause-names
returns-else-contains-clause-names c =
    let start : IsSpaced [] c.new-text.result.bytes = no_names c.new-text.result.bytes c.new-text.ensures in
    let sma : IsSpaced ([] ++ named_if (has_bit 6 c.args.bits.0) (codes "SMA")) c.push_if-else-contains.new.text.bytes =
    by_bit ([]) c.contains-else-contains.result (has_bit 6 c.args.bits.0) (codes "SMA") c.push_if-else-contains.new.text.bytes (c.contains-else-contains.ensures tt ∙ contains_64 c.args.bits.0) (c.push_if-else-contains.ensures.names ([]) start) in
    let sza : IsSpaced ([] ++ named_if (has_bit 6 c.args.bits.0) (codes "SMA") ++ named_if (has_bit 5 c.args.bits.0) (codes "SZA")) c.push_if-else-contains-2.new.text.bytes =
    by_bit ([] ++ named_if (has_bit 6 c.args.bits.0) (codes "SMA")) c.contains-else-contains-2.result (has_bit 5 c.args.bits.0) (codes "SZA") c.push_if-else-contains-2.new.text.bytes (c.contains-else-contains-2.ensures tt ∙ contains_32 c.args.bits.0) (c.push_if-else-contains-2.ensures.names ([] ++ named_if (has_bit 6 c.args.bits.0) (codes "SMA")) sma) in
    let snl : IsSpaced ([] ++ named_if (has_bit 6 c.args.bits.0) (codes "SMA") ++ named_if (has_bit 5 c.args.bits.0) (codes "SZA") ++ named_if (has_bit 4 c.args.bits.0) (codes "SNL")) c.push_if-else-contains-3.new.text.bytes =
    by_bit ([] ++ named_if (has_bit 6 c.args.bits.0) (codes "SMA") ++ named_if (has_bit 5 c.args.bits.0) (codes "SZA")) c.contains-else-contains-3.result (has_bit 4 c.args.bits.0) (codes "SNL") c.push_if-else-contains-3.new.text.bytes (c.contains-else-contains-3.ensures tt ∙ contains_16 c.args.bits.0) (c.push_if-else-contains-3.ensures.names ([] ++ named_if (has_bit 6 c.args.bits.0) (codes "SMA") ++ named_if (has_bit 5 c.args.bits.0) (codes "SZA")) sza) in
    let plain : has_bit 3 c.args.bits.0 ≡ false = sym (contains_8 c.args.bits.0) ∙ sym (c.contains.ensures tt) ∙ c.if-contains.false in
    rw plain snl
