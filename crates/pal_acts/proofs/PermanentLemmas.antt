-- The lists of permanent symbols, computed.
use Rattle.std.proofs.Common.{◌≡◌, refl, []}
use Rattle.indexmap.specs.IndexMap.{insert_all}
use Rattle.instruct.specs.declared.Profile.TheVariants.{Pdp8I, Pdp8E}
use Rattle.pal_acts.specs.Values.{same}
use Rattle.pal_acts.specs.Permanent.{permanent_symbols, common_symbols, further_symbols}

-- put into a table one after another, they stand there as in the list
pub put_common : insert_all same [] (permanent_symbols Pdp8I) ≡ permanent_symbols Pdp8I
unfolding permanent_symbols common_symbols
put_common = refl

pub put_all : insert_all same [] (permanent_symbols Pdp8E) ≡ permanent_symbols Pdp8E
unfolding permanent_symbols common_symbols further_symbols
put_all = refl
