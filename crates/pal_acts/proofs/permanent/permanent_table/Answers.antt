use Rattle.std.proofs.Common.{◌≡◌, ◌∙◌, []}
use Rattle.std.proofs.lemmas.Result.{IfOk-weaker}
use Rattle.indexmap.specs.IndexMap.{insert_all}
use Rattle.instruct.specs.declared.Profile.TheVariants.{Pdp8I, Pdp8E}
use Rattle.pal_acts.specs.Values.{same}
use Rattle.pal_acts.specs.Permanent.{permanent_symbols, common_symbols, further_symbols}
use Rattle.pal_acts.proofs.PermanentLemmas.{put_common, put_all}
use Rattle.pal_acts.proofs.permanent.permanent_table.Goals as goal

pub returns-in-Pdp8I : goal.returns-in-Pdp8I
unfolding permanent_symbols common_symbols
returns-in-Pdp8I g c =
    rw c.in-Pdp8I.is (IfOk-weaker c.table_of.result (λ table. table.entries ≡ insert_all same [] (permanent_symbols Pdp8I)) (λ table. table.entries ≡ permanent_symbols Pdp8I)
    (λ table h. h ∙ put_common) c.table_of.ensures)

pub returns-in-Pdp8E : goal.returns-in-Pdp8E
unfolding permanent_symbols common_symbols further_symbols
returns-in-Pdp8E g c =
    rw c.in-Pdp8E.is (IfOk-weaker c.table_of-in-Pdp8E.result (λ table. table.entries ≡ insert_all same [] (permanent_symbols Pdp8E)) (λ table. table.entries ≡ permanent_symbols Pdp8E)
    (λ table h. h ∙ put_all) c.table_of-in-Pdp8E.ensures)
