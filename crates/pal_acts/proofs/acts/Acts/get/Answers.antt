use Rattle.std.proofs.Common.{◌∙◌, ◌<◌, sym, ap, Some, length, arith}
use Rattle.std.specs.Prelude.{slice_get, slice_range}
use Rattle.std.specs.Option.{option_map}
use Rattle.std.proofs.lemmas.List.{length-map}
use Rattle.std.proofs.lemmas.Option.{slice_get-map, slice_get-get_or}
use Rattle.pal_acts.specs.Acts.{placed}
use Rattle.pal_acts.specs.ActsInCode.{kept_act}
use Rattle.pal_acts.proofs.acts.Acts.get.Goals as goal

pub returns : goal.returns
returns g c =
    let act = kept_act c.self.inside.terms.items in
    let within : c.args.at < length c.self.inside.list.items = omega (arith, ap length c.self.view_is, length-map c.self.inside.list.items act) in
    ap (λ l. slice_get l c.args.at) (sym c.self.view_is)
    ∙ slice_get-map act c.self.inside.list.items c.args.at
    ∙ ap (option_map act) (slice_get-get_or c.self.inside.list.items c.args.at c.index-kept.result.now within ∙ ap Some (sym c.index-kept.ensures))
    ∙ ap (λ l. Some (placed c.index-kept.result.now.place (slice_range l c.index-kept.result.now.span.first c.index-kept.result.now.span.last) c.index-kept.result.now.act)) (sym c.deref.ensures.value)
