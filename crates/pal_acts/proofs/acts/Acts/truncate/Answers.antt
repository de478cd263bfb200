use Rattle.std.proofs.Common.{◌∙◌, sym, ap, take}
use Rattle.std.proofs.lemmas.List.{take-map}
use Rattle.pal_acts.specs.Acts.{acts_in}
use Rattle.pal_acts.specs.ActsInCode.{kept_act}
use Rattle.pal_acts.proofs.acts.Acts.truncate.Goals as goal

pub returns : goal.returns
returns g c =
    ap (acts_in c.self.inside.terms.items) c.truncate.ensures.items
    ∙ sym (take-map (kept_act c.self.inside.terms.items) c.args.count c.self.inside.list.items)
    ∙ ap (take c.args.count) c.self.view_is
