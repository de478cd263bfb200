use Rattle.std.proofs.Common.{◌∙◌, sym, refl}
use Rattle.pal_acts.specs.Values.{same}
use Rattle.pal_acts.proofs.Table.{lookup-left, lookup-right}
use Rattle.pal_acts.proofs.symbols.Symbols.get.Goals as goal

pub returns-in-Some : goal.returns-in-Some
returns-in-Some g c = sym (lookup-left (same c.args.name.now) c.args.self.now.permanent.now.entries c.args.self.now.own.entries c.in-Some.value.now (sym c.get.ensures.value ∙ rw c.in-Some.is refl))

pub returns-in-None : goal.returns-in-None
returns-in-None g c = (c.copied.ensures ∙ c.get-in-None.ensures.value) ∙ sym (lookup-right (same c.args.name.now) c.args.self.now.permanent.now.entries c.args.self.now.own.entries (sym c.get.ensures.value ∙ rw c.in-None.is refl))
