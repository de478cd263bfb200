use Rattle.std.proofs.Common.{◌≡◌, ◌∙◌, sym, None, arith}
use Rattle.indexmap.proofs.CallerLemmas.{insert_entry-new}
use Rattle.pal_acts.specs.Values.{same, known}
use Rattle.pal_acts.proofs.Table.{lookup-none, given_new}
use Rattle.pal_acts.proofs.symbols.Symbols.give.Goals as goal

pub returns-in-Ok-clause-given : goal.returns-in-Ok-clause-given
returns-in-Ok-clause-given g c =
    let none : known c.args.self.now.permanent.now.entries c.args.self.now.own.entries c.args.name ≡ None = sym c.get.ensures ∙ c.in-None.is in
    let absent = lookup-none (same c.args.name) c.args.self.now.permanent.now.entries c.args.self.now.own.entries none in
    given_new c.args.other 1024 c.args.self.now.own.entries c.insert.new.self.entries c.args.name _ c.args.value none (omega arith) (c.in-Ok.ensures.entries ∙ insert_entry-new same c.args.self.now.own c.args.name c.args.value absent)
