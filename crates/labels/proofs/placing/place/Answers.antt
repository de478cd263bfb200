use Rattle.std.proofs.Common.{rules, ◌≡◌, ◌≤◌, length, Ok}
use Rattle.std.specs.List.{slice_split}
use Rattle.std.proofs.lemmas.Result.{IfOk-weaker, IfErr-weaker}
use Rattle.labels.specs.Lines.{IsPlaceFault, is_feed, placed_all, placed_text}
use Rattle.labels.proofs.Joins.{short_placed, short_stops}
use Rattle.labels.proofs.placing.place.Goals as goal

pub returns-clause-placed : goal.returns-clause-placed
returns-clause-placed g c =
    let short : length c.args.text.now ≤ 16384 = search rules in
    IfOk-weaker c.place_all.result (λ out. placed_all c.args.own.now.entries (slice_split is_feed c.args.text.now) ≡ Ok out.items) (λ out. placed_text c.args.own.now.entries c.args.text.now ≡ Ok out.items)
    (λ out e. short_placed c.args.own.now.entries c.args.text.now short out.items e) c.place_all.ensures.placed

pub returns-clause-refused : goal.returns-clause-refused
returns-clause-refused g c =
    let short : length c.args.text.now ≤ 16384 = search rules in
    IfErr-weaker c.place_all.result (IsPlaceFault (placed_all c.args.own.now.entries (slice_split is_feed c.args.text.now))) (IsPlaceFault (placed_text c.args.own.now.entries c.args.text.now))
    (λ fault is. short_stops c.args.own.now.entries c.args.text.now short fault is) c.place_all.ensures.refused
