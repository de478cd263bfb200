use Rattle.std.proofs.Common.{refl, sym, ◌∙◌}
use Rattle.wordset.specs.Lanes.{words}
use Rattle.declaration.specs.Text.{overlaps, entry_in_index, halt_outside, misplaced}
use Rattle.declaration.specs.Drafts.{gathered}
use Rattle.declaration.proofs.RuleLemmas.{first_same, none_same, bodies_all, entries_all, entries_below, overlap_first, index_first, start_first, halt_first, misplaced_first}
use Rattle.declaration.proofs.drafts.Draft.keeps_rules.Goals as goal

pub overlaps-requires-clause-bodies : goal.overlaps-requires-clause-bodies
overlaps-requires-clause-bodies g c =
    bodies_all c.bodies-bodies.result (gathered c.args.self.now) c.args.self.now.main c.deref.result.now c.args.self.now.routines.items c.deref.ensures.value refl refl c.bodies-bodies.ensures

pub overlaps-requires-clause-entries : goal.overlaps-requires-clause-entries
overlaps-requires-clause-entries g c =
    entries_all c.entries-entries.result (gathered c.args.self.now) c.deref-2.result.now c.args.self.now.routines.items c.deref-2.ensures.value refl c.entries-entries.ensures

pub returns-in-Some-clause-broken : goal.returns-in-Some-clause-broken
returns-in-Some-clause-broken g c =
    overlap_first (gathered c.args.self.now) c.args.start c.in-Some.at
    (first_same (words c.overlaps.result) (overlaps (gathered c.args.self.now)) c.in-Some.at c.overlaps.ensures c.in-Some.ensures)

pub returns-in-Some-first_from-clause-broken : goal.returns-in-Some-first_from-clause-broken
returns-in-Some-first_from-clause-broken g c =
    index_first (gathered c.args.self.now) c.args.start c.in-Some-first_from.at
    (none_same (words c.overlaps.result) (overlaps (gathered c.args.self.now)) c.overlaps.ensures c.in_default.ensures)
    (first_same (words c.entries_in_index.result) (entry_in_index (gathered c.args.self.now)) c.in-Some-first_from.at c.entries_in_index.ensures c.in-Some-first_from.ensures)

pub returns-then-not-contains-clause-broken : goal.returns-then-not-contains-clause-broken
returns-then-not-contains-clause-broken g c =
    start_first (gathered c.args.self.now) c.args.start
    (none_same (words c.overlaps.result) (overlaps (gathered c.args.self.now)) c.overlaps.ensures c.in_default.ensures)
    (none_same (words c.entries_in_index.result) (entry_in_index (gathered c.args.self.now)) c.entries_in_index.ensures c.in_default-first_from.ensures)
    (sym c.contains.ensures ∙ c.if-not-contains.true)

pub returns-in-Some-first_from-2-clause-broken : goal.returns-in-Some-first_from-2-clause-broken
returns-in-Some-first_from-2-clause-broken g c =
    halt_first (gathered c.args.self.now) c.args.start c.in-Some-first_from-2.at
    (none_same (words c.overlaps.result) (overlaps (gathered c.args.self.now)) c.overlaps.ensures c.in_default.ensures)
    (none_same (words c.entries_in_index.result) (entry_in_index (gathered c.args.self.now)) c.entries_in_index.ensures c.in_default-first_from.ensures)
    (sym c.contains.ensures ∙ c.if-not-contains.false)
    (first_same (words c.halts_outside.result) (halt_outside (gathered c.args.self.now)) c.in-Some-first_from-2.at c.halts_outside.ensures c.in-Some-first_from-2.ensures)

pub returns-clause-kept : goal.returns-clause-kept
returns-clause-kept g c = record {
  apart = none_same (words c.overlaps.result) (overlaps (gathered c.args.self.now)) c.overlaps.ensures c.in_default.ensures;
  outside_index = none_same (words c.entries_in_index.result) (entry_in_index (gathered c.args.self.now)) c.entries_in_index.ensures c.in_default-first_from.ensures;
  start_in_main = sym c.contains.ensures ∙ c.if-not-contains.false;
  halts_inside = none_same (words c.halts_outside.result) (halt_outside (gathered c.args.self.now)) c.halts_outside.ensures c.in_default-first_from-2.ensures;
  placed = none_same (words c.misplaced.result) (misplaced (gathered c.args.self.now)) c.misplaced.ensures c.in_default-first_from-3.ensures;
}

pub returns-clause-fit : goal.returns-clause-fit
returns-clause-fit g c =
    entries_below (gathered c.args.self.now) c.entries-entries.result
    (entries_all c.entries-entries.result (gathered c.args.self.now) c.deref-2.result.now c.args.self.now.routines.items c.deref-2.ensures.value refl c.entries-entries.ensures)

pub returns-in-Some-first_from-3-clause-broken : goal.returns-in-Some-first_from-3-clause-broken
returns-in-Some-first_from-3-clause-broken g c =
    misplaced_first (gathered c.args.self.now) c.args.start c.in-Some-first_from-3.at
    (none_same (words c.overlaps.result) (overlaps (gathered c.args.self.now)) c.overlaps.ensures c.in_default.ensures)
    (none_same (words c.entries_in_index.result) (entry_in_index (gathered c.args.self.now)) c.entries_in_index.ensures c.in_default-first_from.ensures)
    (sym c.contains.ensures ∙ c.if-not-contains.false)
    (none_same (words c.halts_outside.result) (halt_outside (gathered c.args.self.now)) c.halts_outside.ensures c.in_default-first_from-2.ensures)
    (first_same (words c.misplaced.result) (misplaced (gathered c.args.self.now)) c.in-Some-first_from-3.at c.misplaced.ensures c.in-Some-first_from-3.ensures)
