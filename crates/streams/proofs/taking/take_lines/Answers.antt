use Rattle.std.proofs.Common.{◌≡◌, ◌≤◌, ◌+◌, ap, length, map, arith, inl, [], ◌∷◌}
use Rattle.std.specs.Iterator.Adapters.{enumerate_source, enumerate_count}
use Rattle.std.proofs.lemmas.List.{map-append}
use Rattle.std.proofs.lemmas.Iterator.Consumers.{YieldsList-from_first, YieldsList-from_enumerate, YieldsList-at, YieldsList-turn, YieldsList-so_far, YieldsList-end}
use Rattle.streams.specs.Text.{text_lines}
use Rattle.streams.specs.TextLeft.{lines_left}
use Rattle.streams.proofs.NumberedLines.{lines_split, lines_all, length-text_lines}
use Rattle.streams.proofs.TakingLemmas.{TakesAll-push}
use Rattle.streams.proofs.taking.take_lines.Goals as goal

pub loop-index-init-derived : goal.loop-index-init-derived
loop-index-init-derived g c =
    let source : enumerate_source c.into_iter-index-iterator.result ≡ c.of.result = cc in
    let count : enumerate_count c.into_iter-index-iterator.result ≡ 0 = cc in
    let few : length (lines_left (enumerate_source c.into_iter-index-iterator.result)) ≤ length c.args.text.now + 1 =
    rw (source, c.of.ensures) (length-text_lines c.args.text.now) in
    ((tt, tt, inl (omega (arith, few, count, c.requires))), tt)

pub loop-index-preserved : goal.loop-index-preserved
loop-index-preserved g c =
    rw (map-append (λ item. item.1.now) c.loop-index.yielded ((c.in-Some.index, c.in-Some.line) ∷ []))
    (TakesAll-push g.T.LineTaker.takes _ c.loop-index.taker _ (map (λ item. item.1.now) c.loop-index.yielded) c.in-Some.line.now c.loop-index.invariant c.in_default.ensures.taken)

pub returns-in-Err-clause-refused : goal.returns-in-Err-clause-refused
returns-in-Err-clause-refused g c =
    let source : enumerate_source c.into_iter-index-iterator.result ≡ c.of.result = cc in
    let count : enumerate_count c.into_iter-index-iterator.result ≡ 0 = cc in
    let road = YieldsList-from_enumerate {s = c.into_iter-index-iterator.result} (YieldsList-at source (YieldsList-from_first (λ x. x.now) lines_left (text_lines c.args.text.now) c.of.ensures)) count in
    let turn = YieldsList-turn road c.loop-index.yielded c.loop-index.index-iterator c.loop-index.yielded_by c.next.result c.next.new.self (c.in-Some.index, c.in-Some.line) c.in-Some.is c.next.ensures.steps in
    let so_far = YieldsList-so_far road c.loop-index.yielded c.loop-index.index-iterator c.loop-index.yielded_by in
    let split = lines_split _ c.loop-index.yielded (text_lines c.args.text.now) (c.in-Some.index, c.in-Some.line.now) so_far turn in
    record {
      before = map (λ item. item.1.now) c.loop-index.yielded;
      line = c.in-Some.line.now;
      number = c.in-Some.index + 1;
      stands = record { after = split.0; stands = split.1; counted = ap (λ n. n + 1) split.2 };
      t = c.loop-index.taker;
      taken = c.loop-index.invariant;
      refused = c.in-Err.ensures.refused;
    }

pub returns-clause-taken : goal.returns-clause-taken
returns-clause-taken g c =
    let source : enumerate_source c.into_iter-index-iterator.result ≡ c.of.result = cc in
    let count : enumerate_count c.into_iter-index-iterator.result ≡ 0 = cc in
    let road = YieldsList-from_enumerate {s = c.into_iter-index-iterator.result} (YieldsList-at source (YieldsList-from_first (λ x. x.now) lines_left (text_lines c.args.text.now) c.of.ensures)) count in
    let end = YieldsList-end road c.loop-index.yielded c.loop-index.index-iterator c.loop-index.yielded_by c.next.result c.next.new.self c.in-None.is c.next.ensures.steps in
    rw (lines_all _ c.loop-index.yielded (text_lines c.args.text.now) end.0) at c.loop-index.invariant
