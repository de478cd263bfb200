use Rattle.std.proofs.Common.{◌≤◌, ◌-◌, ◌++◌, ◌∙◌, arith, List, ℕ, length, take, drop, subst, length-drop}
use Rattle.streams.proofs.BytesLemmas.{rest_is}
use Rattle.certificate.specs.Parser.{Seen, Refuses}
use Rattle.certificate.proofs.ServedLemmas.{piece_more, piece_rest, piece_count}
use Rattle.certificate.proofs.parser.Parser.take_all.Goals as goal

pub loop-at-preserved : goal.loop-at-preserved
loop-at-preserved g c =
    let bytes = c.args.bytes.now in
    let at = c.loop-at.at in
    let n = c.in-Ok.count in
    let few : n ≤ length (take (length bytes - at) (drop at bytes)) = c.in-Ok.ensures.within in
    let within : n ≤ length (drop at bytes) = subst (λ (x : List ℕ). n ≤ length x) (rest_is bytes at) few in
    record {
      within = (let b = c.loop-at.invariant.within in omega (arith, within, b, length-drop at bytes));
      small = c.in-Ok.ensures.small;
      count = (let a = c.in-Ok.ensures.count in let b = c.loop-at.invariant.count in omega (arith, a, b));
      seen = λ before h e.
          let seen : Seen c.take.new.self (before ++ take at bytes ++ take n (take (length bytes - at) (drop at bytes))) =
          c.in-Ok.ensures.seen (before ++ take at bytes) (c.loop-at.invariant.seen before h e)
          (c.loop-at.invariant.count ∙ piece_count before bytes c.args.self.now.count at c.loop-at.invariant.within e) in
          subst (λ (x : List ℕ). Seen c.take.new.self x) (piece_more before bytes at n)
          (subst (λ (x : List ℕ). Seen c.take.new.self (before ++ take at bytes ++ take n x)) (rest_is bytes at) seen);
    }

pub returns-in-Err-clause-seen : goal.returns-in-Err-clause-seen
returns-in-Err-clause-seen g c = λ before h e.
    let bytes = c.args.bytes.now in
    let at = c.loop-at.at in
    let refused : Refuses (before ++ take at bytes ++ take (length bytes - at) (drop at bytes)) c.in-Err.fault =
    c.in-Err.ensures.seen (before ++ take at bytes) (c.loop-at.invariant.seen before h e)
    (c.loop-at.invariant.count ∙ piece_count before bytes c.args.self.now.count at c.loop-at.invariant.within e) in
    subst (λ (x : List ℕ). Refuses x c.in-Err.fault) (piece_rest before bytes at)
    (subst (λ (x : List ℕ). Refuses (before ++ take at bytes ++ x) c.in-Err.fault) (rest_is bytes at) refused)
