use Rattle.std.proofs.Common.{List, ℕ, [], ◌∷◌, ◌++◌, ◌+◌, false, subst, sym, arith}
use Rattle.certificate.specs.Parser.{Parts}
use Rattle.certificate.proofs.SumParserLemmas.{then_seen, few_more}
use Rattle.certificate.proofs.SumServedLemmas.{full}
use Rattle.certificate.proofs.parser.Parser.end.Goals as goal

pub returns-then-self-eq-MOST_BYTES-clause-seen : goal.returns-then-self-eq-MOST_BYTES-clause-seen
returns-then-self-eq-MOST_BYTES-clause-seen g c = λ bytes h e.
    full c.args.self.now.kept h.text c.args.self.now.line.items bytes c.args.self.now.is_long c.args.self.now.progress h.parts 0 (10 ∷ [])
    (omega (arith, c.if-self-eq-MOST_BYTES.true, e)) (omega arith) tt

pub returns-clause-small : goal.returns-clause-small
returns-clause-small g c = record {
  count = omega (arith, c.requires.count, c.if-self-eq-MOST_BYTES.false);
  number = few_more (c.args.self.now.count + 3) (c.args.self.now.count + 1 + 2) _ (omega arith)
      (c.take_line-taken.ensures.number c.args.self.now.count c.requires.number);
}

pub returns-clause-seen : goal.returns-clause-seen
returns-clause-seen g c = λ bytes h e.
    then_seen _ (h.text ++ c.deref.result.now ++ 10 ∷ []) (bytes ++ 10 ∷ []) c.take_line-taken.result c.clear.ensures c.if-self.false
    (c.take_line-taken.ensures.taken h.text bytes
    (subst (λ (x : List ℕ). Parts h.text c.args.self.now.kept c.args.self.now.progress x false bytes) (sym c.deref.ensures.0) (rw c.if-self.false at h.parts))
    (omega (arith, c.requires.count, c.if-self-eq-MOST_BYTES.false, e)))
