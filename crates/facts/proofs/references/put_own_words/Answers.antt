use Rattle.std.proofs.Common.{◌∙◌, ap, sym, arith}
use Rattle.std.specs.Prelude.{◌||◌}
use Rattle.wordset.specs.Words.{Words, shifted}
use Rattle.wordset.specs.Lanes.{words}
use Rattle.wordset.proofs.Tests.{some_none}
use Rattle.domain.specs.Brief.{brief_words}
use Rattle.domain.specs.Offsets.{offsets_in}
use Rattle.domain.specs.FactInCode.{fact_in_code}
use Rattle.facts.proofs.PlaceLemmas.{some_step, and_both}
use Rattle.facts.proofs.OperandLemmas.{own_end}
use Rattle.facts.proofs.references.put_own_words.Goals as goal

pub loop-o-init : goal.loop-o-init
loop-o-init g c = λ v. ap (λ (s : Words). s v) c.empty.ensures ∙ sym (some_none _)

pub loop-o-preserved : goal.loop-o-preserved
loop-o-preserved g c = λ v. some_step c.loop-o.o _ (words c.loop-o.place v) (words c.add_shifted_if.new.set v) (c.loop-o.invariant v)
    (c.add_shifted_if.ensures v ∙ ap (λ b. words c.loop-o.place v || b) (and_both c.contains.ensures (ap (λ k. shifted (words c.put.new.place) k v) c.from_index.ensures)))

pub returns : goal.returns
returns g c = own_end (fact_in_code c.args.fact.now) (words c.put.new.place) (brief_words c.sites.result.now) (offsets_in c.offsets-offsets.result) (words c.loop-o.place) c.loop-o.o
    (omega arith) c.put.ensures c.sites.ensures c.offsets-offsets.ensures c.loop-o.invariant
