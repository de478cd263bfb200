-- What is asserted by a fact is so in each of its states.
use Rattle.std.proofs.Common.{◌≡◌, ℕ, ◌<◌, true, arith, zero, suc}
use Rattle.wordset.specs.Words.{Words, IsWithin}
use Rattle.processor.specs.Cells.{Cells}
use Rattle.processor.specs.Machine.{State}
use Rattle.declaration.specs.Declaration.{Assertion, IsDeclared}
use Rattle.declaration.specs.declared.Subject.{Subject}
use Rattle.declaration.specs.declared.Subject.TheVariants as subject
use Rattle.policy.specs.Calls.{Calls}
use Rattle.policy.specs.Rules.{word_of, IsSo}
use Rattle.domain.specs.Facts.{Fact, Place, Means}
use Rattle.domain.specs.Laws.{IsBegun}
use Rattle.facts.specs.States.{IsState}
use Rattle.facts.specs.Conditions.{link_words, may_be, IsAsserted}
use Rattle.facts.proofs.StateLemmas.{ac_true, word_true}

-- A link of the set is among its words.
link_true : (links : Words) (k : ℕ) → k < 2 → links k ≡ true → link_words links k ≡ true
link_true links zero lt is = is
link_true links (suc zero) lt is = is
link_true links (suc (suc k)) lt is = absurd (omega (arith, lt))

module _ (pl : Place) (dd : IsDeclared pl.declaration) (start : Cells) (begun : IsBegun pl.image start) where
  subject_so : (f : Fact) (of : Subject) (set : Words) (s : State) (ks : Calls) → IsState s → Means pl start f s ks → IsWithin (may_be pl f of) set → set (word_of of s) ≡ true
  subject_so f subject.Accumulator set s ks ss h within = within s.ac ss.ac (ac_true pl dd start begun f s ks ss h)
  subject_so f subject.Link set s ks ss h within = within s.link (omega (arith, ss.link)) (link_true f.link s.link ss.link h.link)
  subject_so f subject.Mq set s ks ss h within = within s.mq ss.mq h.mq
  subject_so f (subject.Cell a) set s ks ss h within = within (s.memory a) (ss.words a) (word_true pl dd start begun f s ks a ss h)

  pub asserted_so : (f : Fact) (a : Assertion) (s : State) (ks : Calls) → IsState s → Means pl start f s ks → IsAsserted pl f a → IsSo a s
  asserted_so f a s ks ss h within = subject_so f a.subject a.words s ks ss h within
