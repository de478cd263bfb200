-- The fact of all starts holds of each start.
use Rattle.std.proofs.Common.{◌≡◌, ℕ, ◌<◌, Bool, true, false, Option, Some, None, List, [], ◌∷◌, refl, inl, inr, lit<}
use Rattle.std.specs.Prelude.{if◌then◌else◌}
use Rattle.std.proofs.lemmas.Bool.{eq-eqb, lt-ltb}
use Rattle.processor.specs.Machine.{State}
use Rattle.processor.specs.Cells.{Cells}
use Rattle.processor.specs.Runs.{IsStart}
use Rattle.policy.specs.Calls.{Calls}
use Rattle.domain.specs.Locations.{Location, Ac, Cell, values, tape_word}
use Rattle.domain.specs.Facts.{Fact, Place, Means, SomeMeans}
use Rattle.domain.specs.Laws.{IsBegun}
use Rattle.facts.specs.Starts.{words_at_start, start_fact, StartFactHolds, StartsLand}
use Rattle.facts.proofs.LandedLemmas.{one_landed_holds}

pub start_is_begun : (pl : Place) (at : ℕ) (s : State) → IsStart pl.image at s → IsBegun pl.image s.memory
start_is_begun pl at s start = record { words = start.words; loaded = start.loaded }

tape_true : (o : Option ℕ) (x : ℕ) → x < 4096 → ((w : ℕ) → o ≡ Some w → x ≡ w) → tape_word o x ≡ true
tape_true None x lt h = lt-ltb x 4096 lt
tape_true (Some w) x lt h = eq-eqb x w (h w refl)

pub start_fact_holds : StartFactHolds
start_fact_holds pl s main start = record {
  holds = record { sets = sets; relations = tt; chains = tt };
  mq = lt-ltb s.mq 4096 start.mq;
  link = lt-ltb s.link 2 start.link;
  rest = λ a v e. refl;
  stands = main;
  own = tt;
}
  where
    same_cell : (b : Bool) (x : ℕ) → (if b then x else x) ≡ x
    same_cell true x = refl
    same_cell false x = refl

    sets : (n : Location) → words_at_start pl.image n (values pl.declaration s.memory s.ac s.memory n) ≡ true
    sets Ac = lt-ltb s.ac 4096 start.ac
    sets (Cell a) =
        let e : values pl.declaration s.memory s.ac s.memory (Cell a) ≡ s.memory a = same_cell (pl.declaration.variable a) (s.memory a) in
        rw e (tape_true (pl.image a) (s.memory a) (start.words a) (λ w q. start.loaded a w q))

-- what a fact says does not depend on the program counter
some_moved : (pl : Place) (start : Cells) (pc : ℕ) (s : State) (ks : Calls) (fs : List Fact) → SomeMeans pl start fs (record s { pc = pc }) ks → SomeMeans pl start fs s ks
some_moved pl start pc s ks [] h = absurd h
some_moved pl start pc s ks (f ∷ fs) h = elim h [
  | inl m ↦ inl (record { holds = m.holds; mq = m.mq; link = m.link; rest = m.rest; stands = m.stands; own = m.own })
  | inr m ↦ inr (some_moved pl start pc s ks fs m)
]

pub starts_land : StartsLand
starts_land pl among s main lands start =
    let m : Means pl s.memory (start_fact pl.image) s [] = start_fact_holds pl s main start in
    some_moved pl s.memory 0 s [] among
    (one_landed_holds pl s.memory (start_fact pl.image) among (record s { pc = 0 }) [] (start_is_begun pl pl.declaration.start s start)
    (record { ac = start.ac; link = start.link; mq = start.mq; pc = lit< tt; words = start.words }) lands
    (record { holds = m.holds; mq = m.mq; link = m.link; rest = m.rest; stands = m.stands; own = m.own }))
