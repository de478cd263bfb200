-- The outcomes of a word: the facts that may hold after it, each with the addresses where the run may be then. By the rules of
-- sums they are asked of a narrowed fact.
use Rattle.std.specs.Prelude.{ℕ, Bool, ◌&&◌, if◌then◌else◌, Option, Some, None, List, [], ◌∷◌, ◌++◌}
use Rattle.wordset.specs.Words.{plus, Words, all_words, one, some_below, has_some, has_link, without, shifted, carries, toggled, meet, only, ands}
use Rattle.domain.specs.Locations.{Ac, Cell, is_routine}
use Rattle.domain.specs.Terms.{Term}
use Rattle.domain.specs.Chains.{Ands, Chain, all_longer}
use Rattle.domain.specs.Facts.{Fact, Place, Rules, OfEquations, OfSums}
use Rattle.domain.specs.Adding.{with_name}
use Rattle.domain.specs.Narrowing.{words_known}
use Rattle.domain.specs.Moves.{taking, counted, weakly_updated, counted_up, offsets_between}
use Rattle.transfer.specs.References.{words_at, operand_term, one_target}
use Rattle.transfer.specs.Additions.{summed, equated, sums_under, chains_after_tad}
use Rattle.transfer.specs.Stores.{stored, copied, with_begun}

-- The run goes on at one of these addresses; or it calls one of these entries; or it returns.
pub data Successor : Type 0 where
  Goes : Words → Fact → Successor
  CallsTo : Words → Fact → Successor
  Returns : Fact → Successor

-- An outcome that is given where the test is true.
abbrev pub given : Bool → Successor → List Successor
given b o = if b then o ∷ [] else []

-- The words of AC that are known before a word.
abbrev pub ac_of : Place → Fact → Words
ac_of pl f = words_known pl f Ac

-- An outcome may come about: there are targets, and by the rules of equations the old and the new words of AC, those of MQ,
-- the links and the words of the changed cell are not none. By the rules of sums an outcome with an empty set lands anywhere,
-- so that nothing is required of it either.
abbrev pub is_alive : Rules → Words → Words → Words → Fact → Bool
is_alive OfSums p ac changed g = has_some p
is_alive OfEquations p ac changed g =
    has_some p && (has_some ac && (has_some (g.set Ac) && (has_some g.mq && (has_link g.link && has_some changed))))

-- A step from the fact f to the fact g may come about.
abbrev pub alive : Place → Words → Fact → Words → Fact → Bool
alive pl p f changed g = is_alive pl.rules p (ac_of pl f) changed g

-- The outcome that goes on at these addresses with the fact g, where it may come about.
abbrev pub goes : Place → Words → Fact → Words → Words → Fact → List Successor
goes pl p f changed next g = given (alive pl p f changed g) (Goes next g)

-- The fact with the links of a set alone.
abbrev pub with_link : Words → Fact → Fact
with_link links f = record f { link = links }

-- The fact with another set of MQ.
abbrev pub with_mq : Words → Fact → Fact
with_mq set f = record f { mq = set }

-- The chains after AND: one word is a step more. Else they go.
abbrev pub chains_after_and : Rules → Option ℕ → Fact → List Chain
chains_after_and rules (Some w) f = all_longer (Ands w) (with_begun rules f)
chains_after_and rules None f = []

-- AND: all a and v, bit by bit.
abbrev pub anded : Place → ℕ → Fact → Words → List Successor
anded pl at f p =
    goes pl p f all_words (one (plus at 1))
    (record (taking Ac (ands (ac_of pl f) (words_at pl f p)) f) {
      chains = chains_after_and pl.rules (only (words_at pl f p)) f;
    })

-- TAD by the rules of sums where the link is l then: AC is one of the sums that come so.
abbrev pub added_under : Words → Option Term → Fact → ℕ → Fact
added_under operand t f l =
    let sum : Fact = summed operand t f in
    record (with_name Ac (meet (sum.set Ac) (sums_under f.link (f.set Ac) operand l)) sum) {
      chains = chains_after_tad (only operand) f.chains;
      link = one l;
    }

-- TAD by the rules of equations: what is known of AC, and the links by the carries that occur.
abbrev pub added : Words → Words → Option Term → Fact → Fact
added known operand t f = record (equated known operand t f) { link = toggled f.link (carries known operand) }

-- TAD goes on at the next address: by the rules of sums with an outcome for each link, by those of equations with one for both.
abbrev pub tad_by : Rules → Place → ℕ → Fact → Words → Option Term → List Successor
tad_by OfSums pl at f p t =
    goes pl p f all_words (one (plus at 1)) (added_under (words_at pl f p) t f 0) ++
    goes pl p f all_words (one (plus at 1)) (added_under (words_at pl f p) t f 1)
tad_by OfEquations pl at f p t =
    goes pl p f all_words (one (plus at 1)) (added (ac_of pl f) (words_at pl f p) (one_target pl.declaration (only p)) f)

-- TAD of one of the targets, whose word is that of a term, if there is one.
abbrev pub tad : Place → Bool → ℕ → ℕ → Fact → Words → List Successor
tad pl i c at f p = tad_by pl.rules pl at f p (operand_term pl.declaration i c p)

-- ISZ of one variable: it skips where the variable was 7777, and otherwise leaves it not zero. ISZ of any other one cell
-- increments the offsets: the only such cell that the conditions let it write is the running routine's own entry. ISZ of
-- several cells increments an unknown one of them.
abbrev pub isz_case : Place → ℕ → Fact → Words → Option ℕ → List Successor
isz_case pl at f p (Some y) =
    if pl.declaration.variable y
    then
    given (words_known pl f (Cell y) 4095 && alive pl p f (one 0) (with_name (Cell y) (one 0) (counted pl y f)))
    (Goes (one (plus at 2)) (with_name (Cell y) (one 0) (counted pl y f))) ++
    goes pl p f (without 0 (shifted (words_known pl f (Cell y)) 1)) (one (plus at 1))
    (with_name (Cell y) (without 0 (shifted (words_known pl f (Cell y)) 1)) (counted pl y f))
    else goes pl p f all_words (one (plus at 1)) (record f { offsets = counted_up f.offsets })
isz_case pl at f p None =
    let after : Fact = weakly_updated p (λ y. shifted (f.set (Cell y)) 1) f in
    given (some_below 4096 (λ y. p y && words_known pl f (Cell y) 4095) && alive pl p f all_words after)
    (Goes (one (plus at 2)) after) ++
    given (some_below 4096 (λ y. p y && has_some (without 4095 (words_known pl f (Cell y)))) && alive pl p f all_words after)
    (Goes (one (plus at 1)) after)

-- What is known after DCA of the one target y.
abbrev pub stored_by : Rules → ℕ → Words → Fact → Fact
stored_by OfSums y known f = stored y f
stored_by OfEquations y known f = copied y known f

-- What is known after DCA of the running routine's own entry: the return word is a word of the accumulator, so its offsets are
-- those from the sites' return addresses to these words; then the accumulator is 0.
abbrev pub moved : Words → Fact → Fact
moved known f = record (taking Ac (one 0) f) { offsets = offsets_between f.sites known }

-- What is known after DCA of the one target y, a variable; the only other cell that the conditions let it write is the running
-- routine's own entry.
abbrev pub deposited : Place → ℕ → Words → Fact → Fact
deposited pl y known f = if pl.declaration.variable y then stored_by pl.rules y known f else moved known f

-- DCA: the one target takes the accumulator's words and relations, or an unknown one of several its words; then the
-- accumulator is 0.
abbrev pub dca_case : Place → ℕ → Fact → Words → Option ℕ → List Successor
dca_case pl at f p (Some y) = goes pl p f (ac_of pl f) (one (plus at 1)) (deposited pl y (ac_of pl f) f)
dca_case pl at f p None =
    goes pl p f all_words (one (plus at 1)) (taking Ac (one 0) (weakly_updated p (λ y. ac_of pl f) f))

-- JMP goes to each target; JMP I through the running routine's own entry returns.
abbrev pub jmp : Place → Bool → ℕ → Fact → Words → List Successor
jmp pl i c f p =
    if i && is_routine pl.routine c then given (alive pl p f all_words f) (Returns f) else goes pl p f all_words p f

-- JMS calls each target.
abbrev pub call : Place → Fact → Words → List Successor
call pl f p = given (alive pl p f all_words f) (CallsTo p f)
