-- One of the facts of a valid certificate holds wherever a declared run may go on, and the program is safe.
use Rattle.std.proofs.Common.{◌≡◌, ℕ, None, Some, List, [], ◌∷◌, sym, subst, inl}
use Rattle.processor.specs.Cells.{Cells}
use Rattle.processor.specs.Machine.{State, Answer, instruction}
use Rattle.processor.specs.Runs.{IsStart}
use Rattle.declaration.specs.Declaration.{PlaceAssertion, ReturnAssertion, IsDeclared, IsListed}
use Rattle.policy.proofs.LegalLemmas.{unasserted}
use Rattle.facts.specs.Conditions.{EachIsHeld, EachIsHeldBy}
use Rattle.policy.specs.Calls.{Calls, calls_after}
use Rattle.policy.specs.Runs.{DeclaredRun}
use Rattle.domain.specs.Facts.{Fact, Place}
use Rattle.domain.specs.Laws.{IsBegun}
use Rattle.facts.proofs.StartedLemmas.{start_is_begun}
use Rattle.judge.specs.Landing.{Case, place_in, exits_of, asked, asked_at}
use Rattle.judge.specs.Conditions.{EachFact, ExitsAreHeld, IsValid}
use Rattle.judge.specs.Headline.{ProgramsAreSafe, UnlistedReadsAreFree, UnassertedIsFree}
use Rattle.judge.specs.Laws.{IsTrueAt, FactsHoldInRuns, FactsHoldInEvents}
use Rattle.judge.proofs.Induction.{Invariant, keeps}
use Rattle.judge.proofs.Legal.{starts, runs_are_safe}
use Rattle.judge.proofs.Worlds.{MayGoOn, ready_all, events_are_safe}

module _ (j : Case) (dd : IsDeclared j.declaration) (valid : IsValid j) (start : Cells) (begun : IsBegun j.image start) where
  all_true : (answers : List Answer) (s t : State) (ks ls : Calls) → Invariant j dd valid start begun s ks → DeclaredRun j.declaration answers s ks t ls → IsTrueAt j start t ls
  all_true [] s t ks ls inv run = subst (λ x. IsTrueAt j start t x) run.1 (subst (λ x. IsTrueAt j start x ks) run.0 inv.means)
  all_true (q ∷ qs) s t ks ls inv run = all_true qs run.0 t (calls_after j.declaration s ks) ls (keeps j dd valid start begun s run.0 q ks inv run.2 run.1) run.3

pub facts_hold_in_runs : FactsHoldInRuns
facts_hold_in_runs j dd valid s t ls answers start run =
    all_true j dd valid s.memory (start_is_begun (place_in j None) j.declaration.start s start) answers s t [] ls (starts j dd valid s start) run

pub facts_hold_in_events : FactsHoldInEvents
facts_hold_in_events j dd valid w x ls events load run running =
    let start : IsStart j.image j.declaration.start w.state = load.state in
    let begun : IsBegun j.image w.state.memory = start_is_begun (place_in j None) j.declaration.start w.state start in
    let inv : Invariant j dd valid w.state.memory begun x.state ls =
    ready_all j dd valid w.state.memory begun events w x [] ls (λ on. starts j dd valid w.state start) run (subst (λ o. MayGoOn j.declaration o) (sym running) tt) in
    inv.means

pub programs_are_safe : ProgramsAreSafe
programs_are_safe j dd valid = record { runs = runs_are_safe j dd valid; events = events_are_safe j dd valid }

-- Without a list of reads nothing is asked of them.
each_fact : (p : Fact → Type 0) (fs : List Fact) → ((f : Fact) → p f) → EachFact p fs
each_fact p [] h = tt
each_fact p (f ∷ fs) h = (h f, each_fact p fs h)

pub unlisted_reads_are_free : UnlistedReadsAreFree
unlisted_reads_are_free j e = (
  λ a r body. each_fact _ (asked_at j r a) (λ f w lt possible b small read. inl (unlisted b)),
  λ s ks a q. inl (unlisted a),
)
  where
    unlisted : (a : ℕ) → IsListed j.declaration.reads a
    unlisted a = subst (λ r. IsListed r a) (sym e) tt

-- Where nothing is asserted nothing is asked of it.
none_held : (pl : Place) (f : Fact) (a : ℕ) (hs : List PlaceAssertion) → hs ≡ [] → EachIsHeld pl f a hs
none_held pl f a [] e = tt
none_held pl f a (h ∷ hs) e = cc

none_held_by : (pl : Place) (f : Fact) (e o : ℕ) (rs : List ReturnAssertion) → rs ≡ [] → EachIsHeldBy pl f e o rs
none_held_by pl f e o [] q = tt
none_held_by pl f e o (r ∷ rs) q = cc

pub unreturned_is_held : (j : Case) (e : ℕ) → j.declaration.returns ≡ [] → ExitsAreHeld j e
unreturned_is_held j e none o lt = each_fact _ (asked j.certificate.rules j.image (exits_of j e o)) (λ x. none_held_by (place_in j (Some e)) x e o j.declaration.returns none)

pub unasserted_is_free : UnassertedIsFree
unasserted_is_free j holds returns = (
  λ a. (
    λ r body. each_fact _ (asked_at j r a) (λ f w lt possible. none_held (place_in j r) f a j.declaration.holds holds),
    unreturned_is_held j a returns,
  ),
  λ s ks. unasserted j.declaration (instruction j.declaration.profile s) s ks holds returns,
)
