-- Lines that add to what is said of a fact, in all versions, and the line of the fact itself.
use Rattle.std.proofs.Common.{◌≡◌, ℕ, ◌+◌, ◌<◌, ◌≤◌, List, [], ◌∷◌, ◌++◌, length, map, take, drop, get_or, refl, ap, ◌∙◌, sym, arith, append_assoc, append-nil}
use Rattle.std.proofs.lemmas.Bool.Decides.{nat_tests}
use Rattle.std.proofs.lemmas.List.{map_push, take_more, take_all, drop_at}
use Rattle.std.proofs.Math.Path.{fun_ext}
use Rattle.wordset.specs.Words.{Words, nothing, between, one}
use Rattle.domain.specs.Locations.{Location, Ac, Cell}
use Rattle.domain.specs.TrackedCells.{TrackedCell}
use Rattle.domain.specs.Chains.{Chain, Step as SaidStep, longer}
use Rattle.domain.specs.Facts.{Fact}
use Rattle.domain.specs.ChainsInCode.{step_of}
use Rattle.domain.specs.FactInCode.{names_words}
use Rattle.domain.specs.declared.chains.Step.{Step}
use Rattle.certificate_lines.specs.declared.runs.Run.{Run}
use Rattle.certificate_lines.specs.declared.runs.PackedRegisters.{PackedRegisters}
use Rattle.wordset.specs.Links.{links_of}
use Rattle.certificate_lines.specs.Runs.{set_of_runs, added, set_at, registers_at}
use Rattle.certificate_lines.specs.Reading.{sets_of, fact_said}
use Rattle.certificate_lines.proofs.PackedLemmas.{no_run, one_run}
use Rattle.certificate_lines.proofs.SumPackedLemmas.{set_behind}

-- The set of no run.
no_set : (runs : List Run) (n : ℕ) → n ≡ 0 → set_at runs 0 n ≡ nothing
no_set runs n none = ap (λ k. set_at runs 0 k) none ∙ fun_ext no_run

pub no_sites : (f : Fact) (runs : List Run) (n : ℕ) → n ≡ 0 → f.sites ≡ nothing → f ≡ record f { sites = set_at runs 0 n }
no_sites f runs n none e = ap (λ (s : Words). record f { sites = s }) (e ∙ sym (no_set runs n none))

-- A run of one word.
pub one_row : (n m : ℕ) → n ≡ m → between n m ≡ one n
one_row n m e = fun_ext (λ v. grind (arith, nat_tests))

-- A step more of a chain.
pub step_more : (old now new : Chain) (steps : List Step) (i : ℕ) (s : Step) → i < length steps → s ≡ get_or steps i s →
    now ≡ record old { steps = old.steps ++ map step_of (take i steps) } → new ≡ longer (step_of s) now → new ≡ record old { steps = old.steps ++ map step_of (take (i + 1) steps) }
step_more old now new steps i s h at e f =
    let t : take (i + 1) steps ≡ take i steps ++ s ∷ [] = take_more steps i s h ∙ ap (λ (x : Step). take i steps ++ x ∷ []) (sym at) in
    f ∙ (ap (longer (step_of s)) e ∙ ap (λ (x : List SaidStep). record old { steps = x })
    (append_assoc old.steps (map step_of (take i steps)) (step_of s ∷ []) ∙
    ap (λ (x : List SaidStep). old.steps ++ x) (sym (ap (map step_of) t ∙ map_push step_of (take i steps) s))))

pub steps_begun : (c : Chain) → c ≡ record c { steps = c.steps ++ [] }
steps_begun c = ap (λ (x : List SaidStep). record c { steps = x }) (sym (append-nil c.steps))

pub steps_done : (old now : Chain) (steps : List Step) (i : ℕ) → length steps ≤ i → now ≡ record old { steps = old.steps ++ map step_of (take i steps) } →
    now ≡ record old { steps = old.steps ++ map step_of steps }
steps_done old now steps i h e = e ∙ ap (λ (x : List Step). record old { steps = old.steps ++ map step_of x }) (take_all i steps h)

-- The words of each name, as code and as lines have them.
pub sets_are : (ac : Words) (cells : List TrackedCell) → names_words ac cells ≡ sets_of ac cells
sets_are ac cells = fun_ext (λ n. one_of n)
  where
    one_of : (n : Location) → names_words ac cells n ≡ sets_of ac cells n
    one_of Ac = refl
    one_of (Cell a) = refl

-- The fact that a line says without details.
pub begun_fact : (old a b c d e new : Fact) (cells : List TrackedCell) (w sites ac mq link offsets : Words) →
    a ≡ record old { set = names_words w []; relations = []; chains = []; sites = nothing; offsets = nothing } → b ≡ record a { sites = sites } →
    c ≡ record b { set = names_words ac cells } → cells ≡ [] → d ≡ record c { mq = mq } → e ≡ record d { link = link } → new ≡ record e { offsets = offsets } →
    new ≡ record { set = sets_of ac []; relations = []; chains = []; mq = mq; link = link; sites = sites; offsets = offsets }
begun_fact old a b c d e new cells w sites ac mq link offsets fa fb fc none fd fe fn =
    rw (fn, fe, fd, fc, fb, fa, none) (ap (λ (x : Location → Words). (let f : Fact =
    record { set = x; relations = []; chains = []; mq = mq; link = link; sites = sites; offsets = offsets } in f)) (sets_are ac []))

pub registers_begun : (runs : List Run) (sites before one other : ℕ) (r : PackedRegisters) (offsets : Words) → before ≡ sites → one ≡ r.sets.one → other ≡ r.sets.other →
    (let f : Fact = record {
      set = sets_of (set_at runs before one) [];
      relations = [];
      chains = [];
      mq = set_at runs (before + one) other;
      link = links_of r.link;
      sites = set_at runs 0 before;
      offsets = offsets;
    } in f) ≡ fact_said (set_at runs 0 sites) (registers_at (drop sites runs) r) offsets []
registers_begun runs sites before one other r offsets e f g =
    rw (e, f, g, set_behind runs sites 0 sites r.sets.one (omega arith), set_behind runs sites r.sets.one (sites + r.sets.one) r.sets.other refl) refl

-- The run of one word was added.
pub one_added : (old new : List Run) (w : ℕ) → w < 4096 → new ≡ old ++ record { first = w; last = w } ∷ [] → added old new ≡ one w
one_added old new w small e =
    let r : Run = record { first = w; last = w } in
    ap set_of_runs (ap (drop (length old)) e ∙ drop_at old (r ∷ []) (length old) refl) ∙ (one_run r small ∙ one_row w w refl)
