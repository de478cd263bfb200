-- What a draft says with one line more, and the declaration that it becomes.
use Rattle.std.proofs.Common.{ℕ, ◌≡◌, ◌<◌, ◌≤◌, ◌==◌, ◌&&◌, Bool, true, false, List, [], map, refl, subst, sym, ◌∙◌, ap, Option, Some, None, Result, Ok, Err}
use Rattle.std.specs.Prelude.{if◌then◌else◌, unwrap_or, ok_or, IsOk}
use Rattle.std.specs.Option.{option_map}
use Rattle.std.proofs.Math.Path.{fun_ext}
use Rattle.std.proofs.lemmas.Bool.{lt-leb, le-leb}
use Rattle.instruct.specs.declared.Profile.{Profile}
use Rattle.instruct.specs.declared.Profile.TheVariants.{Pdp8I}
use Rattle.wordset.specs.Words.{Words, nothing}
use Rattle.wordset.specs.Lanes.{words}
use Rattle.declaration.specs.Declaration.{Declaration, Routine, PlaceAssertion, ReturnAssertion, IsDeclared}
use Rattle.declaration.specs.DeclarationInCode.{Kept, subroutine_of, place_assertion_of, return_assertion_of, entries, body_of, meaning}
use Rattle.declaration.specs.Lines.{Subroutine, FurtherOffsets}
use Rattle.declaration.specs.Text.{Contents, nothing_said, unless_full, and_then, is_entry, fault_of, declaration_of, unless, whole}
use Rattle.declaration.specs.Drafts.{gathered, KeepsRules}
use Rattle.declaration.specs.declared.DeclarationFault.{DeclarationFault}
use Rattle.declaration.specs.declared.DeclarationFault.TheVariants.{NoStart, TooMany}
use Rattle.declaration.specs.declared.drafts.Draft.{Draft}
use Rattle.declaration.proofs.RuleLemmas.{any_map, cell_below, in_bodies_below, offsets_said}
use Rattle.declaration.proofs.IsDeclaredLemmas.{IsDeclared-from}

-- ---- nothing was said yet

abbrev parts : Words → List Subroutine → Words → Words → Words → List FurtherOffsets → Words → Words → List PlaceAssertion → List ReturnAssertion → Contents
parts m r v t u k n b h w = record {
  start = None;
  profile = None;
  main = m;
  routines = r;
  variable = v;
  stop = t;
  pause = u;
  reads = None;
  skips = k;
  moves = n;
  abandon = b;
  holds = h;
  returns = w;
}

pub said_nothing : {m v t u n b : Words} {r : List Subroutine} {k : List FurtherOffsets} {h : List PlaceAssertion} {w : List ReturnAssertion} → m ≡ nothing → r ≡ [] → v ≡ nothing → t ≡ nothing → u ≡ nothing → k ≡ [] → n ≡ nothing → b ≡ nothing → h ≡ [] → w ≡ []
    → parts m r v t u k n b h w ≡ nothing_said
said_nothing em er ev et eu ek en eb eh ew = rw (em, er, ev, et, eu, ek, en, eb, eh, ew) refl

-- ---- one line more

-- a list that may grow, and one that may not
pub grown : (most count : ℕ) (c d : Contents) → count < most → d ≡ c → unless_full most count c ≡ Ok d
grown most count c d few same = rw (lt-leb most count few, same) refl

pub fits : (most count : ℕ) (c : Contents) → count < most → IsOk (unless_full most count c)
fits most count c few = rw (lt-leb most count few) refl

pub full : (most count : ℕ) (c : Contents) → most ≤ count → unless_full most count c ≡ Err TooMany
full most count c many = rw (le-leb most count many) refl

-- a start or a machine, the first and a second
pub first_time : (named : Bool) (fault : DeclarationFault) (c d : Contents) → named ≡ false → d ≡ c → (if named then Err fault else Ok c) ≡ Ok d
first_time named fault c d first same = rw (first, same) refl

pub second_time : (named : Bool) (fault : DeclarationFault) (c : Contents) → named ≡ true → (if named then Err fault else Ok c) ≡ Err fault
second_time named fault c second = rw second refl

-- ---- the declaration that a draft becomes

abbrev pub kept : {A : Type 0} → Draft A → ℕ → Profile → Kept
kept d start profile = record {
  start = start;
  profile = profile;
  main = d.main;
  routines = d.routines.items;
  variables = d.variables;
  stops = d.stops;
  pauses = d.pauses;
  reads = d.reads;
  skips = d.skips.items;
  moves = d.moves;
  abandons = d.abandons;
  holds = d.holds.items;
  returns = d.returns.items;
}

abbrev made : {A : Type 0} → Draft A → ℕ → (Routine → Words) → Words → (ℕ → Words) → Profile → Declaration
made d start b e o p = record {
  start = start;
  body = b;
  entry = e;
  offset = o;
  variable = words d.variables;
  stop = words d.stops;
  pause = words d.pauses;
  profile = p;
  reads = option_map words d.reads;
  moves = words d.moves;
  abandon = words d.abandons;
  holds = map place_assertion_of d.holds.items;
  returns = map return_assertion_of d.returns.items;
}

same_made : {A : Type 0} (d : Draft A) (start : ℕ) {b b' : Routine → Words} {e e' : Words} {o o' : ℕ → Words} {p p' : Profile} → b ≡ b' → e ≡ e' → o ≡ o' → p ≡ p' → made d start b e o p ≡ made d start b' e' o' p'
same_made d start eb ee eo ep = rw (eb, ee, eo, ep) refl

-- it says what was said
pub same_declaration : {A : Type 0} (d : Draft A) (start : ℕ) (profile : Profile) → profile ≡ unwrap_or d.profile Pdp8I → declaration_of (gathered d) start ≡ meaning (kept d start profile)
same_declaration d start profile is =
    let body : (declaration_of (gathered d) start).body ≡ body_of (kept d start profile) = fun_ext (λ r. bodies r) in
    let entry : is_entry (gathered d) ≡ entries d.routines.items = fun_ext (λ e. any_map subroutine_of (λ r. r.entry == e) d.routines.items) in
    let offset : (declaration_of (gathered d) start).offset ≡ (meaning (kept d start profile)).offset = fun_ext (λ e. fun_ext (λ o. sym (offsets_said d.routines.items d.skips.items e o))) in
    let machine : unwrap_or d.profile Pdp8I ≡ profile = sym is in
    let all : made d start (declaration_of (gathered d) start).body (is_entry (gathered d)) (declaration_of (gathered d) start).offset (unwrap_or d.profile Pdp8I)
    ≡ made d start (body_of (kept d start profile)) (entries d.routines.items) (meaning (kept d start profile)).offset profile =
    same_made d start body entry offset machine in
    all
  where
    bodies : (r : Routine) → (declaration_of (gathered d) start).body r ≡ body_of (kept d start profile) r
    bodies None = refl
    bodies (Some e) = fun_ext (λ a. any_map subroutine_of (λ r. r.entry == e && r.body a) d.routines.items)

-- it keeps the rules
pub is_declared : {A : Type 0} (d : Draft A) (start : ℕ) (profile : Profile) → profile ≡ unwrap_or d.profile Pdp8I → KeepsRules (gathered d) start → ((e : ℕ) → is_entry (gathered d) e ≡ true → e < 4096)
    → IsDeclared (meaning (kept d start profile))
is_declared d start profile is keeps entries_fit =
    subst (λ (p : Declaration). IsDeclared p) (same_declaration d start profile is) (IsDeclared-from (gathered d) start keeps (record {
      bodies = λ a here. in_bodies_below d.main d.routines.items a here;
      entries = entries_fit;
      stops = λ a here. cell_below d.stops a here;
      pauses = λ a here. cell_below d.pauses a here;
      moves = λ a here. cell_below d.moves a here;
      abandons = λ a here. cell_below d.abandons a here;
    }))

-- ---- the whole of what is said

abbrev by_start : Contents → Option ℕ → Result Declaration DeclarationFault
by_start c start = and_then (ok_or start NoStart) (λ s. unless (fault_of c s) (declaration_of c s))

pub whole_declares : (c : Contents) (start : ℕ) (d : Declaration) → c.start ≡ Some start → fault_of c start ≡ None → declaration_of c start ≡ d → whole c ≡ Ok d
whole_declares c start d is none same = ap (by_start c) is ∙ (ap (λ f. unless f (declaration_of c start)) none ∙ ap (λ x. Ok x) same)

pub whole_fails : (c : Contents) (start : ℕ) (fault : DeclarationFault) → c.start ≡ Some start → fault_of c start ≡ Some fault → whole c ≡ Err fault
whole_fails c start fault is first = ap (by_start c) is ∙ ap (λ f. unless f (declaration_of c start)) first
