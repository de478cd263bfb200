-- What was found of one claimed fact, from what the code read, put and asked.
use Rattle.std.proofs.Common.{◌≡◌, ℕ, ◌+◌, ◌*◌, ◌<◌, ◌≤◌, ◌==◌, Bool, true, false, not, Some, List, [], ◌∷◌, length, drop, map, suc, refl, sym, ap, ◌∙◌, subst, inl, inr, arith}
use Rattle.std.proofs.Math.ListN.{drop_of_length-le}
use Rattle.std.specs.Prelude.{IsTrue, ◌↔◌, if◌then◌else◌}
use Rattle.std.proofs.lemmas.Bool.{true≢false, false≢true, cases_lt, eqb-true}
use Rattle.wordset.specs.Words.{Words, HasNoneFrom, IsFirstFrom}
use Rattle.processor.specs.Runs.{Image}
use Rattle.declaration.specs.Declaration.{Routine, ReturnAssertion}
use Rattle.declaration.specs.DeclarationInCode.{return_assertion_of}
use Rattle.declaration.specs.declared.ReturnAssertion.{ReturnAssertion as KeptReturnAssertion}
use Rattle.domain.specs.Facts.{Fact, Place, Rules, OfEquations, OfSums}
use Rattle.facts.specs.Conditions.{EachIsHeldBy}
use Rattle.facts.specs.Landing.{fact_at}
use Rattle.facts.proofs.SplitLemmas.{fact_dropped}
use Rattle.certificate_lines.specs.Certificate.{has_any}
use Rattle.domain.specs.Adding.{is_void}
use Rattle.domain.specs.CellsInCode.{cell_sets_of}
use Rattle.domain.specs.RelationsInCode.{relations_of}
use Rattle.domain.specs.Chains.{Chain}
use Rattle.domain.specs.ChainsInCode.{chain_of, AreShort}
use Rattle.domain.specs.FactInCode.{fact_in_code}
use Rattle.transfer.specs.Shaped.{HaveFewTerms}
use Rattle.domain.specs.Narrowing.{narrowed}
use Rattle.domain.specs.declared.sum_fact.SumFact.{SumFact}
use Rattle.facts.proofs.KeepingLemmas.{narrowed_few, narrowed_short, narrowed_chains}
use Rattle.judge.specs.Landing.{Case, place_in, sites_of, sited, asked}
use Rattle.judge.specs.Conditions.{EachFact, ExitsAreHeld}
use Rattle.judge.specs.Shapes.{HasShape, IsRoomy}
use Rattle.judge.specs.Sources.{sited_one}
use Rattle.judge.specs.Bodies.{IsOfBody}
use Rattle.judge.specs.Asked.{ExitIsHeld, ExitsAreHeldBy, HoldsOfFact, asked_of, IsLeastPlace, IsLeastOf}
use Rattle.judge.proofs.SourceLemmas.{sited_alone}
use Rattle.judge.proofs.AskedLemmas.{of_one, of_none, asked_first, each_both, exits_held}

-- ---- the fact that is asked

pub asked_sums : (rules : Rules) (image : Image) (f g : Fact) (b : Bool) → rules ≡ OfSums → g ≡ narrowed image f → b ≡ is_void g → asked rules image (f ∷ []) ≡ (if not b then g ∷ [] else [])
asked_sums rules image f g b sums is void = ap (λ (k : Rules). asked k image (f ∷ [])) sums ∙ go b (void ∙ ap is_void is)
  where
    go : (x : Bool) → x ≡ is_void (narrowed image f) → asked OfSums image (f ∷ []) ≡ (if not x then g ∷ [] else [])
    go true v = rw (← v) refl
    go false v = rw (← v, is) refl

pub asked_equations : (rules : Rules) (image : Image) (f g : Fact) → rules ≡ OfEquations → g ≡ f → asked rules image (f ∷ []) ≡ g ∷ []
asked_equations rules image f g equations is = ap (λ (k : Rules). asked k image (f ∷ [])) equations ∙ ap (λ (x : Fact). x ∷ []) (sym is)

pub asked_alone : (j : Case) (r : Routine) (own : Rules) (sites : Words) (f g h : Fact) (xs : List Fact) → own ≡ j.certificate.rules → sites ≡ sites_of j.certificate r → g ≡ f → h ≡ sited_one own sites g →
    asked own j.image (h ∷ []) ≡ xs → asked_of j r (f ∷ []) ≡ xs
asked_alone j r own sites f g h xs rules same read put told =
    let here : h ≡ sited_one j.certificate.rules (sites_of j.certificate r) f =
    put ∙ (ap (λ (k : Rules). sited_one k sites g) rules ∙ (ap (λ (s : Words). sited_one j.certificate.rules s g) same ∙ ap (λ (x : Fact). sited_one j.certificate.rules (sites_of j.certificate r) x) read)) in
    ap (λ (ys : List Fact). asked j.certificate.rules j.image ys) (sited_alone j.certificate.rules (sites_of j.certificate r) f ∙ ap (λ (x : Fact). x ∷ []) (sym here)) ∙
    (ap (λ (k : Rules). asked k j.image (h ∷ [])) (sym rules) ∙ told)

pub same_point : (i j : Case) (q r : Routine) (b a : ℕ) (g h : Fact) (limit place : ℕ) → i ≡ j → q ≡ r → b ≡ a → g ≡ h → IsLeastPlace (λ v. HoldsOfFact i v q b g) limit place → IsLeastPlace (λ v. HoldsOfFact j v r a h) limit place
same_point i j q r b a g h limit place case routine at fact k =
    subst (λ (x : Fact). IsLeastPlace (λ v. HoldsOfFact j v r a x) limit place) fact
    (subst (λ (x : ℕ). IsLeastPlace (λ v. HoldsOfFact j v r x g) limit place) at
    (subst (λ (x : Routine). IsLeastPlace (λ v. HoldsOfFact j v x b g) limit place) routine
    (subst (λ (x : Case). IsLeastPlace (λ v. HoldsOfFact x v q b g) limit place) case k)))

-- whether it is where it may be
allowed : (j : Case) (r : Routine) (own : Rules) (f g : Fact) (t : Bool) → own ≡ j.certificate.rules → g ≡ f → (IsTrue t ↔ IsOfBody own r g) → IsTrue t ↔ IsOfBody j.certificate.rules r f
allowed j r own f g t rules read told = subst (λ (x : Fact). IsTrue t ↔ IsOfBody j.certificate.rules r x) read (subst (λ (k : Rules). IsTrue t ↔ IsOfBody k r g) rules told)

pub not_asked : (j : Case) (r : Routine) (a : ℕ) (own : Rules) (sites : Words) (f g h k : Fact) (limit : ℕ) (t b : Bool) → 2 ≤ limit → own ≡ j.certificate.rules → sites ≡ sites_of j.certificate r → g ≡ f → t ≡ true → (IsTrue t ↔ IsOfBody own r g) →
    h ≡ sited_one own sites g → asked own j.image (h ∷ []) ≡ (if b then k ∷ [] else []) → b ≡ false → IsLeastOf j r a f limit limit
not_asked j r a own sites f g h k limit t b low rules same read is told put chosen none =
    inr ((allowed j r own f g t rules read told).0 is, of_none j r a f limit low (asked_alone j r own sites f g h [] rules same read put (chosen ∙ ap (λ (x : Bool). if x then k ∷ [] else []) none)))

pub is_asked : (j : Case) (r : Routine) (a : ℕ) (own : Rules) (sites : Words) (f g h k : Fact) (limit place : ℕ) (t b : Bool) → own ≡ j.certificate.rules → sites ≡ sites_of j.certificate r → g ≡ f → t ≡ true → (IsTrue t ↔ IsOfBody own r g) →
    h ≡ sited_one own sites g → asked own j.image (h ∷ []) ≡ (if b then k ∷ [] else []) → b ≡ true → IsLeastPlace (λ v. HoldsOfFact j v r a k) limit place → IsLeastOf j r a f limit place
is_asked j r a own sites f g h k limit place t b rules same read is told put chosen some least =
    inr ((allowed j r own f g t rules read told).0 is, of_one j r a f k limit place (asked_alone j r own sites f g h (k ∷ []) rules same read put (chosen ∙ ap (λ (x : Bool). if x then k ∷ [] else []) some)) least)

-- ---- room

mapped : {A B : Type 0} (f : A → B) (xs : List A) → length (map f xs) ≡ length xs
mapped f [] = refl
mapped f (x ∷ xs) = ap suc (mapped f xs)

chain_count : {C R : ℕ} (g : SumFact C R) (cs : List Chain) → (fact_in_code g).chains ≡ cs → length g.chains.items ≡ length cs
chain_count g cs is = sym (mapped chain_of g.chains.items) ∙ ap length is

pub narrowed_roomy : {C R D S : ℕ} (image : Image) (g : SumFact C R) (f : SumFact D S) → HasShape (fact_in_code f) → length (cell_sets_of f.cells) ≤ 64 → length (relations_of f.relations) ≤ 32 →
    fact_in_code g ≡ narrowed image (fact_in_code f) →
    length (cell_sets_of g.cells) ≤ length (cell_sets_of f.cells) + 2 * length (relations_of f.relations) + length f.chains.items →
    length (relations_of g.relations) ≤ 2 * length (relations_of f.relations) + length f.chains.items → IsRoomy g
narrowed_roomy image g f shape cells relations is more_cells more_relations =
    let count : length g.chains.items ≡ length (fact_in_code f).chains = chain_count g (fact_in_code f).chains (ap (λ (x : Fact). x.chains) is ∙ narrowed_chains image (fact_in_code f)) in
    let own : length f.chains.items ≡ length (fact_in_code f).chains = chain_count f (fact_in_code f).chains refl in
    let few : length (fact_in_code f).chains ≤ 4 = shape.few in
    record {
      terms = subst (λ (x : Fact). HaveFewTerms x.relations) (sym is) (narrowed_few image (fact_in_code f) shape.terms);
      short = subst (λ (x : Fact). AreShort x.chains) (sym is) (narrowed_short image (fact_in_code f) shape.short);
      cells = omega (arith, cells, relations, more_cells, own, few);
      relations = omega (arith, relations, more_relations, own, few);
      chains = omega (arith, relations, more_relations, count, own, few);
    }

pub narrowing_fits : {D S : ℕ} (f : SumFact D S) → HasShape (fact_in_code f) → length f.chains.items ≤ 4
narrowing_fits f shape = let own : length f.chains.items ≡ length (fact_in_code f).chains = chain_count f (fact_in_code f).chains refl in omega (arith, own, shape.few)

-- ---- what is to hold at returns

pub empty_returns : (xs : List KeptReturnAssertion) (rs : List ReturnAssertion) → map return_assertion_of xs ≡ rs → (length xs == 0) ≡ true → rs ≡ []
empty_returns [] rs are none = sym are
empty_returns (x ∷ xs) rs are none = absurd (omega (arith, eqb-true (length (x ∷ xs)) 0 none))

-- one exit after another
module _ (j : Case) (e o : ℕ) where
  abbrev one_held : Fact → Type 0
  one_held y = EachIsHeldBy (place_in j (Some e)) y e o j.declaration.returns

  abbrev pub HeldBehind : List Fact → ℕ → Type 0
  HeldBehind xs i = EachFact one_held (asked j.certificate.rules j.image (drop i xs)) ↔ EachFact one_held (asked j.certificate.rules j.image xs)

  split : (xs : List Fact) (i : ℕ) → i < length xs → EachFact one_held (asked j.certificate.rules j.image (drop i xs)) ↔ (ExitIsHeld j e o (fact_at xs i) × EachFact one_held (asked j.certificate.rules j.image (drop (i + 1) xs)))
  split xs i lt = subst (λ (ys : List Fact). EachFact one_held (asked j.certificate.rules j.image ys) ↔ (ExitIsHeld j e o (fact_at xs i) × EachFact one_held (asked j.certificate.rules j.image (drop (i + 1) xs)))) (sym (fact_dropped xs i lt))
      (subst (λ (ys : List Fact). EachFact one_held ys ↔ (ExitIsHeld j e o (fact_at xs i) × EachFact one_held (asked j.certificate.rules j.image (drop (i + 1) xs)))) (sym (asked_first j.certificate.rules j.image (fact_at xs i) (drop (i + 1) xs)))
      (each_both one_held (asked j.certificate.rules j.image (fact_at xs i ∷ [])) (asked j.certificate.rules j.image (drop (i + 1) xs))))

  pub one_is_held : (xs : List Fact) (i : ℕ) (x : Fact) → i < length xs → x ≡ fact_at xs i → ExitIsHeld j e o x → HeldBehind xs i → HeldBehind xs (i + 1)
  one_is_held xs i x lt is held h = (
    λ k. h.0 ((split xs i lt).1 (subst (ExitIsHeld j e o) is held, k)),
    λ k. ((split xs i lt).0 (h.1 k)).1,
  )

  pub one_is_not : (xs : List Fact) (i : ℕ) (x : Fact) → i < length xs → x ≡ fact_at xs i → (ExitIsHeld j e o x → ⊥) → HeldBehind xs i → IsTrue false ↔ EachFact one_held (asked j.certificate.rules j.image xs)
  one_is_not xs i x lt is not h = (
    λ q. absurd (false≢true q),
    λ k. absurd (not (subst (ExitIsHeld j e o) (sym is) ((split xs i lt).0 (h.1 k)).0)),
  )

  pub all_are_held : (xs : List Fact) (i : ℕ) → length xs ≤ i → HeldBehind xs i → IsTrue true ↔ EachFact one_held (asked j.certificate.rules j.image xs)
  all_are_held xs i past h = (λ q. h.0 (subst (λ (ys : List Fact). EachFact one_held (asked j.certificate.rules j.image ys)) (sym (drop_of_length-le xs past)) (none_asked j.certificate.rules j.image)), λ k. refl)
    where
      none_asked : (rules : Rules) (image : Image) → EachFact one_held (asked rules image [])
      none_asked OfSums image = tt
      none_asked OfEquations image = tt

  -- the exits have the sites that were read
  pub by_sites : (s : Words) (t : Bool) → s ≡ j.certificate.sites e → IsTrue t ↔ EachFact one_held (asked j.certificate.rules j.image (sited j.certificate.rules s (j.certificate.exits e o))) → IsTrue t ↔ ExitsAreHeldBy j e o
  by_sites s t same told = subst (λ (x : Words). IsTrue t ↔ EachFact one_held (asked j.certificate.rules j.image (sited j.certificate.rules x (j.certificate.exits e o)))) same told

-- offset after offset
abbrev pub HeldBefore : Case → ℕ → ℕ → Type 0
HeldBefore j e n = (o : ℕ) → o < n → o < 64 → ExitsAreHeldBy j e o

no_exit_for : (j : Case) (e o : ℕ) → has_any (j.certificate.exits e o) ≡ false → ExitsAreHeldBy j e o
no_exit_for j e o empty = exits_held j e o (none (j.certificate.exits e o) empty)
  where
    none : (xs : List Fact) → has_any xs ≡ false → xs ≡ []
    none [] h = refl
    none (x ∷ xs) h = absurd (true≢false h)

pub held_further : (j : Case) (e n o : ℕ) → IsFirstFrom n (λ x. has_any (j.certificate.exits e x)) o → ExitsAreHeldBy j e o → HeldBefore j e n → HeldBefore j e (o + 1)
held_further j e n o first held before x lt small = elim (cases_lt x n) [
  | inl l ↦ before x l small
  | inr g ↦ elim (cases_lt x o) [
    | inl under ↦ no_exit_for j e x (first.before x g under)
    | inr past ↦ (let q : o ≡ x = omega (arith, lt, past) in subst (λ y. ExitsAreHeldBy j e y) q held)
  ]
]

pub held_everywhere : (j : Case) (e n : ℕ) → HasNoneFrom n (λ x. has_any (j.certificate.exits e x)) → HeldBefore j e n → IsTrue true ↔ ExitsAreHeld j e
held_everywhere j e n none before = (
  λ q o small. elim (cases_lt o n) [ inl l ↦ before o l small | inr g ↦ no_exit_for j e o (none o g (omega (arith, small))) ],
  λ l. refl,
)

pub not_held : (j : Case) (e o : ℕ) → o < 64 → (ExitsAreHeldBy j e o → ⊥) → IsTrue false ↔ ExitsAreHeld j e
not_held j e o small not = (λ q. absurd (false≢true q), λ l. absurd (not (l o small)))

-- the one exit of which conditions are asked, if they are
pub held_if_asked : (j : Case) (e o : ℕ) (own : Rules) (p : Place) (x y : Fact) (b t : Bool) → own ≡ j.certificate.rules → p ≡ place_in j (Some e) → asked own j.image (x ∷ []) ≡ (if b then y ∷ [] else []) → b ≡ true →
    IsTrue t ↔ EachIsHeldBy p y e o p.declaration.returns → IsTrue t ↔ ExitIsHeld j e o x
held_if_asked j e o own p x y b t rules place are is told =
    let one : asked j.certificate.rules j.image (x ∷ []) ≡ y ∷ [] = ap (λ (k : Rules). asked k j.image (x ∷ [])) (sym rules) ∙ (are ∙ ap (λ (k : Bool). if k then y ∷ [] else []) is) in
    subst (λ (ys : List Fact). IsTrue t ↔ EachFact (λ z. EachIsHeldBy (place_in j (Some e)) z e o j.declaration.returns) ys) (sym one)
    (let here : IsTrue t ↔ EachIsHeldBy (place_in j (Some e)) y e o j.declaration.returns = subst (λ (q : Place). IsTrue t ↔ EachIsHeldBy q y e o q.declaration.returns) place told in (λ q. (here.0 q, tt), λ k. here.1 k.0))

pub held_unasked : (j : Case) (e o : ℕ) (own : Rules) (x y : Fact) (b : Bool) → own ≡ j.certificate.rules → asked own j.image (x ∷ []) ≡ (if b then y ∷ [] else []) → b ≡ false → IsTrue true ↔ ExitIsHeld j e o x
held_unasked j e o own x y b rules are is =
    let none : asked j.certificate.rules j.image (x ∷ []) ≡ [] = ap (λ (k : Rules). asked k j.image (x ∷ [])) (sym rules) ∙ (are ∙ ap (λ (k : Bool). if k then y ∷ [] else []) is) in
    subst (λ (ys : List Fact). IsTrue true ↔ EachFact (λ z. EachIsHeldBy (place_in j (Some e)) z e o j.declaration.returns) ys) (sym none) (λ q. tt, λ k. refl)

pub claimed_roomy : {D S : ℕ} (f : SumFact D S) → HasShape (fact_in_code f) → length (cell_sets_of f.cells) ≤ 64 → length (relations_of f.relations) ≤ 32 → IsRoomy f
claimed_roomy f shape cells relations = record {
  terms = shape.terms;
  short = shape.short;
  cells = omega (arith, cells);
  relations = omega (arith, relations);
  chains = omega (arith, relations, narrowing_fits f shape);
}
