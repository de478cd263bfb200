-- What the rows TAD, DCA and those of groups 1 and 2 make of relations and chains, told piece by piece.
use Rattle.std.proofs.Common.{◌≡◌, ℕ, ◌+◌, ◌<◌, ◌≤◌, ◌==◌, Bool, true, false, not, ◌&&◌, ◌||◌, List, inl, inr, [], ◌∷◌, ◌++◌, map, drop, get_or, length, refl, sym, ap, ◌∙◌, arith}
use Rattle.std.specs.Prelude.{if◌then◌else◌, flat_map, filter, nat_lt, Option, None, Some, IsTrue, ◌↔◌}
use Rattle.std.proofs.lemmas.Bool.{eqb-true, eq-eqb, cases_lt}
use Rattle.std.specs.List.{list_any}
use Rattle.std.proofs.Math.ListN.{drop_of_length-le}
use Rattle.instruct.specs.Bits.{has_bit}
use Rattle.instruct.specs.Operates.{operate1_of}
use Rattle.wordset.specs.Words.{Words, one, only, sums, toggled, carries, all_words, shifted, some_below, has_some, images, with_word}
use Rattle.wordset.specs.Operate.{accumulator_after}
use Rattle.wordset.specs.Operate as said
use Rattle.wordset.proofs.Tests.{some_from, some_to, IsSome, both_ways, and_both, and_first, and_second}
use Rattle.wordset.specs.Lanes.{words}
use Rattle.wordset.proofs.SetLemmas.{words_past, all_past, lt_to}
use Rattle.wordset.proofs.LaneBits.{or_false}
use Rattle.wordset.proofs.Cleared.{cleared_same}
use Rattle.std.proofs.Math.Path.{fun_ext}
use Rattle.domain.specs.Locations.{Location, Ac, Cell, same, is_outside}
use Rattle.domain.specs.Terms.{Term, Holding, Sum, Summand, sum_of_name, difference_of, speaks_of, name_of_term, coefficient_in}
use Rattle.domain.specs.Chains.{Step, Chain, longer, all_longer}
use Rattle.domain.specs.Facts.{Relation, Fact, Place, Rules, OfSums, OfEquations}
use Rattle.domain.specs.Adding.{times, with_set, with_name, set_of_sum, adding, adding_all}
use Rattle.domain.specs.Narrowing.{asked_by}
use Rattle.domain.specs.Moves.{counted_sum, has_behind, moved_relation, free_of, chains_free_of, without_relations, taking}
use Rattle.transfer.specs.Additions.{names, has_ac, if_without_ac, equations_after_tad, after_tad, without_sums, summed, complemented, incremented, turned}
use Rattle.transfer.specs.Stores.{has_all_words, after_store, stored, begun_by, all_begun, has_chain_on}
use Rattle.transfer.specs.Shaped.{told, begun_at, begun_beside, if_stays, images_from}
use Rattle.transfer.specs.Outcomes.{with_link, added}
use Rattle.transfer.specs.Operations.{ac_after, link_after, images_under, tested, cleared2}
use Rattle.transfer.proofs.EntailLemmas.{drop_item}
use Rattle.transfer.proofs.EachRelation.{adding_append, put_on, append_nothing, filter_append, flat_append, map_append}

-- ---- names of which sums speak

naming_drop : {A : Type 0} (f : A → Summand) (n : Location) (xs : List A) (i : ℕ) (x : A) → i < length xs → x ≡ get_or xs i x →
    names n (map f (drop i xs)) ≡ (same (name_of_term (f x).term) n || names n (map f (drop (i + 1) xs)))
naming_drop f n xs i x lt is = ap (λ ys. names n (map f ys)) (drop_item xs i x lt is)

pub naming_found : {A : Type 0} (f : A → Summand) (n : Location) (xs : List A) (i : ℕ) (x : A) → i < length xs → x ≡ get_or xs i x → same (name_of_term (f x).term) n ≡ true →
    names n (map f (drop i xs)) ≡ names n (map f xs) → true ≡ names n (map f xs)
naming_found f n xs i x lt is has h = sym (ap (λ b. b || names n (map f (drop (i + 1) xs))) has) ∙ sym (naming_drop f n xs i x lt is) ∙ h

pub naming_step : {A : Type 0} (f : A → Summand) (n : Location) (xs : List A) (i : ℕ) (x : A) → i < length xs → x ≡ get_or xs i x → same (name_of_term (f x).term) n ≡ false →
    names n (map f (drop i xs)) ≡ names n (map f xs) → names n (map f (drop (i + 1) xs)) ≡ names n (map f xs)
naming_step f n xs i x lt is other h = sym (ap (λ b. b || names n (map f (drop (i + 1) xs))) other) ∙ sym (naming_drop f n xs i x lt is) ∙ h

-- ---- relations that are put behind others, and chains

-- What one more relation makes stands behind those of the fact.
pub told_on : {A B : Type 0} (h : A → B) (g : B → List Relation) (xs : List A) (i : ℕ) (x : A) (made more : Fact) → i < length xs → x ≡ get_or xs i x →
    more ≡ record made { relations = made.relations ++ g (h x) } →
    record more { relations = more.relations ++ flat_map g (map h (drop (i + 1) xs)) } ≡ record made { relations = made.relations ++ flat_map g (map h (drop i xs)) }
told_on h g xs i x made more lt is e =
    ap (λ (m : Fact). record m { relations = m.relations ++ flat_map g (map h (drop (i + 1) xs)) }) e
    ∙ ap (λ (rs : List Relation). record made { relations = rs }) (put_on h g xs i x made.relations (made.relations ++ g (h x)) lt is refl)

-- What all of them make stands there.
pub all_told : {A B : Type 0} (h : A → B) (g : B → List Relation) (xs : List A) (i : ℕ) (made begun : Fact) → length xs ≤ i →
    record made { relations = made.relations ++ flat_map g (map h (drop i xs)) } ≡ begun → made ≡ begun
all_told h g xs i made begun past e =
    sym (ap (λ (os : List _). record made { relations = made.relations ++ flat_map g (map h os) }) (drop_of_length-le xs {i = i} past)
    ∙ ap (λ (rs : List Relation). record made { relations = rs }) (append_nothing made.relations)) ∙ e

-- The same of chains.
pub begun_on : {A B : Type 0} (h : A → B) (g : B → List Chain) (xs : List A) (i : ℕ) (x : A) (made more : Fact) → i < length xs → x ≡ get_or xs i x →
    more ≡ record made { chains = made.chains ++ g (h x) } →
    record more { chains = more.chains ++ flat_map g (map h (drop (i + 1) xs)) } ≡ record made { chains = made.chains ++ flat_map g (map h (drop i xs)) }
begun_on h g xs i x made more lt is e =
    ap (λ (m : Fact). record m { chains = m.chains ++ flat_map g (map h (drop (i + 1) xs)) }) e
    ∙ ap (λ (cs : List Chain). record made { chains = cs }) (put_on h g xs i x made.chains (made.chains ++ g (h x)) lt is refl)

pub all_begun_on : {A B : Type 0} (h : A → B) (g : B → List Chain) (xs : List A) (i : ℕ) (made begun : Fact) → length xs ≤ i →
    record made { chains = made.chains ++ flat_map g (map h (drop i xs)) } ≡ begun → made ≡ begun
all_begun_on h g xs i made begun past e =
    sym (ap (λ (os : List _). record made { chains = made.chains ++ flat_map g (map h os) }) (drop_of_length-le xs {i = i} past)
    ∙ ap (λ (cs : List Chain). record made { chains = cs }) (append_nothing made.chains)) ∙ e

-- ---- TAD by the rules of equations

-- What a relation says after a word w was added to the accumulator.
abbrev pub moved_piece : ℕ → Relation → List Relation
moved_piece w r = if has_ac r.sum then record { sum = r.sum; set = shifted r.set w } ∷ [] else if_without_ac r

-- ---- group 1

-- What a word of group 1 makes of a list is what it makes of the first, and then of the others.
pub turned_more : (w : ℕ) (r : Relation) (rs : List Relation) → turned w (r ∷ rs) ≡ turned w (r ∷ []) ++ turned w rs
turned_more w r rs = go (has_bit 5 w) (has_bit 0 w)
  where
    go : (m p : Bool) →
        (if p then flat_map incremented (if m then flat_map complemented (r ∷ rs) else r ∷ rs) else (if m then flat_map complemented (r ∷ rs) else r ∷ rs)) ≡
        ((if p then flat_map incremented (if m then flat_map complemented (r ∷ []) else r ∷ []) else (if m then flat_map complemented (r ∷ []) else r ∷ [])) ++
        (if p then flat_map incremented (if m then flat_map complemented rs else rs) else (if m then flat_map complemented rs else rs)))
    go true true =
        flat_append incremented (complemented r) (flat_map complemented rs)
        ∙ ap (λ (x : List Relation). flat_map incremented x ++ flat_map incremented (flat_map complemented rs)) (sym (append_nothing (complemented r)))
    go true false = ap (λ (x : List Relation). x ++ flat_map complemented rs) (sym (append_nothing (complemented r)))
    go false true = ap (λ (x : List Relation). x ++ flat_map incremented rs) (sym (append_nothing (incremented r)))
    go false false = refl

-- Those that the rules keep, piece by piece.
pub kept_turned : (k : Relation → Bool) (w : ℕ) (rs : List Relation) → filter k (turned w rs) ≡ flat_map (λ r. filter k (turned w (r ∷ []))) rs
kept_turned k w [] = go (has_bit 5 w) (has_bit 0 w)
  where
    go : (m p : Bool) → filter k (if p then flat_map incremented (if m then flat_map complemented [] else []) else (if m then flat_map complemented [] else [])) ≡ []
    go true true = refl
    go true false = refl
    go false true = refl
    go false false = refl
kept_turned k w (r ∷ rs) =
    ap (filter k) (turned_more w r rs) ∙ filter_append k (turned w (r ∷ [])) (turned w rs)
    ∙ ap (λ (x : List Relation). filter k (turned w (r ∷ [])) ++ x) (kept_turned k w rs)

-- ---- chains that begin

-- Those that begin beside others, with one step, piece by piece.
pub begun_each : (p : Step) (chains : List Chain) (links : Words) (rs : List Relation) →
    all_longer p (begun_beside chains (all_begun links rs)) ≡ flat_map (λ r. all_longer p (begun_beside chains (begun_by links r.sum r.set))) rs
begun_each p chains links [] = refl
begun_each p chains links (r ∷ rs) =
    ap (map (longer p)) (filter_append _ (begun_by links r.sum r.set) (all_begun links rs))
    ∙ map_append (longer p) (begun_beside chains (begun_by links r.sum r.set)) (begun_beside chains (all_begun links rs))
    ∙ ap (λ (x : List Chain). all_longer p (begun_beside chains (begun_by links r.sum r.set)) ++ x) (begun_each p chains links rs)

-- The one that begins on a cell, where none is on it yet.
pub begun_one : (p : Step) (chains : List Chain) (f new : Fact) (c : Chain) (xs : List Chain) (made : Chain) (x k : ℕ) (links : Words) → xs ≡ begun_at (Some x) links (Some k) →
    c ≡ record { cell = x; more = k; link = links; steps = [] } → has_chain_on x chains ≡ false → made ≡ longer p c → new ≡ record f { chains = f.chains ++ made ∷ [] } →
    new ≡ record f { chains = f.chains ++ all_longer p (begun_beside chains xs) }
begun_one p chains f new c xs made x k links is ec out em en =
    let first : Chain = record { cell = x; more = k; link = links; steps = [] } in
    en ∙ ap (λ (d : Chain). record f { chains = f.chains ++ d ∷ [] }) (em ∙ ap (longer p) ec)
    ∙ ap (λ (b : Bool). record f { chains = f.chains ++ all_longer p (if not b then first ∷ [] else []) }) (sym out)
    ∙ ap (λ (cs : List Chain). record f { chains = f.chains ++ all_longer p (begun_beside chains cs) }) (sym is)

-- ---- relations that move by the words that were added to a cell

pub moved_unknown : (a : ℕ) (by : Words) (sum : Sum) (set found : Words) (f new : Fact) (o : Option ℕ) → o ≡ None → o ≡ only by → has_behind a sum ≡ false →
    found ≡ sums set (times (coefficient_in (Holding (Cell a)) sum) by) → new ≡ adding OfSums (told sum found) f → new ≡ adding_all OfSums (moved_relation a by (only by) (told sum set)) f
moved_unknown a by sum set found f new o none is out ef en =
    en ∙ ap (λ (w : Words). adding OfSums (told sum w) f) ef
    ∙ ap (λ (b : Bool). adding_all OfSums (if b then [] else told sum (sums set (times (coefficient_in (Holding (Cell a)) sum) by)) ∷ []) f) (sym out)
    ∙ ap (λ (q : Option ℕ). adding_all OfSums (moved_relation a by q (told sum set)) f) (sym none ∙ is)

pub moved_known : (a : ℕ) (by : Words) (sum counted : Sum) (set found : Words) (f new : Fact) (o : Option ℕ) (d : ℕ) → o ≡ Some d → o ≡ only by → counted ≡ counted_sum a d sum →
    found ≡ sums set (times (coefficient_in (Holding (Cell a)) sum) by) → new ≡ adding OfSums (told counted found) f → new ≡ adding_all OfSums (moved_relation a by (only by) (told sum set)) f
moved_known a by sum counted set found f new o d some is ec ef en =
    en ∙ ap (λ (s : Sum). adding OfSums (told s found) f) ec ∙ ap (λ (w : Words). adding OfSums (told (counted_sum a d sum) w) f) ef
    ∙ ap (λ (q : Option ℕ). adding_all OfSums (moved_relation a by q (told sum set)) f) (sym some ∙ is)

-- ---- relations of neither the accumulator nor a cell

or_not : (a b : Bool) → not (a || b) ≡ (not a && not b)
or_not true b = refl
or_not false b = refl

any_or : (p q : Summand → Bool) (xs : List Summand) → list_any (λ s. p s || q s) xs ≡ (list_any p xs || list_any q xs)
any_or p q [] = refl
any_or p q (x ∷ xs) = ap (λ b. (p x || q x) || b) (any_or p q xs) ∙ four (p x) (q x) (list_any p xs) (list_any q xs)
  where
    four : (a b c d : Bool) → ((a || b) || (c || d)) ≡ ((a || c) || (b || d))
    four true b c d = refl
    four false true true d = refl
    four false true false d = refl
    four false false c d = refl

filter_twice : (p q r : Relation → Bool) → ((x : Relation) → r x ≡ (q x && p x)) → (xs : List Relation) → filter r xs ≡ filter p (filter q xs)
filter_twice p q r h [] = refl
filter_twice p q r h (x ∷ xs) =
    ap (λ b. if b then x ∷ filter r xs else filter r xs) (h x)
    ∙ go (q x) (p x) refl (filter_twice p q r h xs)
  where
    go : (a b : Bool) → p x ≡ b → filter r xs ≡ filter p (filter q xs) → (if a && b then x ∷ filter r xs else filter r xs) ≡ filter p (if a then x ∷ filter q xs else filter q xs)
    go true true e same = rw e (ap (λ (ys : List Relation). x ∷ ys) same)
    go true false e same = rw e same
    go false b e same = same

-- Those that a store in the one cell leaves.
pub free_of_both : (names : Location → Bool) (y : ℕ) → ((n : Location) → names n ≡ (same n (Cell y) || same n Ac)) → (rs : List Relation) →
    free_of names rs ≡ free_of (λ n. same n Ac) (free_of (λ n. same n (Cell y)) rs)
free_of_both names y h rs =
    filter_twice (λ r. not (speaks_of (λ n. same n Ac) r.sum)) (λ r. not (speaks_of (λ n. same n (Cell y)) r.sum)) (λ r. not (speaks_of names r.sum))
    (λ r. ap not (each r.sum ∙ any_or (λ s. same (name_of_term s.term) (Cell y)) (λ s. same (name_of_term s.term) Ac) r.sum) ∙ or_not (speaks_of (λ n. same n (Cell y)) r.sum) (speaks_of (λ n. same n Ac) r.sum)) rs
  where
    each : (sum : Sum) → speaks_of names sum ≡ list_any (λ s. same (name_of_term s.term) (Cell y) || same (name_of_term s.term) Ac) sum
    each [] = refl
    each (s ∷ ss) = ap (λ b. b || speaks_of names ss) (h (name_of_term s.term)) ∙ ap (λ b. (same (name_of_term s.term) (Cell y) || same (name_of_term s.term) Ac) || b) (each ss)

-- The names of which they go: the accumulator and the one cell.
pub changing_one : (y : ℕ) → y < 4096 → (n : Location) → not (is_outside (one y) n) ≡ (same n (Cell y) || same n Ac)
changing_one y small Ac = refl
changing_one y small (Cell a) = go (a == y) refl
  where
    no : (b : Bool) → not (not (b && false)) ≡ false
    no true = refl
    no false = refl

    go : (b : Bool) → (a == y) ≡ b → not (not (nat_lt a 4096 && (a == y))) ≡ ((a == y) || false)
    go true e = (let is : a ≡ y = eqb-true a y e in let lt : nat_lt a 4096 ≡ true = lt_to a (omega (arith, is, small)) in rw (e, lt) refl)
    go false e = rw e (no (nat_lt a 4096))

-- ---- TAD and DCA as wholes

-- What the words of AC make after TAD is added first, and then what the relations make.
pub summed_is : (operand : Words) (t : Option Term) (f base mid done : Fact) (ac : Words) (sum : Sum) (rs : List Relation) → ac ≡ f.set Ac → sum ≡ sum_of_name Ac → rs ≡ f.relations →
    base ≡ without_sums f → mid ≡ adding_all OfSums (after_tad ac operand t (told sum ac)) base → done ≡ adding_all OfSums (flat_map (after_tad ac operand t) rs) mid → done ≡ summed operand t f
summed_is operand t f base mid done ac sum rs ea es er eb em ed =
    ed ∙ ap (λ (m : Fact). adding_all OfSums (flat_map (after_tad ac operand t) rs) m) em
    ∙ sym (adding_append OfSums (after_tad ac operand t (told sum ac)) (flat_map (after_tad ac operand t) rs) base)
    ∙ ap (λ (b : Fact). adding_all OfSums (flat_map (after_tad ac operand t) (told sum ac ∷ rs)) b) eb
    ∙ ap (λ (a : Words). adding_all OfSums (flat_map (after_tad a operand t) (told sum a ∷ rs)) (without_sums f)) ea
    ∙ ap (λ (s : Sum). adding_all OfSums (flat_map (after_tad (f.set Ac) operand t) (told s (f.set Ac) ∷ rs)) (without_sums f)) es
    ∙ ap (λ (r : List Relation). adding_all OfSums (flat_map (after_tad (f.set Ac) operand t) (told (sum_of_name Ac) (f.set Ac) ∷ r)) (without_sums f)) er

-- What the words of AC and of the target make after DCA is added first, and then what the relations make.
pub stored_is : (y : ℕ) (f base one_more two_more done : Fact) (by ac old : Words) (s t : Sum) (rs : List Relation) → by ≡ set_of_sum f (difference_of Ac (Cell y)) → ac ≡ f.set Ac → old ≡ f.set (Cell y) →
    s ≡ sum_of_name Ac → t ≡ sum_of_name (Cell y) → rs ≡ f.relations →
    base ≡ record f { set = with_set Ac (one 0) (with_set (Cell y) all_words f.set); relations = []; chains = [] } →
    one_more ≡ adding_all OfSums (after_store y by (told s ac)) base → two_more ≡ adding_all OfSums (after_store y by (told t old)) one_more →
    done ≡ adding_all OfSums (flat_map (after_store y by) rs) two_more → done ≡ stored y f
stored_is y f base one_more two_more done by ac old s t rs eb ea eo es et er e0 e1 e2 e3 =
    let first : List Relation = after_store y by (told s ac) in
    let second : List Relation = after_store y by (told t old) in
    let others : List Relation = flat_map (after_store y by) rs in
    let whole : (b a o : Words) (p q : Sum) (r : List Relation) (g : Fact) → Fact = λ b a o p q r g. adding_all OfSums (flat_map (after_store y b) (told p a ∷ told q o ∷ r)) g in
    e3 ∙ ap (λ (m : Fact). adding_all OfSums others m) (e2 ∙ ap (λ (m : Fact). adding_all OfSums second m) e1)
    ∙ sym (adding_append OfSums first (second ++ others) base ∙ adding_append OfSums second others (adding_all OfSums first base))
    ∙ ap (λ (g : Fact). whole by ac old s t rs g) e0
    ∙ ap (λ (b : Words). whole b ac old s t rs (record f { set = with_set Ac (one 0) (with_set (Cell y) all_words f.set); relations = []; chains = [] })) eb
    ∙ ap (λ (a : Words). whole (set_of_sum f (difference_of Ac (Cell y))) a old s t rs (record f { set = with_set Ac (one 0) (with_set (Cell y) all_words f.set); relations = []; chains = [] })) ea
    ∙ ap (λ (o : Words). whole (set_of_sum f (difference_of Ac (Cell y))) (f.set Ac) o s t rs (record f { set = with_set Ac (one 0) (with_set (Cell y) all_words f.set); relations = []; chains = [] })) eo
    ∙ ap (λ (p : Sum). whole (set_of_sum f (difference_of Ac (Cell y))) (f.set Ac) (f.set (Cell y)) p t rs (record f { set = with_set Ac (one 0) (with_set (Cell y) all_words f.set); relations = []; chains = [] })) es
    ∙ ap (λ (q : Sum). whole (set_of_sum f (difference_of Ac (Cell y))) (f.set Ac) (f.set (Cell y)) (sum_of_name Ac) q rs (record f { set = with_set Ac (one 0) (with_set (Cell y) all_words f.set); relations = []; chains = [] })) et
    ∙ ap (λ (r : List Relation). whole (set_of_sum f (difference_of Ac (Cell y))) (f.set Ac) (f.set (Cell y)) (sum_of_name Ac) (sum_of_name (Cell y)) r (record f { set = with_set Ac (one 0) (with_set (Cell y) all_words f.set); relations = []; chains = [] })) er

-- The fact before copies are added, where the relations of neither AC nor the target stay.
pub copied_base : (names : Location → Bool) (y : ℕ) (known : Words) (f : Fact) → ((n : Location) → names n ≡ (same n (Cell y) || same n Ac)) →
    with_name Ac (one 0) (with_name (Cell y) known (without_relations names f)) ≡ taking Ac (one 0) (taking (Cell y) known f)
copied_base names y known f h =
    ap (λ (rs : List Relation). record f { set = with_set Ac (one 0) (with_set (Cell y) known f.set); relations = rs; chains = chains_free_of names f.chains }) (free_of_both names y h f.relations)
    ∙ ap (λ (b : Bool). record f {
      set = with_set Ac (one 0) (with_set (Cell y) known f.set);
      relations = free_of (λ n. same n Ac) (free_of (λ n. same n (Cell y)) f.relations);
      chains = if b then [] else filter (λ c. not (names (Cell c.cell))) f.chains;
    }) (h Ac)

-- ---- words of groups 1 and 2

pub images_ac : (w : ℕ) (a l : Words) → images (accumulator_after w) a l ≡ images (ac_after w) a l
unfolding ac_after
images_ac w a l = refl

pub images_link : (w : ℕ) (a l : Words) → images (said.link_after w) a l ≡ images (link_after w) a l
unfolding link_after
images_link w a l = refl

-- What is asked before CLA or OSR is the narrowed fact.
pub tested_narrowed : (rules : Rules) (pl : Place) (w : ℕ) (f : Fact) (part : Words) (l : ℕ) → (has_bit 7 w || has_bit 2 w) ≡ true →
    tested rules pl w f part l ≡ asked_by rules pl.image (with_link (one l) (with_name Ac part f))
tested_narrowed OfSums pl w f part l e = rw e refl
tested_narrowed OfEquations pl w f part l e = refl

-- Without them it is the fact as it stands.
pub tested_as_it_is : (rules : Rules) (pl : Place) (w : ℕ) (f : Fact) (part : Words) (l : ℕ) → (has_bit 7 w || has_bit 2 w) ≡ false →
    tested rules pl w f part l ≡ with_link (one l) (with_name Ac part f)
tested_as_it_is OfSums pl w f part l e = rw e refl
tested_as_it_is OfEquations pl w f part l e = refl

-- And it stays so.
pub cleared_as_it_is : (w : ℕ) (f : Fact) → has_bit 7 w ≡ false → has_bit 2 w ≡ false → cleared2 w f ≡ f
cleared_as_it_is w f e d = rw (e, d) refl

-- All accumulators become one by CLA.
pub cleared_ac : (w x k : ℕ) → has_bit 7 w ≡ true → ac_after w x k ≡ ac_after w 0 k
unfolding ac_after
cleared_ac w x k e = ap (λ (s : ℕ × ℕ). s.0) (cleared_same w x k e)

pub cleared_link : (w x k : ℕ) → has_bit 7 w ≡ true → link_after w x k ≡ link_after w 0 k
unfolding link_after
cleared_link w x k e = ap (λ (s : ℕ × ℕ). s.1) (cleared_same w x k e)

-- So one of them is enough.
pub one_is_enough : (w l k : ℕ) (a : Words) → has_bit 7 w ≡ true → has_some a ≡ true → images_from w l (one 0) k ≡ images_from w l a k
one_is_enough w l k a e some = fun_ext (λ v. both_ways (images_from w l (one 0) k v) (images_from w l a k v) (there v) (back v))
  where
    test : ℕ → ℕ → Bool
    test v x = (ac_after w x k == v) && (link_after w x k == l)

    same_test : (v x : ℕ) → test v x ≡ test v 0
    same_test v x = ap (λ n. (n == v) && (link_after w x k == l)) (cleared_ac w x k e) ∙ ap (λ n. (ac_after w 0 k == v) && (n == l)) (cleared_link w x k e)

    there : (v : ℕ) → images_from w l (one 0) k v ≡ true → images_from w l a k v ≡ true
    there v q =
        let s : IsSome 4096 (λ x. one 0 x && test v x) = some_to 4096 (λ x. one 0 x && test v x) q in
        let t : IsSome 4096 a = some_to 4096 a some in
        some_from 4096 (λ x. a x && test v x) t.at t.small
        (and_both (a t.at) (test v t.at) t.holds (same_test v t.at ∙ sym (same_test v s.at) ∙ and_second (one 0 s.at) (test v s.at) s.holds))

    back : (v : ℕ) → images_from w l a k v ≡ true → images_from w l (one 0) k v ≡ true
    back v q =
        let s : IsSome 4096 (λ x. a x && test v x) = some_to 4096 (λ x. a x && test v x) q in
        some_from 4096 (λ x. one 0 x && test v x) 0 (omega arith)
        (and_both (one 0 0) (test v 0) refl (sym (same_test v s.at) ∙ and_second (a s.at) (test v s.at) s.holds))

ac_of_pair : (w x k : ℕ) (r : ℕ × ℕ) → r ≡ operate1_of w (x, k) → ac_after w x k ≡ r.0
unfolding ac_after
ac_of_pair w x k r e = sym (ap (λ (s : ℕ × ℕ). s.0) e)

link_of_pair : (w x k : ℕ) (r : ℕ × ℕ) → r ≡ operate1_of w (x, k) → link_after w x k ≡ r.1
unfolding link_after
link_of_pair w x k r e = sym (ap (λ (s : ℕ × ℕ). s.1) e)

-- What it makes of one accumulator is put in where the link comes out so, and else nothing.
pub image_put : (w x k l : ℕ) (r : ℕ × ℕ) (old new : Words) → r ≡ operate1_of w (x, k) → (r.1 == l) ≡ true → new ≡ with_word r.0 old →
    (v : ℕ) → new v ≡ (old v || ((ac_after w x k == v) && (link_after w x k == l)))
image_put w x k l r old new is same put v =
    let ac : ac_after w x k ≡ r.0 = ac_of_pair w x k r is in
    let link : link_after w x k ≡ l = link_of_pair w x k r is ∙ eqb-true r.1 l same in
    ap (λ (s : Words). s v) put ∙ ap (λ b. old v || b) (both_ways (v == r.0) ((ac_after w x k == v) && (link_after w x k == l))
    (λ e. and_both (ac_after w x k == v) (link_after w x k == l) (eq-eqb (ac_after w x k) v (ac ∙ sym (eqb-true v r.0 e))) (eq-eqb (link_after w x k) l link))
    (λ e. eq-eqb v r.0 (sym (eqb-true (ac_after w x k) v (and_first (ac_after w x k == v) (link_after w x k == l) e)) ∙ ac)))

pub image_left : (w x k l : ℕ) (r : ℕ × ℕ) (old : Words) → r ≡ operate1_of w (x, k) → (r.1 == l) ≡ false →
    (v : ℕ) → old v ≡ (old v || ((ac_after w x k == v) && (link_after w x k == l)))
image_left w x k l r old is other v =
    sym (ap (λ n. old v || ((ac_after w x k == v) && (n == l))) (link_of_pair w x k r is) ∙ ap (λ b. old v || ((ac_after w x k == v) && b)) other ∙ go (old v) (ac_after w x k == v))
  where
    go : (a b : Bool) → (a || (b && false)) ≡ a
    go true b = refl
    go false true = refl
    go false false = refl

-- Both links together.
pub under_both : (w l : ℕ) (a links : Words) (v : ℕ) → ((links 1 && images_from w l a 1 v) || (links 0 && images_from w l a 0 v)) ≡ images_under w l a links v
unfolding some_below
under_both w l a links v = ap (λ b. (links 1 && images_from w l a 1 v) || b) (sym (or_false (links 0 && images_from w l a 0 v)))

-- A set that is not empty has a word.
pub some_there : (a : Words) (empty : Bool) → empty ≡ not (has_some a) → empty ≡ false → has_some a ≡ true
some_there a empty is not_so = go (has_some a) (sym is ∙ not_so)
  where
    go : (b : Bool) → not b ≡ false → b ≡ true
    go true e = refl
    go false e = sym e

-- What a word of group 1 makes of one relation, stage by stage.
turned_one : (w : ℕ) (r : Relation) →
    turned w (r ∷ []) ≡ (if has_bit 0 w then flat_map incremented (if has_bit 5 w then complemented r else r ∷ []) else (if has_bit 5 w then complemented r else r ∷ []))
turned_one w r = go (has_bit 5 w)
  where
    go : (m : Bool) → (if has_bit 0 w then flat_map incremented (if m then flat_map complemented (r ∷ []) else r ∷ []) else (if m then flat_map complemented (r ∷ []) else r ∷ [])) ≡
        (if has_bit 0 w then flat_map incremented (if m then complemented r else r ∷ []) else (if m then complemented r else r ∷ []))
    go true = ap (λ (x : List Relation). if has_bit 0 w then flat_map incremented x else x) (append_nothing (complemented r))
    go false = refl

-- One that CMA takes away is gone.
pub turned_gone : (w : ℕ) (r m : Relation) (s : Bool) → s ≡ false → if_stays s m ≡ (if has_bit 5 w then complemented r else r ∷ []) → [] ≡ turned w (r ∷ [])
turned_gone w r m s gone e =
    let none : [] ≡ (if has_bit 5 w then complemented r else r ∷ []) = sym (ap (λ b. if_stays b m) gone) ∙ e in
    go (has_bit 0 w) ∙ ap (λ (x : List Relation). if has_bit 0 w then flat_map incremented x else x) none ∙ sym (turned_one w r)
  where
    go : (b : Bool) → [] ≡ (if b then flat_map incremented [] else [])
    go true = refl
    go false = refl

-- One that it leaves is counted up by IAC.
pub turned_on : (w : ℕ) (r m last : Relation) (s t : Bool) → s ≡ true → if_stays s m ≡ (if has_bit 5 w then complemented r else r ∷ []) → if_stays t last ≡ (if has_bit 0 w then incremented m else m ∷ []) →
    if_stays t last ≡ turned w (r ∷ [])
turned_on w r m last s t stays e d =
    let some : m ∷ [] ≡ (if has_bit 5 w then complemented r else r ∷ []) = sym (ap (λ b. if_stays b m) stays) ∙ e in
    d ∙ go (has_bit 0 w) ∙ ap (λ (x : List Relation). if has_bit 0 w then flat_map incremented x else x) some ∙ sym (turned_one w r)
  where
    go : (b : Bool) → (if b then incremented m else m ∷ []) ≡ (if b then flat_map incremented (m ∷ []) else m ∷ [])
    go true = sym (append_nothing (incremented m))
    go false = refl

-- A relation stays unless it speaks of the accumulator.
pub stays_unless : (b : Bool) (r : Relation) → if_stays (not b) r ≡ (if b then [] else r ∷ [])
stays_unless true r = refl
stays_unless false r = refl

-- Those that stay and are kept by the rules.
pub kept_none : (k : Relation → Bool) (s : Bool) (r : Relation) (xs : List Relation) → s ≡ false → if_stays s r ≡ xs → [] ≡ filter k xs
kept_none k s r xs gone e = ap (filter k) (sym (ap (λ b. if_stays b r) gone) ∙ e)

pub kept_if : (k : Relation → Bool) (s b : Bool) (r : Relation) (xs : List Relation) → s ≡ true → if_stays s r ≡ xs → b ≡ k r → if_stays b r ≡ filter k xs
kept_if k s b r xs stays e h =
    go b h ∙ ap (filter k) (sym (ap (λ b. if_stays b r) stays) ∙ e)
  where
    go : (b : Bool) → b ≡ k r → if_stays b r ≡ filter k (r ∷ [])
    go true h = rw (sym h) refl
    go false h = rw (sym h) refl

pub neither_first : (a b : Bool) → (a || b) ≡ false → a ≡ false
neither_first false b e = refl
neither_first true b e = e

pub neither_second : (a b : Bool) → (a || b) ≡ false → b ≡ false
neither_second false b e = e
neither_second true b e = absurd (cc)

-- TAD by the rules of equations, step by step.
pub added_is : (known operand : Words) (t : Option Term) (f base related named done : Fact) (a w : Option ℕ) (rs : List Relation) (ac links : Words) → base ≡ record f { relations = []; chains = [] } →
    a ≡ only known → w ≡ only operand → rs ≡ f.relations → related ≡ record base { relations = equations_after_tad t a w rs } → ac ≡ sums known operand → named ≡ with_name Ac ac related →
    links ≡ toggled f.link (carries known operand) → done ≡ record named { link = links } → done ≡ added known operand t f
added_is known operand t f base related named done a w rs ac links e0 ea ew er e1 es e2 el e3 =
    e3 ∙ ap (λ (k : Words). record named { link = k }) el
    ∙ ap (λ (h : Fact). record h { link = toggled f.link (carries known operand) })
    (e2 ∙ ap (λ (s : Words). with_name Ac s related) es ∙ ap (λ (h : Fact). with_name Ac (sums known operand) h)
    (e1 ∙ ap (λ (h : Fact). record h { relations = equations_after_tad t a w rs }) e0
    ∙ ap (λ o. record f { relations = equations_after_tad t o w rs; chains = [] }) ea
    ∙ ap (λ o. record f { relations = equations_after_tad t (only known) o rs; chains = [] }) ew
    ∙ ap (λ (r : List Relation). record f { relations = equations_after_tad t (only known) (only operand) r; chains = [] }) er))

-- ---- tests one behind the other

pub first_fails : (a b : Bool) → a ≡ false → false ≡ (a && b)
first_fails false b e = refl
first_fails true b e = absurd (cc)

pub second_fails : (a b c : Bool) → b ≡ false → false ≡ (a && (b && c))
second_fails true false c e = refl
second_fails false b c e = refl
second_fails true true c e = absurd (cc)

pub both_hold : (a b c : Bool) → a ≡ true → b ≡ true → c ≡ (a && (b && c))
both_hold true true c e d = refl
both_hold true false c e d = absurd (cc)
both_hold false b c e d = absurd (cc)

-- A set that is empty has no word.
pub none_there : (a : Words) (empty : Bool) → empty ≡ not (has_some a) → empty ≡ true → has_some a ≡ false
none_there a empty is so = go (has_some a) (sym is ∙ so)
  where
    go : (b : Bool) → not b ≡ true → b ≡ false
    go false e = refl
    go true e = sym e

-- All words are there, or not.
pub all_there : (a : Words) → a ≡ all_words → has_all_words a ≡ true
all_there a e = ap has_all_words e ∙ whole
  where
    whole : has_all_words all_words ≡ true
    whole = go (some_below 4096 (λ v. not (all_words v))) refl
      where
        go : (b : Bool) → some_below 4096 (λ v. not (all_words v)) ≡ b → not b ≡ true
        go false q = refl
        go true q =
            let t : IsSome 4096 (λ v. not (all_words v)) = some_to 4096 (λ v. not (all_words v)) q in
            let small : t.at < 4096 = t.small in
            let has : all_words t.at ≡ true = lt_to t.at small in
            sym (sym t.holds ∙ ap not has)

pub not_all_there : (lanes : List ℕ) (r : Bool) → r ≡ false → (IsTrue r ↔ (words lanes ≡ all_words)) → has_all_words (words lanes) ≡ false
not_all_there lanes r not_so when = go (some_below 4096 (λ v. not (words lanes v))) refl
  where
    each : some_below 4096 (λ v. not (words lanes v)) ≡ false → (v : ℕ) → v < 4096 → (b : Bool) → words lanes v ≡ b → b ≡ true
    each q v h true e = refl
    each q v h false e = sym q ∙ some_from 4096 (λ v. not (words lanes v)) v h (ap not e)

    go : (b : Bool) → some_below 4096 (λ v. not (words lanes v)) ≡ b → not b ≡ false
    go true q = refl
    go false q =
        let whole : words lanes ≡ all_words = fun_ext (λ v. elim (cases_lt v 4096) [
          | inl l ↦ (let has : all_words v ≡ true = lt_to v l in each q v l (words lanes v) refl ∙ sym has)
          | inr g ↦ words_past lanes v g ∙ sym (all_past v g)
        ]) in
        sym (when.1 whole) ∙ not_so
