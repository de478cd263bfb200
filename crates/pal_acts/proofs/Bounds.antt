-- The values of a source are words, where its numbers and its permanent symbols are.
use Rattle.std.proofs.Common.{◌≡◌, ◌∙◌, sym, ap, ℕ, ◌/◌, ◌%◌, ◌<◌, ◌≤◌, List, [], ◌∷◌, ◌++◌, Bool, true, false, Option, Some, None, Result, Ok, Err, inl, inr, arith, subst, length, bit_or, if◌then◌else◌}
use Rattle.std.specs.Prelude.{reverse, nat_lt, nat_eq, unwrap_or, ok_or, not, ◌&&◌, codes}
use Rattle.std.specs.List.{AllByRecursion, list_all}
use Rattle.std.specs.Option.{option_and_then}
use Rattle.std.specs.Map.{lookup}
use Rattle.std.proofs.lemmas.Bool.{cases_Bool, cases_lt, ltb-true, cond_both}
use Rattle.std.proofs.lemmas.Nat.{or_lt}
use Rattle.std.proofs.lemmas.Option.{slice_get_past}
use Rattle.bin_tape.specs.Image.{HoldsWords, word_at}
use Rattle.pal_text.specs.declared.names.Name.{Name}
use Rattle.pal_text.proofs.Rises.{all_reverse}
use Rattle.pal_acts.specs.declared.act.Sign.{Sign}
use Rattle.pal_acts.specs.declared.act.Sign.TheVariants.{Plus, Minus, Or}
use Rattle.pal_acts.specs.declared.act.ExpressionTerm.{ExpressionTerm}
use Rattle.pal_acts.specs.declared.act.ExpressionTerm.TheVariants.{Number, Symbol, Here}
use Rattle.pal_acts.specs.declared.act.SignedTerm.{SignedTerm}
use Rattle.pal_acts.specs.declared.act.Act.{Act}
use Rattle.pal_acts.specs.declared.act.Act.TheVariants as act
use Rattle.pal_acts.specs.declared.act.SourcePlace.{SourcePlace}
use Rattle.pal_acts.specs.declared.act.PlacedWord.{PlacedWord}
use Rattle.pal_acts.specs.declared.fault_code.FaultCode.{FaultCode}
use Rattle.pal_acts.specs.declared.fault_code.FaultCode.TheVariants.{Undefined}
use Rattle.pal_acts.specs.Acts.{PlacedAct}
use Rattle.pal_acts.specs.Values.{same, Values, known, term_value, joined, value_after, value, needed}
use Rattle.pal_acts.specs.Meaning.{location_after, location, Defines, nothing, one_more}
use Rattle.pal_acts.specs.Words.{Marked, named, references, is_one_of, is_mark, marks_after, marks, addressed, reference, word_value, word_of}
use Rattle.pal_acts.specs.Sources.{with_word, words, last_at, IsSource}
use Rattle.pal_acts.proofs.Grown.{Grown, as_before, with_one, taken_grown}

-- a word, or nothing
abbrev pub Below : Option ℕ → Type 0
Below None = Unit {0}
Below (Some v) = v < 4096

abbrev BelowOk : Result ℕ FaultCode → Type 0
BelowOk (Ok v) = v < 4096
BelowOk (Err c) = Unit {0}

-- a number is a word
abbrev pub IsWordTerm : ExpressionTerm → Type 0
IsWordTerm (Number w) = w < 4096
IsWordTerm _ = Unit {0}

-- the numbers of an expression are words
abbrev pub Numbers : List SignedTerm → Type 0
Numbers js = AllByRecursion (λ j. IsWordTerm j.term) js

-- and so are those of acts
abbrev pub HasNumbers : PlacedAct → Type 0
HasNumbers a = Numbers a.terms

-- the values of a table are words
abbrev pub Entries : List (Name × ℕ) → Type 0
Entries t = AllByRecursion (λ e. e.1 < 4096) t

pub entries_of : (t : List (Name × ℕ)) → list_all (λ e. nat_lt e.1 4096) t ≡ true → Entries t
entries_of [] h = tt
entries_of (e ∷ t) h = elim (cases_Bool (nat_lt e.1 4096)) [
  | inl is ↦ (ltb-true e.1 4096 is, entries_of t (rw is at h))
  | inr not ↦ cc (rw not at h)
]

entries_append : (t u : List (Name × ℕ)) → Entries t → Entries u → Entries (t ++ u)
entries_append [] u h k = k
entries_append (e ∷ t) u h k = (h.0, entries_append t u h.1 k)

table_below : (t : List (Name × ℕ)) → Entries t → (n : Name) → Below (lookup (same n) t)
table_below [] h n = tt
table_below (e ∷ t) h n = elim (cases_Bool (same n e.0)) [
  | inl is ↦ rw is h.0
  | inr not ↦ rw not (table_below t h.1 n)
]

-- ---- expressions

or_below : (a b : ℕ) → a < 4096 → b < 4096 → bit_or a b < 4096
or_below a b h k = or_lt 12 a b h k

joined_below : (s : Sign) (a b : ℕ) → a < 4096 → b < 4096 → joined s a b < 4096
joined_below Plus a b h k = omega arith
joined_below Minus a b h k = omega arith
joined_below Or a b h k = or_below a b h k

module _ (σ : Values) (given : (n : Name) → Below (σ n)) where
  term_below : (here : ℕ) (t : ExpressionTerm) → here < 4096 → IsWordTerm t → Below (term_value σ here t)
  term_below here (Number w) h k = k
  term_below here (Symbol n) h k = given n
  term_below here Here h k = h

  then_below : (f : ℕ → Option ℕ) (o : Option ℕ) → Below o → ((v : ℕ) → v < 4096 → Below (f v)) → Below (option_and_then f o)
  then_below f None h k = tt
  then_below f (Some v) h k = k v h

  value_below : (here a : ℕ) (js : List SignedTerm) → here < 4096 → a < 4096 → Numbers js → Below (value_after σ here a js)
  value_below here a [] h k all = k
  value_below here a (j ∷ js) h k all =
      then_below (λ v. value_after σ here (joined j.sign a v) js) (term_value σ here j.term) (term_below here j.term h all.0)
      (λ v lt. value_below here (joined j.sign a v) js h (joined_below j.sign a v k lt) all.1)

  zero_below : (o : Option ℕ) → Below o → unwrap_or o 0 < 4096
  zero_below None h = omega arith
  zero_below (Some v) h = h

  after_below : (here : ℕ) (e : List SignedTerm) (a : Act) → here < 4096 → Numbers e → location_after σ here e a < 4096
  after_below here e act.Origin h all = zero_below (value σ here e) (value_below here 0 e h (omega arith) all)
  after_below here e act.Word h all = omega arith
  after_below here e _ h all = h

  pub location_below : (acts : List PlacedAct) → AllByRecursion HasNumbers acts → location σ acts < 4096
  location_below [] all = omega arith
  location_below (a ∷ before) all = after_below (location σ before) a.terms a.act (location_below before all.1) all.0

  -- ---- words

  plain_below : (o : Option ℕ) → Below o → BelowOk (ok_or o Undefined)
  plain_below None h = tt
  plain_below (Some v) h = h

  addressed_below : (b : ℕ) (zero : Bool) (here a : ℕ) → b < 4096 → a < 4096 → BelowOk (addressed b zero here a)
  addressed_below b zero here a h k =
      cond_both (nat_lt a 128) _ _ BelowOk (λ is. or_below b a h k)
      (λ not. cond_both zero _ _ BelowOk (λ is. tt)
      (λ other. cond_both (nat_eq (a / 128) (here / 128)) _ _ BelowOk (λ is. or_below (bit_or b 128) (a % 128) (or_below b 128 h (omega arith)) (omega arith)) (λ is. tt)))

  needed_below : (o : Option ℕ) (f : ℕ → Result ℕ FaultCode) → Below o → ((v : ℕ) → v < 4096 → BelowOk (f v)) → BelowOk (needed o f)
  needed_below None f h k = tt
  needed_below (Some v) f h k = k v h

  base_below : (operation : ℕ) (indirect : Bool) → operation < 4096 → (if indirect then bit_or operation 256 else operation) < 4096
  base_below operation true h = or_below operation 256 h (omega arith)
  base_below operation false h = h

  reference_below : (here : ℕ) (o : Option ℕ) (m : Marked) → here < 4096 → Below o → Numbers m.address → BelowOk (reference σ here o m)
  reference_below here o m h k all =
      needed_below o _ k (λ operation lt. needed_below (value σ here m.address) _ (value_below here 0 m.address h (omega arith) all)
      (λ a small. addressed_below (if m.indirect then bit_or operation 256 else operation) m.zero here a (base_below operation m.indirect lt) small))

  abbrev Marks : Marked → Type 0
  Marks m = Numbers m.address

  marks_below : (i z : Bool) (js : List SignedTerm) → Numbers js → Marks (marks_after i z js)
  marks_below i z [] all = tt
  marks_below i z (j ∷ js) all =
      cond_both (not i && is_mark (named (codes "I     ")) j) _ _ Marks (λ is. marks_below true z js all.1)
      (λ other. cond_both (not z && is_mark (named (codes "Z     ")) j) _ _ Marks (λ is. marks_below i true js all.1) (λ none. all))

  word_below : (here : ℕ) (js : List SignedTerm) → here < 4096 → Numbers js → BelowOk (word_value σ here js)
  word_below here [] h all = plain_below (value σ here []) (value_below here 0 [] h (omega arith) all)
  word_below here (j ∷ js) h all =
      cond_both (is_one_of references j.sign j.term) _ _ BelowOk (λ is. reference_below here (term_value σ here j.term) (marks js) h (term_below here j.term h all.0) (marks_below false false js all.1))
      (λ not. plain_below (value σ here (j ∷ js)) (value_below here 0 (j ∷ js) h (omega arith) all))

  -- ---- images

  abbrev AllBelow : List PlacedWord → Type 0
  AllBelow ws = AllByRecursion (λ w. w.word < 4096) ws

  abbrev BelowFound : Option (Result ℕ FaultCode) → Type 0
  BelowFound None = Unit {0}
  BelowFound (Some r) = BelowOk r

  found_below : (here : ℕ) (e : List SignedTerm) (a : Act) → here < 4096 → Numbers e → BelowFound (word_of σ here e a)
  found_below here e act.Word h all = word_below here e h all
  found_below here e _ h all = tt

  placed_below : (p : SourcePlace) (at : ℕ) (o : Option (Result ℕ FaultCode)) (before : List PlacedWord) → BelowFound o → AllBelow before → AllBelow (with_word p at o before)
  placed_below p at None before h all = all
  placed_below p at (Some (Ok v)) before h all = (h, all)
  placed_below p at (Some (Err c)) before h all = all

  pub words_below : (acts : List PlacedAct) → AllByRecursion HasNumbers acts → AllBelow (words σ acts)
  words_below [] all = tt
  words_below (a ∷ before) all =
      let here : location σ before < 4096 = location_below before all.1 in
      placed_below a.place (location σ before) (word_of σ (location σ before) a.terms a.act) (words σ before) (found_below (location σ before) a.terms a.act here all.0) (words_below before all.1)

-- what goes to an address is a word
pub last_below : (ws : List PlacedWord) (at : ℕ) → AllByRecursion (λ w. w.word < 4096) ws → Below (last_at at ws)
last_below [] at all = tt
last_below (w ∷ before) at all = cond_both (nat_eq w.at at) _ _ Below (λ is. all.0) (λ not. last_below before at all.1)

-- ---- symbols

grown_below : (own new : List (Name × ℕ)) → Entries own → Grown (λ v. v < 4096) own new → Entries new
grown_below own new h as_before = h
grown_below own all h (with_one n v lt) = entries_append own ((n, v) ∷ []) h (lt, tt)

below_some : (o : Option ℕ) (v : ℕ) → Below o → o ≡ Some v → v < 4096
below_some o v h e = subst Below e h

-- the symbols of acts are words
symbols_below : (perm : List (Name × ℕ)) (limit : ℕ) (acts : List PlacedAct) (own : List (Name × ℕ)) → Entries perm → AllByRecursion HasNumbers acts → Defines perm limit acts own → Entries own
symbols_below perm limit acts own p all nothing = tt
symbols_below perm limit acts after p all (one_more before next own new d e) =
    let old : Entries own = symbols_below perm limit before own p all.1 d in
    let σ : Values = known perm own in
    let given : (n : Name) → Below (σ n) = table_below (perm ++ own) (entries_append perm own p old) in
    let here : location σ before < 4096 = location_below σ given before all.1 in
    grown_below own new old (taken_grown (λ v. v < 4096) limit own perm (location σ before) next.terms here
    (λ v h. below_some (value σ (location σ before) next.terms) v (value_below σ given (location σ before) 0 next.terms here (omega arith) all.0) h) next.act new e)

-- the image of a source holds words
pub holds_words : (perm : List (Name × ℕ)) (limit : ℕ) (acts : List PlacedAct) (own : List (Name × ℕ)) (image : List (Option ℕ)) → Entries perm → AllByRecursion HasNumbers acts → IsSource perm limit acts own image → HoldsWords image
holds_words perm limit acts own image p all s =
    let turned : AllByRecursion HasNumbers (reverse acts) = all_reverse HasNumbers acts all in
    let entries : Entries (perm ++ own) = entries_append perm own p (symbols_below perm limit (reverse acts) own p turned s.defines) in
    let cells : (a : ℕ) → a < 4096 → Below (word_at image a) = λ a lt. subst Below (sym (s.image_is.cells a lt)) (last_below (words (known perm own) (reverse acts)) a (words_below (known perm own) (table_below (perm ++ own) entries) (reverse acts) turned)) in
    record {
      size = s.image_is.size;
      words = λ a v e. elim (cases_lt a 4096) [
        | inl lt ↦ below_some (word_at image a) v (cells a lt) e
        | inr past ↦ cc (sym e ∙ beyond image a (rw s.image_is.size past))
      ];
    }
  where
    beyond : (image : List (Option ℕ)) (a : ℕ) → length image ≤ a → word_at image a ≡ None
    beyond image a h = ap (λ o. unwrap_or o None) (slice_get_past image a h)
