-- The fault of a text of events, as one function of its lines, and that no other fits.
use Rattle.std.proofs.Common.{ℕ, ◌≡◌, ◌≢◌, ◌<◌, ◌≤◌, ◌+◌, List, [], ◌∷◌, ◌++◌, length, arith, refl, subst, sym, ◌∙◌, ap, Option, Some, None, cond, ltb, Result, Ok, Err, IfOk, IfErr, ◌⊎◌, inl, inr, append_assoc, append-nil, add-zero, length-append}
use Rattle.std.proofs.lemmas.Bool.{cases_lt, le-ltb, lt-ltb}
use Rattle.peripherals.specs.declared.Event.{Event}
use Rattle.peripherals.specs.declared.event_text.EventsFault.{EventsFault}
use Rattle.peripherals.specs.declared.event_text.EventsFault.TheVariants.{BadLine, TooMany, NoMemory}
use Rattle.peripherals.specs.Repeated.{Adds}
use Rattle.peripherals.specs.Laws.{EventsAreOne, EventsFaultIsOne, EventsAreNoFault, EachEventTextIsAnswered}
use Rattle.streams.specs.Text.{text_lines}
use Rattle.streams.specs.Taking.{TakesAll, RefusesFirst}
use Rattle.streams.proofs.TakingLemmas.{takes_keep}
use Rattle.peripherals.specs.EventText.{LinesSpell, Spells, GoodBefore, LineFails, FailsAtLine, Fails, line_events, most_bytes, most_events}

-- one good line more
pub LinesSpell-push : (ls : List (List ℕ)) (es : List Event) (l : List ℕ) (more : List Event) → LinesSpell ls es → line_events l ≡ Some more → LinesSpell (ls ++ l ∷ []) (es ++ more)
LinesSpell-push [] es l more none is = (more, [], is, refl, ap (λ z. z ++ more) none ∙ sym (append-nil more))
LinesSpell-push (x ∷ ls) es l more spells is =
    (spells.0, spells.1 ++ more, spells.2, LinesSpell-push ls spells.1 l more spells.3 is, ap (λ z. z ++ more) spells.4 ∙ append_assoc spells.0 spells.1 more)

-- the fault at a line and after it, where so many lines and events came before and at most so many events are taken
abbrev after : ℕ → Option (List Event) → ℕ → ℕ → (ℕ → ℕ → Option EventsFault) → Option EventsFault
after most None n had go = Some (BadLine (n + 1))
after most (Some more) n had go = cond (ltb most (had + length more)) (Some TooMany) (go (n + 1) (had + length more))

abbrev verdict : ℕ → ℕ → ℕ → List (List ℕ) → Option EventsFault
verdict most n had [] = None
verdict most n had (l ∷ ls) = after most (line_events l) n had (λ m h. verdict most m h ls)

-- good lines bring no fault
verdict-good : (most : ℕ) (before rest : List (List ℕ)) (n had : ℕ) (es : List Event) → LinesSpell before es → had + length es ≤ most → verdict most n had (before ++ rest) ≡ verdict most (n + length before) (had + length es) rest
verdict-good most [] rest n had es none few =
    let zero : length es ≡ 0 = ap length none in
    let same : had + length es ≡ had = omega arith in
    rw (same, add-zero) refl
verdict-good most (l ∷ ls) rest n had es spells few =
    let long : length es ≡ length spells.0 + length spells.1 = ap length spells.4 ∙ length-append spells.0 spells.1 in
    let within : had + length spells.0 ≤ most = omega arith in
    let ih = verdict-good most ls rest (n + 1) (had + length spells.0) spells.1 spells.3 (omega arith) in
    let lines : (n + 1) + length ls ≡ n + length (l ∷ ls) = omega arith in
    let events : (had + length spells.0) + length spells.1 ≡ had + length es = omega arith in
    rw (spells.2, le-ltb most (had + length spells.0) within) (ih ∙ rw (lines, events) refl)

-- all lines good: no fault
pub verdict-spells : (text : List ℕ) (es : List Event) → Spells text es → verdict most_events 0 0 (text_lines text) ≡ None
verdict-spells text es s =
    let whole : text_lines text ++ [] ≡ text_lines text = append-nil (text_lines text) in
    rw whole at (verdict-good most_events (text_lines text) [] 0 0 es s.spells (omega (arith, s.few)))

-- where a line stands after good ones, the fault is that of its line or after it
verdict-at : (text : List ℕ) (before : List (List ℕ)) (line : List ℕ) (number : ℕ) (es : List Event) (g : GoodBefore text before line number es) → verdict most_events 0 0 (text_lines text) ≡ verdict most_events (0 + length before) (0 + length es) (line ∷ g.stands.after)
verdict-at text before line number es g = rw g.stands.stands (verdict-good most_events before (line ∷ g.stands.after) 0 0 es g.spells (omega (arith, g.few)))

verdict-bad : (text : List ℕ) (number : ℕ) → FailsAtLine text (BadLine number) → verdict most_events 0 0 (text_lines text) ≡ Some (BadLine number)
verdict-bad text number f =
    let place : 0 + length f.before + 1 ≡ number = omega (arith, f.fails.0, f.good.stands.counted) in
    verdict-at text f.before f.line f.number f.events f.good ∙ (rw (f.fails.1) (ap (λ n. Some (BadLine n)) place))

verdict-limit : (text : List ℕ) → FailsAtLine text TooMany → verdict most_events 0 0 (text_lines text) ≡ Some TooMany
verdict-limit text f =
    let many : most_events < 0 + length f.events + length f.fails.0 = omega (arith, f.fails.2) in
    verdict-at text f.before f.line f.number f.events f.good ∙ (rw (f.fails.1, lt-ltb most_events (0 + length f.events + length f.fails.0) many) refl)

-- a text that spells events fails by want of memory alone
pub only_memory : (text : List ℕ) (es : List Event) (fault : EventsFault) → Spells text es → Fails text fault → fault ≡ NoMemory
only_memory text es (BadLine number) s f = let a = verdict-spells text es s in let b = verdict-bad text number f in absurd (cc)
only_memory text es TooMany s (inl long) = absurd (omega (arith, s.short))
only_memory text es TooMany s (inr f) = let a = verdict-spells text es s in let b = verdict-limit text f in absurd (cc)
only_memory text es NoMemory s f = refl

-- of two faults of a text one is want of memory, or they are one
pub same_fault : (text : List ℕ) (f g : EventsFault) → Fails text f → Fails text g → f ≢ NoMemory → (g ≡ f) ⊎ (g ≡ NoMemory)
same_fault text NoMemory g a b known = absurd (known refl)
same_fault text (BadLine n) NoMemory a b known = inr refl
same_fault text (BadLine n) (BadLine m) a b known = let p = verdict-bad text n a in let q = verdict-bad text m b in inl (cc)
same_fault text (BadLine n) TooMany a (inl long) known = absurd (omega (arith, a.good.short))
same_fault text (BadLine n) TooMany a (inr b) known = let p = verdict-bad text n a in let q = verdict-limit text b in inl (cc)
same_fault text TooMany NoMemory a b known = inr refl
same_fault text TooMany TooMany a b known = inl refl
same_fault text TooMany (BadLine m) (inl long) b known = absurd (omega (arith, b.good.short))
same_fault text TooMany (BadLine m) (inr a) b known = let p = verdict-bad text m b in let q = verdict-limit text a in inl (cc)

-- the same of the answer of a reading
pub only_from : {V : Type 0} (r : Result V EventsFault) (text : List ℕ) → IfErr r (Fails text) → (es : List Event) → Spells text es → IfErr r (λ fault. fault ≡ NoMemory)
only_from (Ok v) text refused es s = tt
only_from (Err fault) text refused es s = only_memory text es fault s refused

pub exact_from : {V : Type 0} (items : V → List Event) (r : Result V EventsFault) (text : List ℕ) → IfOk r (λ v. Spells text (items v)) → IfErr r (Fails text) → (fault : EventsFault) → Fails text fault → fault ≢ NoMemory → (r ≡ Err fault) ⊎ (r ≡ Err NoMemory)
exact_from items (Ok v) text found refused fault f known = absurd (known (only_memory text (items v) fault found f))
exact_from items (Err other) text found refused fault f known = elim (same_fault text fault other f refused known) [ inl e ↦ inl (ap Err e) | inr e ↦ inr (ap Err e) ]

-- lines that are taken spell the events that they add
abbrev Spelt : List (List ℕ) → List Event → Type 0
Spelt lines events = LinesSpell lines events × (length events ≤ most_events)

spelt_more : (before : List (List ℕ)) (line : List ℕ) (es fs : List Event) → Spelt before es → Adds es line fs → Spelt (before ++ line ∷ []) fs
spelt_more before line es fs s a = (rw (a.added) (LinesSpell-push before es line a.more s.0 a.brings), a.few)

pub spelt : {S : Type 0} (list : S → List Event) (s t : S) (lines : List (List ℕ)) → list s ≡ [] → TakesAll (λ x line y. Adds (list x) line (list y)) s lines t → Spelt lines (list t)
spelt list s t lines none all =
    takes_keep (λ x line y. Adds (list x) line (list y)) (λ ls x. Spelt ls (list x)) (λ before line x y p a. spelt_more before line (list x) (list y) p a) lines s t (none, omega (arith, ap length none)) all

-- a text is spelt where all lines are taken, and fails where one is refused
pub spells_text : {S : Type 0} (list : S → List Event) (s t : S) (text : List ℕ) → length text ≤ most_bytes → list s ≡ [] → TakesAll (λ x line y. Adds (list x) line (list y)) s (text_lines text) t → Spells text (list t)
spells_text list s t text short none all = let spelt' = spelt list s t (text_lines text) none all in record { short = short; spells = spelt'.0; few = spelt'.1 }

at_line : (text : List ℕ) (fault : EventsFault) → FailsAtLine text fault → Fails text fault
at_line text (BadLine n) f = f
at_line text TooMany f = inr f
at_line text NoMemory f = f

pub fails_text : {S : Type 0} (list : S → List Event) (s u : S) (text : List ℕ) (fault : EventsFault) → length text ≤ most_bytes → list s ≡ []
    → RefusesFirst (λ x line y. Adds (list x) line (list y)) (λ x number line f y. LineFails (list x) number line f) s (text_lines text) fault u → Fails text fault
fails_text list s u text fault short none f =
    let good = spelt list s f.t f.before none f.taken in
    at_line text fault (record { before = f.before; line = f.line; number = f.number; events = list f.t; good = record { short = short; stands = f.stands; spells = good.0; few = good.1 }; fails = f.refused })

-- ---- each text has one answer

-- lines spell one list of events
lines_are_one : (ls : List (List ℕ)) (es fs : List Event) → LinesSpell ls es → LinesSpell ls fs → es ≡ fs
lines_are_one [] es fs a b = a ∙ sym b
lines_are_one (l ∷ ls) es fs a b =
    let first : a.0 ≡ b.0 = let p = a.2 in let q = b.2 in cc in
    let others : a.1 ≡ b.1 = lines_are_one ls a.1 b.1 a.3 b.3 in
    a.4 ∙ (ap (λ z. z ++ a.1) first ∙ (ap (λ z. b.0 ++ z) others ∙ sym b.4))

pub events_are_one : EventsAreOne
events_are_one text es fs a b = lines_are_one (text_lines text) es fs a.spells b.spells

pub fault_is_one : EventsFaultIsOne
fault_is_one text f g known also a b = elim (same_fault text f g a b known) [ inl e ↦ sym e | inr e ↦ absurd (also e) ]

pub events_are_no_fault : EventsAreNoFault
events_are_no_fault text es fault known spells fails = known (only_memory text es fault spells fails)

abbrev IsAnswered : List ℕ → Type 0
IsAnswered text = ((events : List Event) × Spells text events) ⊎ ((fault : EventsFault) × (fault ≢ NoMemory) × Fails text fault)

bad_is_none : (n : ℕ) → BadLine n ≢ NoMemory
bad_is_none n e = cc

many_is_none : TooMany ≢ NoMemory
many_is_none e = cc

-- a line after good ones is bad, brings too many events, or is good too
at_next : (text : List ℕ) (before : List (List ℕ)) (l : List ℕ) (ls : List (List ℕ)) (es : List Event) → length text ≤ most_bytes → text_lines text ≡ before ++ l ∷ ls → LinesSpell before es → length es ≤ most_events
    → (o : Option (List Event)) → line_events l ≡ o → ((more : List Event) → line_events l ≡ Some more → length (es ++ more) ≤ most_events → IsAnswered text) → IsAnswered text
at_next text before l ls es short is spells few None none go =
    let good : GoodBefore text before l (length before + 1) es = record { short = short; stands = record { after = ls; stands = is; counted = refl }; spells = spells; few = few } in
    inr (BadLine (length before + 1), bad_is_none (length before + 1), record { before = before; line = l; number = length before + 1; events = es; good = good; fails = (refl, none) })
at_next text before l ls es short is spells few (Some more) brings go = elim (cases_lt most_events (length es + length more)) [
  | inl beyond ↦
      let good : GoodBefore text before l (length before + 1) es = record { short = short; stands = record { after = ls; stands = is; counted = refl }; spells = spells; few = few } in
      inr (TooMany, many_is_none, inr (record { before = before; line = l; number = length before + 1; events = es; good = good; fails = (more, brings, beyond) }))
  | inr within ↦ go more brings (omega (arith, within, length-append es more))
]

each_from : (text : List ℕ) (before rest : List (List ℕ)) (es : List Event) → length text ≤ most_bytes → text_lines text ≡ before ++ rest → LinesSpell before es → length es ≤ most_events → IsAnswered text
each_from text before [] es short is spells few =
    let all : text_lines text ≡ before = is ∙ append-nil before in
    inl (es, record { short = short; spells = subst (λ ls. LinesSpell ls es) (sym all) spells; few = few })
each_from text before (l ∷ ls) es short is spells few =
    at_next text before l ls es short is spells few (line_events l) refl
    (λ more brings within. each_from text (before ++ l ∷ []) ls (es ++ more) short (is ∙ sym (append_assoc before (l ∷ []) ls)) (LinesSpell-push before es l more spells brings) within)

pub each_is_answered : EachEventTextIsAnswered
each_is_answered text = elim (cases_lt most_bytes (length text)) [
  | inl long ↦ inr (TooMany, many_is_none, inl long)
  | inr short ↦ each_from text [] (text_lines text) [] short refl refl (omega arith)
]
