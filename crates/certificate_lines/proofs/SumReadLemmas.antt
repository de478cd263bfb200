-- Lines of all versions read field by field.
use Rattle.std.proofs.Common.{◌≡◌, ℕ, ◌+◌, ◌-◌, ◌<◌, ◌&&◌, true, false, List, [], ◌∷◌, ◌++◌, length, drop, inl, inr, refl, ap, ◌∙◌, sym, subst, arith, append_assoc, append-nil}
use Rattle.std.specs.Prelude.{codes, flat_map, nat_lt, nat_le, Option, Some, None, IfSome}
use Rattle.std.proofs.lemmas.Bool.{true≢false, false≢true, and_parts, and_from, lt-ltb, le-ltb, ltb-true, leb-true, eq-eqb, ne_eqb, cases_lt}
use Rattle.std.proofs.lemmas.Bool.Decides.{eqb_tells}
use Rattle.std.proofs.lemmas.List.{take_all}
use Rattle.word12.specs.Words.{octal_text}
use Rattle.wordset.specs.Words.{Words, all_words, one, has_some, some_below}
use Rattle.domain.specs.Locations.{Location, Ac, Cell}
use Rattle.domain.specs.Terms.{Sum, difference_of, arranged, same_sum}
use Rattle.domain.specs.Shapes.{has_shape}
use Rattle.domain.specs.Chains.{Chain, Step, Operates, Ands, Adds}
use Rattle.domain.specs.Facts.{Relation}
use Rattle.certificate_lines.specs.declared.Version.{Version}
use Rattle.certificate_lines.specs.declared.Version.TheVariants.{One, Two, Three}
use Rattle.certificate_lines.specs.declared.runs.Run.{Run}
use Rattle.certificate_lines.specs.FieldSpelling.{Registers, set_text, name_text, digits}
use Rattle.certificate_lines.specs.RisingLists.{EndsBefore, IsOfLinks, place_of_name}
use Rattle.certificate_lines.specs.FieldsLeft.{EndsField}
use Rattle.certificate_lines.specs.Runs.{added, set_of_runs, set_at}
use Rattle.certificate_lines.specs.Lines.{is_of_sums, FactIs, ExitIs, CellIs, SumIs}
use Rattle.certificate_lines.specs.Spelling.{sites_text, mq_text, words_text, offset_text, offsets_line, sum_text, word_text, equation_line, relation_line, step_text, chain_line, line_text}
use Rattle.certificate_lines.specs.LineOf.{has_registers, is_summand, is_relation, is_step, most_offsets}
use Rattle.certificate_lines.specs.Fields.{AreSteps}
use Rattle.std.specs.List.{list_all}
use Rattle.wordset.proofs.Tests.{some_from, some_none_of}
use Rattle.certificate_lines.specs.Line.{Spells}
use Rattle.certificate_lines.specs.Laws.{SitesFit, MqFits, RegistersFit, IsEquation, RelationFits}
use Rattle.certificate_lines.specs.declared.runs.PackedRegisters.{PackedRegisters}
use Rattle.certificate_lines.proofs.PackedLemmas.{runs_past}
use Rattle.certificate_lines.proofs.SumPackedLemmas.{AreSited}
use Rattle.certificate_lines.proofs.DigitLemmas.{at_some}
use Rattle.certificate_lines.proofs.SumFieldLemmas.{shape_of}
use Rattle.certificate_lines.proofs.SumLineLemmas.{one_word}

-- No set with a number past the last word.
pub added_ends : (old new : List Run) → EndsBefore 4096 (added old new)
added_ends old new v past = runs_past (drop (length old) new) v past

-- Registers whose sets and links are of their form.
pub registers_formed : (v : Version) (ac mq link : Words) (o : Option (List ℕ)) → IfSome o (λ x. has_some ac ≡ true) → IfSome o (λ x. has_some mq ≡ true) →
    IfSome o (λ x. some_below 2 link ≡ true) → IfSome o (λ x. has_registers v (record { ac = ac; mq = mq; link = link }) ≡ true)
registers_formed v ac mq link None a b c = tt
registers_formed v ac mq link (Some x) a b c = and_from (has_some ac) _ a (and_from (has_some mq) _ b c)

pub registers_fit : (v : Version) (ac mq link : Words) (o : Option (List ℕ)) → EndsBefore 4096 ac → IfSome o (λ x. MqFits v mq) → IsOfLinks link →
    IfSome o (λ x. RegistersFit v (record { ac = ac; mq = mq; link = link }))
registers_fit v ac mq link None a b c = tt
registers_fit v ac mq link (Some x) a b c = record { ac = a; mq = b; link = c }

pub registers_parts : (v : Version) (r : Registers) → has_registers v r ≡ true → (has_some r.ac ≡ true) × (has_some r.mq ≡ true) × (some_below 2 r.link ≡ true)
registers_parts v r h = let p = and_parts (has_some r.ac) _ h in let q = and_parts (has_some r.mq) _ p.1 in (p.0, q.0, q.1)

-- After what is said of MQ comes a space.
pub mq_space : (v : Version) (s : Words) (rest : List ℕ) → EndsField (mq_text v s ++ 32 ∷ rest)
mq_space One s rest = refl
mq_space Two s rest = refl
mq_space Three s rest = refl

pub words_fields : (v : Version) (r : Registers) (rest : List ℕ) → words_text v r ++ rest ≡
    codes " ac " ++ (set_text r.ac ++ (mq_text v r.mq ++ (codes " link " ++ (digits 2 r.link ++ rest))))
words_fields v r rest = five (codes " ac ") (set_text r.ac) (mq_text v r.mq) (codes " link ") (digits 2 r.link) rest
  where
    five : (a b c d e f : List ℕ) → (a ++ b ++ c ++ d ++ e) ++ f ≡ a ++ (b ++ (c ++ (d ++ (e ++ f))))
    five a b c d e f = simp append_assoc

six : (a b c d e f : List ℕ) → a ++ b ++ c ++ d ++ e ++ f ≡ a ++ (b ++ (c ++ (d ++ (e ++ (f ++ [])))))
six a b c d e f = simp (append_assoc, append-nil)

pub fact_fields : (v : Version) (a : ℕ) (s : Words) (r : Registers) (o : Words) → line_text v (FactIs a s r o) ≡
    codes "fact " ++ (octal_text a ++ (sites_text v s ++ (words_text v r ++ (codes " offsets " ++ (offsets_line v o ++ [])))))
fact_fields v a s r o = six (codes "fact ") (octal_text a) (sites_text v s) (words_text v r) (codes " offsets ") (offsets_line v o)

pub exit_fields : (v : Version) (e o : ℕ) (s : Words) (r : Registers) → line_text v (ExitIs e o s r) ≡
    codes "exit " ++ (octal_text e ++ (codes " " ++ (offset_text v o ++ (sites_text v s ++ (words_text v r ++ [])))))
exit_fields v e o s r = six (codes "exit ") (octal_text e) (codes " ") (offset_text v o) (sites_text v s) (words_text v r)

pub sum_line_fields : (r : Relation) → relation_line Three r ≡ codes "sum " ++ ((sum_text r.sum ++ codes " in ") ++ (set_text r.set ++ []))
sum_line_fields r = four (codes "sum ") (sum_text r.sum) (codes " in ") (set_text r.set)
  where
    four : (a b c d : List ℕ) → a ++ b ++ c ++ d ≡ a ++ ((b ++ c) ++ (d ++ []))
    four a b c d = simp (append_assoc, append-nil)

pub chain_fields : (c : Chain) → chain_line c ≡
    codes "func " ++ (octal_text c.cell ++ (codes " " ++ (octal_text c.more ++ (codes " link " ++ (digits 2 c.link ++ flat_map step_text c.steps)))))
chain_fields c = seven (codes "func ") (octal_text c.cell) (codes " ") (octal_text c.more) (codes " link ") (digits 2 c.link) (flat_map step_text c.steps)
  where
    seven : (a b c d e f g : List ℕ) → a ++ b ++ c ++ d ++ e ++ f ++ g ≡ a ++ (b ++ (c ++ (d ++ (e ++ (f ++ g)))))
    seven a b c d e f g = simp append_assoc

-- The steps of a chain of its form, before which stands a space.
pub steps_formed : (ps : List Step) → (nat_le 1 (length ps) && (nat_le (length ps) 16 && list_all is_step ps)) ≡ true → AreSteps ps
steps_formed ps h = let p = and_parts (nat_le 1 (length ps)) _ h in let q = and_parts (nat_le (length ps) 16) _ p.1 in
    record { some = leb-true 1 (length ps) p.0; few = leb-true (length ps) 16 q.0; form = q.1 }

pub spaced_steps : (ps : List Step) → EndsField (flat_map step_text ps)
spaced_steps [] = tt
spaced_steps (Operates w ∷ ps) = refl
spaced_steps (Ands w ∷ ps) = refl
spaced_steps (Adds w ∷ ps) = refl

-- The set that is written nowhere has a word.
pub all_some : (old now : Option (List ℕ)) (s : Words) → IfSome now (λ r. (old ≡ Some r) × (s ≡ all_words)) → IfSome now (λ r. has_some s ≡ true)
all_some old None s h = tt
all_some old (Some r) s h = rw h.1 (some_from 4096 all_words 0 (omega arith) refl)

-- The runs of one set, and what is known of it once nothing is left.
pub one_laid : (old new : List Run) (n : ℕ) → old ≡ [] → length old + n ≡ length new → set_at new 0 n ≡ added old new
one_laid old new n none e =
    let z : length old ≡ 0 = ap length none in
    let k : 0 + n - 0 ≡ length new = omega (arith, z, e) in
    ap set_of_runs (rw k (take_all (length new) new (omega arith)) ∙ sym (ap (λ i. drop i new) z))

-- The line of a routine, a cell or a sum.
pub cell_spelled : (v : Version) (a : ℕ) (s : Words) (line : List ℕ) → a < 4096 → has_some s ≡ true → EndsBefore 4096 s →
    line ≡ codes "cell " ++ octal_text a ++ codes " " ++ set_text s → Spells v (CellIs (record { address = a; set = s })) line
cell_spelled v a s line small some ends e = record { form = and_from (nat_lt a 4096) _ (lt-ltb a 4096 small) some; fits = ends; text = e }

pub sum_spelled : (r : Relation) (line : List ℕ) → is_relation r.sum ≡ true → has_some r.set ≡ true → EndsBefore 4096 r.set →
    line ≡ codes "sum " ++ sum_text r.sum ++ codes " in " ++ set_text r.set → Spells Three (SumIs r) line
sum_spelled r line form some ends e = record { form = and_from (is_relation r.sum) _ form some; fits = ends; text = e }

pub fact_spelled : (v : Version) (a : ℕ) (s : Words) (r : Registers) (o : Words) (line : List ℕ) → a < 4096 → SitesFit v s → has_registers v r ≡ true → RegistersFit v r →
    EndsBefore (most_offsets v) o → line ≡ codes "fact " ++ octal_text a ++ sites_text v s ++ words_text v r ++ codes " offsets " ++ offsets_line v o → Spells v (FactIs a s r o) line
fact_spelled v a s r o line small sites form fits ends e =
    record { form = and_from (nat_lt a 4096) _ (lt-ltb a 4096 small) form; fits = (sites, fits, ends); text = e }

pub exit_spelled : (v : Version) (e o : ℕ) (s : Words) (r : Registers) (line : List ℕ) → e < 4096 → o < most_offsets v → SitesFit v s → has_registers v r ≡ true → RegistersFit v r →
    line ≡ codes "exit " ++ octal_text e ++ codes " " ++ offset_text v o ++ sites_text v s ++ words_text v r → Spells v (ExitIs e o s r) line
exit_spelled v e o s r line small few sites form fits is =
    record { form = and_from (nat_lt e 4096) _ (lt-ltb e 4096 small) (and_from (nat_lt o (most_offsets v)) _ (lt-ltb o (most_offsets v) few) form); fits = (sites, fits); text = is }

-- Where there were no runs before, those that were added are all.
pub sited_whole : (old new : List Run) (n : ℕ) (r : PackedRegisters) (s : Words) (said : Registers) → old ≡ [] → AreSited (drop (length old) new) n r s said → AreSited new n r s said
sited_whole old new n r s said none h = subst (λ (x : List Run). AreSited x n r s said) (ap (λ (x : List Run). drop (length x) new) none) h

pub if_some : {P : Type 0} (o : Option (List ℕ)) → P → IfSome o (λ r. P)
if_some None p = tt
if_some (Some r) p = p

-- A difference of two names is kept as it stands where the first one stands before the second, which is a cell.
pub difference_formed : (n : Location) (b : ℕ) → place_of_name n < b + 1 → b < 4096 → is_relation (difference_of n (Cell b)) ≡ true
difference_formed Ac b h small = rw (lt-ltb b 4096 small, eq-eqb b b refl) refl
difference_formed (Cell a) b h small =
    let z : a + 1 < b + 1 = h in
    rw (lt-ltb a 4096 (omega (arith, z, small)), lt-ltb b 4096 small, ne_eqb a b (λ e. omega (arith, e, z)), lt-ltb a b (omega (arith, z)), eq-eqb a a refl, eq-eqb b b refl) refl

pub record IsDifference (x y : Location) : Type 0 where
  pub cell : ℕ
  pub is : y ≡ Cell cell
  pub before : place_of_name x < cell + 1
  pub small : cell < 4096
  pub place : place_of_name x < 4097

pub difference_parts : (x y : Location) → is_relation (difference_of x y) ≡ true → IsDifference x y
difference_parts x Ac h = absurd (false≢true (shape_of (difference_of x Ac) h).1)
difference_parts Ac (Cell b) h =
    let w = (shape_of (difference_of Ac (Cell b)) h).0 in let p = and_parts (nat_lt b 4096) true w in
    record { cell = b; is = refl; before = omega arith; small = ltb-true b 4096 p.0; place = omega arith }
difference_parts (Cell a) (Cell b) h =
    let w = (shape_of (difference_of (Cell a) (Cell b)) h).0 in
    let p = and_parts (nat_lt a 4096) (nat_lt b 4096 && true) w in let q = and_parts (nat_lt b 4096) true p.1 in
    let small : a < 4096 = ltb-true a 4096 p.0 in
    record { cell = b; is = refl; before = (let z = in_order a b (kept_so (difference_of (Cell a) (Cell b)) h) in omega (arith, z)); small = ltb-true b 4096 q.0; place = omega (arith, small) }
  where
    kept_so : (s : Sum) → is_relation s ≡ true → same_sum (arranged s) s ≡ true
    kept_so s h = let p = and_parts (nat_le 2 (length s)) _ h in let q = and_parts (list_all is_summand s) _ p.1 in (and_parts (has_shape s) _ q.1).1

    in_order : (a b : ℕ) → same_sum (arranged (difference_of (Cell a) (Cell b))) (difference_of (Cell a) (Cell b)) ≡ true → a < b
    in_order a b h = elim (cases_lt a b) [
      | inl less ↦ less
      | inr more ↦ elim (eqb_tells a b) [
        | inl e ↦ absurd (let z : false ≡ true = rw e.0 at h in false≢true z)
        | inr d ↦ absurd (let z : false ≡ true = rw (d.0, le-ltb a b more) at h in false≢true z)
      ]
    ]

-- The text of an equation.
equation_text : (x : Location) (b k : ℕ) → k < 4096 →
    codes "equal " ++ name_text x ++ codes " " ++ octal_text b ++ codes " " ++ octal_text k ≡ equation_line (record { sum = difference_of x (Cell b); set = one k })
equation_text x b k few =
    five (codes "equal ") (name_text x) (codes " ") (octal_text b) (codes " ") (octal_text k) ∙
    ap (λ (o : Option ℕ). codes "equal " ++ (name_text x ++ codes " " ++ octal_text b) ++ codes " " ++ word_text o) (sym (one_word k few))
  where
    five : (a b c d e f : List ℕ) → a ++ b ++ c ++ d ++ e ++ f ≡ a ++ (b ++ c ++ d) ++ e ++ f
    five a b c d e f = simp append_assoc

pub equation_fields : (r : Relation) (x : Location) (b k : ℕ) → r.sum ≡ difference_of x (Cell b) → r.set ≡ one k → k < 4096 →
    equation_line r ≡ codes "equal " ++ (name_text x ++ (codes " " ++ (octal_text b ++ (codes " " ++ (octal_text k ++ [])))))
equation_fields r x b k e f few =
    rw (e, f) (sym (equation_text x b k few) ∙ six (codes "equal ") (name_text x) (codes " ") (octal_text b) (codes " ") (octal_text k))

-- A word of which the set has none but it.
pub one_small : (s : Words) (k : ℕ) → s ≡ one k → has_some s ≡ true → k < 4096
one_small s k e some = elim (cases_lt k 4096) [
  | inl small ↦ small
  | inr past ↦ absurd (true≢false (sym some ∙ (ap has_some e ∙ some_none_of 4096 (one k) (λ v h. ne_eqb v k (λ z. omega (arith, z, h, past))))))
]

pub equation_spelled : (v : Version) (x : Location) (b k : ℕ) (sum : Sum) (s : Words) (line : List ℕ) → is_of_sums v ≡ false → sum ≡ difference_of x (Cell b) → s ≡ one k →
    place_of_name x < b + 1 → b < 4096 → k < 4096 → line ≡ codes "equal " ++ name_text x ++ codes " " ++ octal_text b ++ codes " " ++ octal_text k → Spells v (SumIs (record { sum = sum; set = s })) line
equation_spelled Three x b k sum s line old is set before small few e = absurd (true≢false old)
equation_spelled One x b k sum s line old is set before small few e = rw (is, set) (record {
  form = and_from (is_relation (difference_of x (Cell b))) _ (difference_formed x b before small) (some_from 4096 (one k) k few (eq-eqb k k refl));
  fits = (x, Cell b, k, refl, refl);
  text = e ∙ equation_text x b k few;
})
equation_spelled Two x b k sum s line old is set before small few e = rw (is, set) (record {
  form = and_from (is_relation (difference_of x (Cell b))) _ (difference_formed x b before small) (some_from 4096 (one k) k few (eq-eqb k k refl));
  fits = (x, Cell b, k, refl, refl);
  text = e ∙ equation_text x b k few;
})

pub equation_of_fits : (v : Version) (r : Relation) → is_of_sums v ≡ false → RelationFits v r → IsEquation r
equation_of_fits One r old h = h
equation_of_fits Two r old h = h
equation_of_fits Three r old h = absurd (true≢false old)

-- What a call says that added a set of which nothing is written.
pub set_added : (old now : Option (List ℕ)) (s t : Words) → IfSome now (λ r. (old ≡ Some r) × (s ≡ t)) → now ≡ Some [] → (old ≡ Some []) × (s ≡ t)
set_added old now s t h e = at_some (λ r. (old ≡ Some r) × (s ≡ t)) now [] h e
