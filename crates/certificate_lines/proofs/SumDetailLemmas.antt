-- A line with its details among those that are kept, in all versions.
use Rattle.std.proofs.Common.{◌≡◌, ℕ, ◌+◌, ◌<◌, ◌≤◌, true, false, List, [], ◌∷◌, ◌++◌, refl, ap, ◌∙◌, sym, arith, subst, append_assoc, append-nil, length-append, zero, suc, ◌-◌, Bool, length, get_or, take, drop, map}
use Rattle.std.proofs.lemmas.Bool.{true≢false, false≢true}
use Rattle.std.proofs.lemmas.List.{take_all, drop_all, drop_more}
use Rattle.std.specs.Prelude.{slice_range, if◌then◌else◌}
use Rattle.domain.specs.Locations.{Location, Ac}
use Rattle.domain.specs.TrackedCells.{TrackedCell}
use Rattle.domain.specs.Chains.{Chain}
use Rattle.domain.specs.Facts.{Fact, Relation}
use Rattle.domain.specs.CellsInCode.{cell_sets_of}
use Rattle.domain.specs.FactInCode.{fact_in_code, names_words}
use Rattle.domain.specs.declared.sum_fact.SumFact.{SumFact}
use Rattle.wordset.specs.Words.{Words}
use Rattle.certificate_lines.specs.RisingLists.{Each}
use Rattle.certificate_lines.specs.Lines.{Line, RoutineIs, FactIs, ExitIs, CellIs, SumIs, ChainIs, End, is_detail}
use Rattle.certificate_lines.specs.Order.{details_of_last}
use Rattle.certificate_lines.specs.Reading.{sets_of, cells_under, relations_under, chains_under, all_offsets}
use Rattle.certificate_lines.specs.Found.{first_with_details, behind_details, FitUnder, IsSaid}
use Rattle.certificate_lines.specs.Adding.{Adds, AddsAll, HasRoomFor, HasRoomUnder}
use Rattle.certificate_lines.proofs.SumAddingLemmas.{sets_are}

-- The place i of a detail, or of the first line after the details.
abbrev pub EndsAt : List Line → ℕ → ℕ
EndsAt ls i = i + length (details_of_last (drop i ls))

pub detail_passed : (ls : List Line) (i : ℕ) (l : Line) → drop i ls ≡ l ∷ drop (i + 1) ls → is_detail l ≡ true → EndsAt ls (i + 1) ≡ EndsAt ls i
detail_passed ls i l at is = rw (at, is) (omega arith)

pub other_line : (ls : List Line) (i : ℕ) (l : Line) → drop i ls ≡ l ∷ drop (i + 1) ls → is_detail l ≡ false → EndsAt ls i ≡ i
other_line ls i l at is = rw (at, is) (omega arith)

pub no_line : (ls : List Line) (i : ℕ) → length ls ≤ i → EndsAt ls i ≡ i
no_line ls i h = rw (drop_all i ls h) (omega arith)

details_taken : (ls : List Line) → take (length (details_of_last ls)) ls ≡ details_of_last ls
details_taken [] = refl
details_taken (l ∷ ls) = go (is_detail l) (details_taken ls)
  where
    go : (d : Bool) → take (length (details_of_last ls)) ls ≡ details_of_last ls →
        take (length (if d then l ∷ details_of_last ls else [])) (l ∷ ls) ≡ (if d then l ∷ details_of_last ls else [])
    go true i = ap (λ (x : List Line). l ∷ x) i
    go false i = refl

pub first_ended : (ls : List Line) (i n : ℕ) → i < length ls → n ≡ EndsAt ls (i + 1) → slice_range ls i n ≡ first_with_details (drop i ls)
first_ended ls i n h is =
    let at : drop i ls ≡ get_or ls i End ∷ drop (i + 1) ls = drop_more ls i End h in
    let k : n - i ≡ suc (length (details_of_last (drop (i + 1) ls))) = omega (arith, is) in
    rw (at, k) (ap (λ (x : List Line). get_or ls i End ∷ x) (details_taken (drop (i + 1) ls)))

pub none_first : (ls : List Line) (i n : ℕ) → length ls ≤ i → slice_range ls i n ≡ first_with_details (drop i ls)
none_first ls i n h = rw (drop_all i ls h) (take_all (n - i) [] (omega arith))

-- A fact as far as it tells of the details of a line.
pub record AddedSofar (old now : SumFact 64 32) (all left : List Line) : Type 0 where
  pub cells_are : cell_sets_of now.cells ++ cells_under left ≡ cell_sets_of old.cells ++ cells_under all
  pub relations_are : (fact_in_code now).relations ++ relations_under left ≡ (fact_in_code old).relations ++ relations_under all
  pub chains_are : (fact_in_code now).chains ++ chains_under left ≡ (fact_in_code old).chains ++ chains_under all
  pub others : fact_in_code now ≡ record (fact_in_code old) {
    set = names_words ((fact_in_code old).set Ac) (cell_sets_of now.cells);
    relations = (fact_in_code now).relations;
    chains = (fact_in_code now).chains;
  }
  pub behind : behind_details left ≡ behind_details all

pub none_sofar : (old : SumFact 64 32) (all : List Line) → AddedSofar old old all all
none_sofar old all = record { cells_are = refl; relations_are = refl; chains_are = refl; others = refl; behind = refl }

-- The fact with these cells, relations and chains.
abbrev told : Fact → List TrackedCell → List Relation → List Chain → Fact
told f cells relations chains = record f { set = names_words (f.set Ac) cells; relations = relations; chains = chains }

told_same : (f : Fact) (a b : List TrackedCell) (r s : List Relation) (c d : List Chain) → a ≡ b → r ≡ s → c ≡ d → told f a r c ≡ told f b s d
told_same f a b r s c d e g h = rw (e, g, h) refl

one_sofar : (old now new : SumFact 64 32) (all rest : List Line) (l : Line) → AddedSofar old now all (l ∷ rest) → is_detail l ≡ true → Adds now new l → AddedSofar old new all rest
one_sofar old now new all rest (CellIs c) h d a =
    let r : (fact_in_code new).relations ≡ (fact_in_code now).relations = ap (λ (f : Fact). f.relations) a.1 in
    let k : (fact_in_code new).chains ≡ (fact_in_code now).chains = ap (λ (f : Fact). f.chains) a.1 in
    record {
      cells_are = ap (λ (x : List TrackedCell). x ++ cells_under rest) a.0 ∙ (append_assoc (cell_sets_of now.cells) (c ∷ []) (cells_under rest) ∙ h.cells_are);
      relations_are = ap (λ (x : List Relation). x ++ relations_under rest) r ∙ h.relations_are;
      chains_are = ap (λ (x : List Chain). x ++ chains_under rest) k ∙ h.chains_are;
      others = a.1 ∙ (ap (λ (f : Fact). record f { set = names_words (f.set Ac) (cell_sets_of new.cells) }) h.others ∙
          told_same (fact_in_code old) (cell_sets_of new.cells) (cell_sets_of new.cells) _ _ _ _ refl (sym r) (sym k));
      behind = h.behind;
    }
one_sofar old now new all rest (SumIs s) h d a =
    let r : (fact_in_code new).relations ≡ (fact_in_code now).relations ++ s ∷ [] = ap (λ (f : Fact). f.relations) a.1 in
    let k : (fact_in_code new).chains ≡ (fact_in_code now).chains = ap (λ (f : Fact). f.chains) a.1 in
    record {
      cells_are = ap (λ (x : List TrackedCell). x ++ cells_under rest) a.0 ∙ h.cells_are;
      relations_are = ap (λ (x : List Relation). x ++ relations_under rest) r ∙ (append_assoc (fact_in_code now).relations (s ∷ []) (relations_under rest) ∙ h.relations_are);
      chains_are = ap (λ (x : List Chain). x ++ chains_under rest) k ∙ h.chains_are;
      others = a.1 ∙ (ap (λ (f : Fact). record f { relations = (fact_in_code now).relations ++ s ∷ [] }) h.others ∙
          told_same (fact_in_code old) (cell_sets_of now.cells) (cell_sets_of new.cells) _ _ _ _ (sym a.0) (sym r) (sym k));
      behind = h.behind;
    }
one_sofar old now new all rest (ChainIs c) h d a =
    let r : (fact_in_code new).relations ≡ (fact_in_code now).relations = ap (λ (f : Fact). f.relations) a.1 in
    let k : (fact_in_code new).chains ≡ (fact_in_code now).chains ++ c ∷ [] = ap (λ (f : Fact). f.chains) a.1 in
    record {
      cells_are = ap (λ (x : List TrackedCell). x ++ cells_under rest) a.0 ∙ h.cells_are;
      relations_are = ap (λ (x : List Relation). x ++ relations_under rest) r ∙ h.relations_are;
      chains_are = ap (λ (x : List Chain). x ++ chains_under rest) k ∙ (append_assoc (fact_in_code now).chains (c ∷ []) (chains_under rest) ∙ h.chains_are);
      others = a.1 ∙ (ap (λ (f : Fact). record f { chains = (fact_in_code now).chains ++ c ∷ [] }) h.others ∙
          told_same (fact_in_code old) (cell_sets_of now.cells) (cell_sets_of new.cells) _ _ _ _ (sym a.0) (sym r) (sym k));
      behind = h.behind;
    }
one_sofar old now new all rest (RoutineIs r) h d a = absurd (false≢true d)
one_sofar old now new all rest (FactIs x s r o) h d a = absurd (false≢true d)
one_sofar old now new all rest (ExitIs e o s r) h d a = absurd (false≢true d)
one_sofar old now new all rest End h d a = absurd (false≢true d)

pub sofar_more : (old now new : SumFact 64 32) (all left rest : List Line) (l : Line) → left ≡ l ∷ rest → AddedSofar old now all left → is_detail l ≡ true → Adds now new l →
    AddedSofar old new all rest
sofar_more old now new all left rest l e h d a = one_sofar old now new all rest l (rw e at h) d a

-- There is room for the next detail.
room_next : (old now : SumFact 64 32) (all rest : List Line) (l : Line) → HasRoomUnder old (cells_under all) (relations_under all) (chains_under all) →
    AddedSofar old now all (l ∷ rest) → HasRoomFor now l
room_next old now all rest (CellIs c) room h =
    let e : length (cell_sets_of now.cells ++ c ∷ cells_under rest) ≡ length (cell_sets_of old.cells ++ cells_under all) = ap length h.cells_are in
    let q : length (cell_sets_of old.cells) + length (cells_under all) ≤ 64 = room.0 in
    omega (arith, e, q, length-append (cell_sets_of now.cells) (c ∷ cells_under rest), length-append (cell_sets_of old.cells) (cells_under all))
room_next old now all rest (SumIs s) room h =
    let e : length ((fact_in_code now).relations ++ s ∷ relations_under rest) ≡ length ((fact_in_code old).relations ++ relations_under all) = ap length h.relations_are in
    let q : length (fact_in_code old).relations + length (relations_under all) ≤ 32 = room.1 in
    omega (arith, e, q, length-append (fact_in_code now).relations (s ∷ relations_under rest), length-append (fact_in_code old).relations (relations_under all))
room_next old now all rest (ChainIs c) room h =
    let e : length ((fact_in_code now).chains ++ c ∷ chains_under rest) ≡ length ((fact_in_code old).chains ++ chains_under all) = ap length h.chains_are in
    let q : length (fact_in_code old).chains + length (chains_under all) ≤ 72 = room.2 in
    omega (arith, e, q, length-append (fact_in_code now).chains (c ∷ chains_under rest), length-append (fact_in_code old).chains (chains_under all))
room_next old now all rest (RoutineIs r) room h = tt
room_next old now all rest (FactIs x s r o) room h = tt
room_next old now all rest (ExitIs e o s r) room h = tt
room_next old now all rest End room h = tt

pub room_left : (old now : SumFact 64 32) (all left rest : List Line) (l : Line) → left ≡ l ∷ rest → HasRoomUnder old (cells_under all) (relations_under all) (chains_under all) →
    AddedSofar old now all left → HasRoomFor now l
room_left old now all left rest l e room h = room_next old now all rest l room (rw e at h)

-- No detail is left.
pub record AllAdded (old now : SumFact 64 32) (all left : List Line) : Type 0 where
  pub says : AddsAll old now (cells_under all) (relations_under all) (chains_under all)
  pub end : left ≡ behind_details all

all_told : (old now : SumFact 64 32) (all left : List Line) → AddedSofar old now all left → cells_under left ≡ [] → relations_under left ≡ [] → chains_under left ≡ [] →
    behind_details left ≡ left → AllAdded old now all left
all_told old now all left h a b c d =
    let cells : cell_sets_of now.cells ≡ cell_sets_of old.cells ++ cells_under all =
    sym (append-nil (cell_sets_of now.cells)) ∙ (ap (λ (x : List TrackedCell). cell_sets_of now.cells ++ x) (sym a) ∙ h.cells_are) in
    let relations : (fact_in_code now).relations ≡ (fact_in_code old).relations ++ relations_under all =
    sym (append-nil (fact_in_code now).relations) ∙ (ap (λ (x : List Relation). (fact_in_code now).relations ++ x) (sym b) ∙ h.relations_are) in
    let chains : (fact_in_code now).chains ≡ (fact_in_code old).chains ++ chains_under all =
    sym (append-nil (fact_in_code now).chains) ∙ (ap (λ (x : List Chain). (fact_in_code now).chains ++ x) (sym c) ∙ h.chains_are) in
    record {
      says = record { cells_are = cells; is = h.others ∙ told_same (fact_in_code old) _ _ _ _ _ _ cells relations chains };
      end = sym d ∙ h.behind;
    }

pub none_left : (old now : SumFact 64 32) (all : List Line) → AddedSofar old now all [] → AllAdded old now all []
none_left old now all h = all_told old now all [] h refl refl refl refl

other_left : (old now : SumFact 64 32) (all rest : List Line) (l : Line) → is_detail l ≡ false → AddedSofar old now all (l ∷ rest) → AllAdded old now all (l ∷ rest)
other_left old now all rest (RoutineIs r) d h = all_told old now all (RoutineIs r ∷ rest) h refl refl refl refl
other_left old now all rest (FactIs x s r o) d h = all_told old now all (FactIs x s r o ∷ rest) h refl refl refl refl
other_left old now all rest (ExitIs e o s r) d h = all_told old now all (ExitIs e o s r ∷ rest) h refl refl refl refl
other_left old now all rest End d h = all_told old now all (End ∷ rest) h refl refl refl refl
other_left old now all rest (CellIs c) d h = absurd (true≢false d)
other_left old now all rest (SumIs s) d h = absurd (true≢false d)
other_left old now all rest (ChainIs c) d h = absurd (true≢false d)

-- What is not a detail changes nothing.
unchanged : (now new : SumFact 64 32) (l : Line) → is_detail l ≡ false → Adds now new l → new ≡ now
unchanged now new (RoutineIs r) d a = a
unchanged now new (FactIs x s r o) d a = a
unchanged now new (ExitIs e o s r) d a = a
unchanged now new End d a = a
unchanged now new (CellIs c) d a = absurd (true≢false d)
unchanged now new (SumIs s) d a = absurd (true≢false d)
unchanged now new (ChainIs c) d a = absurd (true≢false d)

pub other_next : (old now new : SumFact 64 32) (all left rest : List Line) (l : Line) → left ≡ l ∷ rest → is_detail l ≡ false → Adds now new l → AddedSofar old now all left →
    AllAdded old new all left
other_next old now new all left rest l e d a h = rw (unchanged now new l d a, e) (other_left old now all rest l d (rw e at h))

pub past_left : (old now : SumFact 64 32) (all lines : List Line) (i : ℕ) → length lines ≤ i → AddedSofar old now all (drop i lines) → AllAdded old now all (drop i lines)
past_left old now all lines i few h = let e : drop i lines ≡ [] = drop_all i lines few in rw e (none_left old now all (rw e at h))

-- The fact of a line with its details.
with_under : (sites : Words) (ac mq link : Words) (offsets : Words) (new : Fact) (begun : Fact) (under : List Line) (cells : List TrackedCell) → cells ≡ cells_under under →
    begun ≡ record { set = sets_of ac []; relations = []; chains = []; mq = mq; link = link; sites = sites; offsets = offsets } →
    new ≡ record begun { set = names_words (begun.set Ac) cells; relations = begun.relations ++ relations_under under; chains = begun.chains ++ chains_under under } →
    new ≡ record { set = sets_of ac (cells_under under); relations = relations_under under; chains = chains_under under; mq = mq; link = link; sites = sites; offsets = offsets }
with_under sites ac mq link offsets new begun under cells e f g =
    rw (g, f, e) (ap (λ (x : Location → Words). (let y : Fact =
    record { set = x; relations = relations_under under; chains = chains_under under; mq = mq; link = link; sites = sites; offsets = offsets } in y)) (sets_are ac (cells_under under)))

pub said_with : (begun new : SumFact 64 32) (l : Line) (left under : List Line) → left ≡ l ∷ under → IsSaid (l ∷ []) (fact_in_code begun) → cell_sets_of begun.cells ≡ [] →
    AddsAll begun new (cells_under under) (relations_under under) (chains_under under) → IsSaid left (fact_in_code new)
said_with begun new (FactIs a s r o) left under e is none all =
    rw e (with_under s r.ac r.mq r.link o (fact_in_code new) (fact_in_code begun) under (cell_sets_of begun.cells ++ cells_under under)
    (ap (λ (x : List TrackedCell). x ++ cells_under under) none) is all.is)
said_with begun new (ExitIs x o s r) left under e is none all =
    rw e (with_under s r.ac r.mq r.link all_offsets (fact_in_code new) (fact_in_code begun) under (cell_sets_of begun.cells ++ cells_under under)
    (ap (λ (y : List TrackedCell). y ++ cells_under under) none) is all.is)
said_with begun new (RoutineIs r) left under e is none all = absurd is
said_with begun new (CellIs c) left under e is none all = absurd is
said_with begun new (SumIs s) left under e is none all = absurd is
said_with begun new (ChainIs c) left under e is none all = absurd is
said_with begun new End left under e is none all = absurd is

-- There is room for the details of a line, since it tells of none yet.
pub room_under : (begun : SumFact 64 32) (l : Line) (under : List Line) → IsSaid (l ∷ []) (fact_in_code begun) → cell_sets_of begun.cells ≡ [] → FitUnder under →
    HasRoomUnder begun (cells_under under) (relations_under under) (chains_under under)
room_under begun l under is none fit =
    let a : length (cell_sets_of begun.cells) ≡ 0 = ap length none in
    let b : length (fact_in_code begun).relations ≡ 0 = ap length (no_relation l is) in
    let c : length (fact_in_code begun).chains ≡ 0 = ap length (no_chain l is) in
    let x = fit.0 in let y = fit.1 in let z = fit.2 in (omega (arith, a, x), omega (arith, b, y), omega (arith, c, z))
  where
    no_relation : (l : Line) → IsSaid (l ∷ []) (fact_in_code begun) → (fact_in_code begun).relations ≡ []
    no_relation (FactIs a s r o) is = ap (λ (f : Fact). f.relations) is
    no_relation (ExitIs x o s r) is = ap (λ (f : Fact). f.relations) is
    no_relation (RoutineIs r) is = absurd is
    no_relation (CellIs c) is = absurd is
    no_relation (SumIs s) is = absurd is
    no_relation (ChainIs c) is = absurd is
    no_relation End is = absurd is

    no_chain : (l : Line) → IsSaid (l ∷ []) (fact_in_code begun) → (fact_in_code begun).chains ≡ []
    no_chain (FactIs a s r o) is = ap (λ (f : Fact). f.chains) is
    no_chain (ExitIs x o s r) is = ap (λ (f : Fact). f.chains) is
    no_chain (RoutineIs r) is = absurd is
    no_chain (CellIs c) is = absurd is
    no_chain (SumIs s) is = absurd is
    no_chain (ChainIs c) is = absurd is
    no_chain End is = absurd is

pub past_both : (lines : List Line) (i : ℕ) → length lines ≤ i → drop (length lines) lines ≡ drop i lines
past_both lines i h = drop_all (length lines) lines (omega arith) ∙ sym (drop_all i lines h)

-- What holds of each holds of the one at a place.
pub each_at : {A B : Type 0} (P : B → Type 0) (f : A → B) (xs : List A) (i : ℕ) (x : A) → i < length xs → x ≡ get_or xs i x → Each P (map f xs) → P (f x)
each_at P f [] i x h at e = absurd (omega arith)
each_at P f (y ∷ ys) zero x h at e = let z : x ≡ y = at in subst (λ k. P (f k)) (sym z) e.0
each_at P f (y ∷ ys) (suc i) x h at e = each_at P f ys i x (omega arith) at e.1

-- The lines of all details.
pub all_pushed : (a b c d e : List Line) (h : Line) (x y z : List Line) → b ≡ a ++ h ∷ [] → c ≡ b ++ x → d ≡ c ++ y → e ≡ d ++ z → e ≡ a ++ (h ∷ (x ++ y ++ z))
all_pushed a b c d e h x y z p q r s = s ∙ (ap (λ (l : List Line). l ++ z) (r ∙ (ap (λ (l : List Line). l ++ y) (q ∙ (ap (λ (l : List Line). l ++ x) p ∙ append_assoc a (h ∷ []) x)) ∙ append_assoc a (h ∷ x) y)) ∙ append_assoc a (h ∷ (x ++ y)) z)
