-- The texts of lines field by field, and what stands at the front of one.
use Rattle.std.proofs.Common.{◌≡◌, ◌≢◌, ℕ, ◌+◌, Bool, true, false, List, [], ◌++◌, refl, ap, ◌∙◌, sym, append_assoc, append-nil}
use Rattle.std.specs.Prelude.{if◌then◌else◌, codes, Option, Some, None, IfSome}
use Rattle.std.specs.Option.{IsSomeAnd}
use Rattle.word12.specs.Words.{octal_text}
use Rattle.domain.specs.TrackedCells.{TrackedCell}
use Rattle.certificate_lines.specs.FieldSpelling.{RoutineLine, set_text, rank_text, routine_line, cell_line}

pub routine_fields : (r : RoutineLine) → routine_line r ≡
    codes "routine " ++ (octal_text r.entry ++ (codes " rank " ++ (rank_text r.rank ++ (codes " sites " ++ (set_text r.sites ++
    (codes " writes " ++ (set_text r.writes ++ [])))))))
routine_fields r = simp (append_assoc, append-nil)

pub cell_fields : (c : TrackedCell) → cell_line c ≡ codes "cell " ++ (octal_text c.address ++ (codes " " ++ (set_text c.set ++ [])))
cell_fields c = simp (append_assoc, append-nil)

-- What stands at the front of a line.
pub skipped : (reads : Bool) (s p rest : List ℕ) → s ≡ p ++ rest →
    IfSome (if reads then Some rest else None) (λ r. (if reads then Some s else None) ≡ Some (p ++ r))
skipped true s p rest e = ap (λ (x : List ℕ). Some x) e
skipped false s p rest e = tt

pub not_there : {X : Type 0} (reads : Bool) (s p rest : List ℕ) → ((r : List ℕ) → s ≢ p ++ r) →
    (if reads then Some s else None) ≡ Some (p ++ rest) → X
not_there true s p rest none e = absurd (none rest (cc))
not_there false s p rest none e = absurd (cc)

pub taken_there : (reads : Bool) (s p rest : List ℕ) → reads ≡ true → s ≡ p ++ rest →
    IsSomeAnd (if reads then Some rest else None) (λ r. (if reads then Some s else None) ≡ Some (p ++ r))
taken_there reads s p rest e f = rw (e, f) refl

-- One field was at the front, and then another.
pub both : (a b c : Option (List ℕ)) (x y : List ℕ) → IfSome b (λ r. a ≡ Some (x ++ r)) → IfSome c (λ r. b ≡ Some (y ++ r)) → IfSome c (λ r. a ≡ Some (x ++ y ++ r))
both a b None x y p q = tt
both a None (Some r) x y p q = absurd (cc)
both a (Some s) (Some r) x y p q =
    let e : s ≡ y ++ r = cc in p ∙ ap (λ (z : List ℕ). Some z) (ap (λ (z : List ℕ). x ++ z) e ∙ sym (append_assoc x y r))

-- What holds where a field was read holds where a further one was.
pub earlier : (P : Type 0) (b c : Option (List ℕ)) (y : List ℕ) → IfSome b (λ r. P) → IfSome c (λ r. b ≡ Some (y ++ r)) → IfSome c (λ r. P)
earlier P b None y p q = tt
earlier P None (Some r) y p q = absurd (cc)
earlier P (Some s) (Some r) y p q = p

-- Nothing is left.
pub whole : (line x : List ℕ) (a c : Option (List ℕ)) → a ≡ Some line → c ≡ Some [] → IfSome c (λ r. a ≡ Some (x ++ r)) → line ≡ x
whole line x a c first none read = let e : a ≡ Some (x ++ []) = rw none at read in let f : line ≡ x ++ [] = cc in f ∙ append-nil x
