-- A piece that goes out front by front.
use Rattle.std.proofs.Common.{◌≡◌, ◌∙◌, ap, refl, ℕ, ◌+◌, ◌-◌, ◌≤◌, List, ◌++◌, length, take, drop, arith, append_assoc, length-append, Bool, false, ◌||◌, ◌&&◌}
use Rattle.std.specs.Prelude.{Option, Some, None, ◌==◌}
use Rattle.std.specs.Io.KnownBytes.{Appends}
use Rattle.std.proofs.lemmas.List.{take_all, length-drop}
use Rattle.std.proofs.lemmas.Bool.{ne_eqb}
use Rattle.std.proofs.Math.Seq.{take-add, take-append-add}
use Rattle.streams.specs.Bytes.{AppendsFront}

pub rest_is : (piece : List ℕ) (done : ℕ) → take (length piece - done) (drop done piece) ≡ drop done piece
rest_is piece done = take_all _ (drop done piece) (omega (arith, length-drop done piece))

appends_both : (a b c : Option (List ℕ)) (bs cs : List ℕ) → Appends a b bs → Appends b c cs → Appends a c (bs ++ cs)
appends_both None b c bs cs p q = tt
appends_both (Some x) None c bs cs p q = absurd p
appends_both (Some x) (Some y) None bs cs p q = absurd q
appends_both (Some x) (Some y) (Some z) bs cs p q = q ∙ ap (λ l. l ++ cs) p ∙ append_assoc x bs cs

pub more_out : (a b c : Option (List ℕ)) (piece : List ℕ) (done n : ℕ) → Appends a b (take done piece) → Appends b c (take n (take (length piece - done) (drop done piece))) → Appends a c (take (done + n) piece)
more_out a b c piece done n p q =
    let q' : Appends b c (take n (drop done piece)) = rw rest_is at q in
    rw (take-add done n piece) (appends_both a b c _ _ p q')

pub more_within : (piece : List ℕ) (done n : ℕ) → done ≤ length piece → n ≤ length (take (length piece - done) (drop done piece)) → done + n ≤ length piece
more_within piece done n h k = let e = ap length (rest_is piece done) in omega (arith, length-drop done piece, e)

pub not_marked : (old new : Bool) (n : ℕ) (b : Bool) → old ≡ false → (n ≡ 0 → ⊥) → new ≡ (old || ((n == 0) && b)) → new ≡ false
not_marked old new n b o h e = e ∙ rw (o, ne_eqb n 0 h) refl

-- a whole piece, and a front of the next
pub front_after : (a b c : Option (List ℕ)) (first second : List ℕ) → Appends a b first → AppendsFront b c second → AppendsFront a c (first ++ second)
front_after a b c first second whole front = record {
  count = length first + front.count;
  within = let e = length-append first second in let f = front.within in omega (arith, e, f);
  out = rw (take-append-add first second front.count) (appends_both a b c first (take front.count second) whole front.out);
}
