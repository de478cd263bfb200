-- The last lines of a text.
use Rattle.std.proofs.Common.{ℕ, zero, suc, ◌≡◌, ◌+◌, ◌-◌, ◌==◌, ◌<◌, ◌≤◌, Bool, true, false, List, [], ◌∷◌, ◌++◌, length, take, drop, get_or, refl, sym, ap, ◌∙◌, inl, inr, arith}
use Rattle.std.specs.Prelude.{if◌then◌else◌}
use Rattle.std.proofs.lemmas.Bool.{true≢false}
use Rattle.std.proofs.lemmas.Bool.Decides.{eqb_tells}
use Rattle.std.proofs.lemmas.List.{drop_all, drop_more, take_all, take_more}
use Rattle.machine_commands.specs.Last.{lines_in, without_lines}

-- one byte more
push_either : (p q : Bool) (bs cs : List ℕ) → lines_in cs ≡ (if q then suc (lines_in bs) else lines_in bs) →
    (if p then suc (lines_in cs) else lines_in cs) ≡ (if q then suc (if p then suc (lines_in bs) else lines_in bs) else (if p then suc (lines_in bs) else lines_in bs))
push_either true true bs cs is = ap suc is
push_either true false bs cs is = ap suc is
push_either false true bs cs is = is
push_either false false bs cs is = is

lines_push : (bs : List ℕ) (b : ℕ) → lines_in (bs ++ b ∷ []) ≡ (if b == 10 then suc (lines_in bs) else lines_in bs)
lines_push [] b = refl
lines_push (x ∷ bs) b = push_either (x == 10) (b == 10) bs (bs ++ b ∷ []) (lines_push bs b)

pub line_more : (bs : List ℕ) (i found : ℕ) → i < length bs → found ≡ lines_in (take i bs) → (get_or bs i 0 == 10) ≡ true → found + 1 ≡ lines_in (take (i + 1) bs)
line_more bs i found within is ends =
    let more : lines_in (take (i + 1) bs) ≡ suc (lines_in (take i bs)) = ap lines_in (take_more bs i 0 within) ∙ (lines_push (take i bs) (get_or bs i 0) ∙ rw ends refl) in
    omega (arith, is, more)

pub line_same : (bs : List ℕ) (i found : ℕ) → i < length bs → found ≡ lines_in (take i bs) → (get_or bs i 0 == 10) ≡ false → found ≡ lines_in (take (i + 1) bs)
line_same bs i found within is goes =
    let more : lines_in (take (i + 1) bs) ≡ lines_in (take i bs) = ap lines_in (take_more bs i 0 within) ∙ (lines_push (take i bs) (get_or bs i 0) ∙ rw goes refl) in
    is ∙ sym more

pub lines_all : (bs : List ℕ) (i found : ℕ) → length bs ≤ i → found ≡ lines_in (take i bs) → found ≡ lines_in bs
lines_all bs i found past is = is ∙ ap lines_in (take_all i bs past)

-- one byte less
step_line : (left c : ℕ) (cs : List ℕ) → (left == 0) ≡ false → (c == 10) ≡ true → without_lines left (c ∷ cs) ≡ without_lines (left - 1) cs
step_line zero c cs some ends = absurd (true≢false some)
step_line (suc k) c cs some ends = let same : suc k - 1 ≡ k = omega arith in rw (ends, same) refl

step_byte : (left c : ℕ) (cs : List ℕ) → (left == 0) ≡ false → (c == 10) ≡ false → without_lines left (c ∷ cs) ≡ without_lines left cs
step_byte zero c cs some goes = absurd (true≢false some)
step_byte (suc k) c cs some goes = rw goes refl

pub skip_line : (text : List ℕ) (n i left : ℕ) → without_lines n text ≡ without_lines left (drop i text) → i < length text → (left == 0) ≡ false → (get_or text i 0 == 10) ≡ true →
    without_lines n text ≡ without_lines (left - 1) (drop (i + 1) text)
skip_line text n i left is within some ends = is ∙ (ap (without_lines left) (drop_more text i 0 within) ∙ step_line left (get_or text i 0) (drop (i + 1) text) some ends)

pub skip_byte : (text : List ℕ) (n i left : ℕ) → without_lines n text ≡ without_lines left (drop i text) → i < length text → (left == 0) ≡ false → (get_or text i 0 == 10) ≡ false →
    without_lines n text ≡ without_lines left (drop (i + 1) text)
skip_byte text n i left is within some goes = is ∙ (ap (without_lines left) (drop_more text i 0 within) ∙ step_byte left (get_or text i 0) (drop (i + 1) text) some goes)

none_left : (left : ℕ) → without_lines left [] ≡ []
none_left zero = refl
none_left (suc k) = refl

pub skip_all : (text : List ℕ) (n i left : ℕ) → without_lines n text ≡ without_lines left (drop i text) → length text ≤ i → [] ≡ without_lines n text
skip_all text n i left is past = sym (is ∙ (ap (without_lines left) (drop_all i text past) ∙ none_left left))

pub skip_done : (text : List ℕ) (n i left : ℕ) → without_lines n text ≡ without_lines left (drop i text) → (left == 0) ≡ true → drop i text ≡ without_lines n text
skip_done text n i left is none = elim (eqb_tells left 0) [
  | inl same ↦ (let nothing : left ≡ 0 = same.1 in sym (rw nothing at is))
  | inr apart ↦ absurd (true≢false (sym none ∙ apart.0))
]
