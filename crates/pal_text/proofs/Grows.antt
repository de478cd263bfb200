-- A list in the order of the source grows at its end as the newest-first list does at its front.
use Rattle.std.proofs.Common.{◌≡◌, ◌∙◌, sym, ap, ℕ, ◌+◌, ◌-◌, ◌<◌, List, [], ◌∷◌, ◌++◌, length, set, get_or, arith, Some, None, length-append, if◌then◌else◌, true, false}
use Rattle.std.specs.Prelude.{reverse, Result, Ok, Err, OnOk, OnErr}
use Rattle.std.proofs.lemmas.List.{reverse-append}
use Rattle.std.proofs.Math.Seq.{set-append_seam, get_or-append_seam}
use Rattle.pal_text.specs.declared.tokens.Token.{Token}
use Rattle.pal_text.specs.Tokens.{is_space}
use Rattle.pal_text.specs.Adding.{joined, added, one_or_both}

pub on_ok_also : {X E : Type 0} (r : Result X E) (P Q : Type 0) → OnOk r P → (P → Q) → OnOk r Q
on_ok_also (Ok x) P Q h f = f h
on_ok_also (Err e) P Q h f = tt

-- what holds anyway holds of an answer that is a fault
pub anyway : {T E P : Type 0} (r : Result T E) → P → OnErr r P
anyway (Ok v) p = tt
anyway (Err e) p = p

pub turned : {X : Type 0} (t : X) (ts : List X) → reverse (t ∷ ts) ≡ reverse ts ++ t ∷ []
turned t ts = reverse-append (t ∷ []) ts

pub before_last : {X : Type 0} (items ts : List X) (t : X) (count : ℕ) → items ≡ reverse (t ∷ ts) → count ≡ length items → count - 1 ≡ length (reverse ts)
before_last items ts t count is n = omega (arith, ap length (is ∙ turned t ts), length-append (reverse ts) (t ∷ []))

-- the last item is the newest
pub last_is : {X : Type 0} (items ts : List X) (t x : X) (count : ℕ) → items ≡ reverse (t ∷ ts) → count ≡ length items → x ≡ get_or items (count - 1) x → x ≡ t
last_is items ts t x count is n h =
    h ∙ ap (λ l. get_or l (count - 1) x) (is ∙ turned t ts) ∙ ap (λ i. get_or (reverse ts ++ t ∷ []) i x) (before_last items ts t count is n) ∙ get_or-append_seam (reverse ts) t [] x

pub grow_one : (items ts : List Token) (next one : Token) (count : ℕ) (x : Token) → items ≡ reverse ts → count ≡ length items → 0 < count
    → x ≡ get_or items (count - 1) x → joined x next ≡ Some one → set items (count - 1) one ≡ reverse (added next ts)
grow_one items [] next one count x is len some h j = absurd (omega (arith, ap length is))
grow_one items (t ∷ ts) next one count x is len some h j =
    let e : x ≡ t = last_is items ts t x count is len h in
    let j' : joined t next ≡ Some one = ap (λ s. joined s next) (sym e) ∙ j in
    ap (λ l. set l (count - 1) one) (is ∙ turned t ts)
    ∙ ap (λ i. set (reverse ts ++ t ∷ []) i one) (before_last items ts t count is len)
    ∙ set-append_seam (reverse ts) t [] one
    ∙ sym (turned one ts)
    ∙ ap (λ o. reverse (one_or_both next t ts o)) (sym j')

-- with none there yet
pub grow_space : (items ts : List Token) (next : Token) → items ≡ reverse ts → length items ≡ 0 → is_space next.kind ≡ true → items ≡ reverse (added next ts)
grow_space items [] next is none space = is ∙ ap (λ b. reverse (if b then [] else next ∷ [])) (sym space)
grow_space items (t ∷ ts) next is none space = absurd (omega (arith, ap length (is ∙ turned t ts), length-append (reverse ts) (t ∷ [])))

pub grow_first : (items ts : List Token) (next : Token) → items ≡ reverse ts → length items ≡ 0 → is_space next.kind ≡ false → items ++ next ∷ [] ≡ reverse (added next ts)
grow_first items [] next is none other = ap (λ l. l ++ next ∷ []) is ∙ ap (λ b. reverse (if b then [] else next ∷ [])) (sym other)
grow_first items (t ∷ ts) next is none other = absurd (omega (arith, ap length (is ∙ turned t ts), length-append (reverse ts) (t ∷ [])))

pub grow_both : (items ts : List Token) (next : Token) (count : ℕ) (x : Token) → items ≡ reverse ts → count ≡ length items → 0 < count
    → x ≡ get_or items (count - 1) x → joined x next ≡ None → items ++ next ∷ [] ≡ reverse (added next ts)
grow_both items [] next count x is len some h j = absurd (omega (arith, ap length is))
grow_both items (t ∷ ts) next count x is len some h j =
    let e : x ≡ t = last_is items ts t x count is len h in
    let j' : joined t next ≡ None = ap (λ s. joined s next) (sym e) ∙ j in
    ap (λ l. l ++ next ∷ []) is ∙ sym (turned next (t ∷ ts)) ∙ ap (λ o. reverse (one_or_both next t ts o)) (sym j')
