-- One more byte of a part, by what its code brings.
use Rattle.std.proofs.Common.{◌≡◌, ◌∙◌, sym, ap, refl, subst, ℕ, ◌+◌, ◌-◌, ◌<◌, ◌≤◌, List, [], ◌∷◌, ◌++◌, Bool, true, false, ◌&&◌, if◌then◌else◌, Option, Some, None, arith, length, take, get_or, set}
use Rattle.std.specs.Prelude.{reverse}
use Rattle.std.specs.List.{AllByRecursion}
use Rattle.std.proofs.lemmas.List.{take_more, reverse-append, reverse-reverse, length-reverse, length-take-le}
use Rattle.std.proofs.Math.Seq.{set-append_seam}
use Rattle.std.proofs.lemmas.Bool.{cond_both}
use Rattle.pal_text.specs.declared.tokens.TokenKind.{TokenKind}
use Rattle.pal_text.specs.declared.tokens.TokenKind.TheVariants as kind
use Rattle.pal_text.specs.declared.tokens.Token.{Token}
use Rattle.pal_text.specs.declared.scan.CodeEffect.TheVariants.{Nothing, Feed, End, Comment, One}
use Rattle.pal_text.specs.declared.scan.Place.{Place}
use Rattle.pal_text.specs.declared.scan.Run.{Run}
use Rattle.pal_text.specs.Characters.{code, returned, in_comment, line}
use Rattle.pal_text.specs.Tokens.{is_space, absorbs, longer, token, is_end}
use Rattle.pal_text.specs.Adding.{with_kind, without_space, joined, one_or_both, added, tokens}
use Rattle.pal_text.specs.Scan.{brings, is_line_code, front, IsStop, IsQuiet, IsOutside, IsOpen, IsPlaceIn, IsOwn, is_word, spanned, IsRun, IsOnward}
use Rattle.pal_text.proofs.Apart.{added_apart}
use Rattle.pal_text.proofs.Rises.{all_reverse}
use Rattle.pal_text.proofs.Grows.{turned, before_last, last_is}
use Rattle.pal_text.proofs.Steps.{Kept, nothing_kept, feed_kept, end_closes, feed_closes, Grows, one_grows, Comments, comment_begins, comment_more, comment_closes}

pub next_front : (source : List ℕ) (at : ℕ) → at < length source → front source (at + 1) ≡ get_or source at 0 ∷ front source at
next_front source at h = ap reverse (take_more source at 0 h) ∙ reverse-append (take at source) (get_or source at 0 ∷ [])

pub front_length : (source : List ℕ) (at : ℕ) → at ≤ length source → length (front source at) ≡ at
front_length source at h = length-reverse (take at source) ∙ length-take-le at source h

-- the same said of a place
record KeptAt (source : List ℕ) (at : ℕ) : Type 0 where
  tokens_are : tokens (front source (at + 1)) ≡ tokens (front source at)
  line_is : line (front source (at + 1)) ≡ line (front source at)
  returned_is : returned (front source (at + 1)) ≡ returned (front source at)
  comment_is : in_comment (front source (at + 1)) ≡ in_comment (front source at)

kept_at : (source : List ℕ) (at : ℕ) → at < length source → Kept (front source at) (get_or source at 0) → KeptAt source at
kept_at source at h k =
    let e : front source (at + 1) ≡ get_or source at 0 ∷ front source at = next_front source at h in
    record { tokens_are = ap tokens e ∙ k.tokens_are; line_is = ap line e ∙ k.line_is; returned_is = ap returned e ∙ k.returned_is; comment_is = ap in_comment e ∙ k.comment_is }

record GrowsAt (source : List ℕ) (at : ℕ) (k : TokenKind) : Type 0 where
  tokens_are : tokens (front source (at + 1)) ≡ added (token k (line (front source at)) at) (tokens (front source at))
  line_is : line (front source (at + 1)) ≡ line (front source at)
  returned_is : returned (front source (at + 1)) ≡ false
  comment_is : in_comment (front source (at + 1)) ≡ false

grows_at : (source : List ℕ) (at : ℕ) (k : TokenKind) → at < length source → Grows (front source at) (get_or source at 0) k → GrowsAt source at k
grows_at source at k h g =
    let e : front source (at + 1) ≡ get_or source at 0 ∷ front source at = next_front source at h in
    record {
      tokens_are = ap tokens e ∙ g.tokens_are ∙ ap (λ n. added (token k (line (front source at)) n) (tokens (front source at))) (front_length source at (omega arith));
      line_is = ap line e ∙ g.line_is;
      returned_is = ap returned e ∙ g.returned_is;
      comment_is = ap in_comment e ∙ g.comment_is;
    }

pub grown_outside : (source : List ℕ) (at : ℕ) (k : TokenKind) → at < length source → in_comment (front source at) ≡ false → brings (code (get_or source at 0)) ≡ One k → IsOutside source (at + 1)
grown_outside source at k h c b =
    let g : GrowsAt source at k = grows_at source at k h (one_grows (front source at) (get_or source at 0) k c b) in
    record { inside = omega arith; comment_is = g.comment_is; returned_is = g.returned_is }

-- a token of letters and digits goes on
word_on : (k j k' : TokenKind) (n m start end at : ℕ) (ts : List Token) → longer k j ≡ Some k' → added (token j m at) (spanned k n start end ∷ ts) ≡ spanned k' n start (at + 1) ∷ ts
word_on k j k' n m start end at ts h = ap (λ o. one_or_both (token j m at) (spanned k n start end) ts (with_kind (spanned k n start end) (token j m at) o)) h

word_stays : (k j k' : TokenKind) → is_word k ≡ true → longer k j ≡ Some k' → is_word k' ≡ true
word_stays kind.Symbol kind.Symbol k' h e = cc
word_stays kind.Symbol kind.Number k' h e = cc
word_stays kind.Number kind.Symbol k' h e = cc
word_stays kind.Number kind.Number k' h e = cc
word_stays kind.Mixed kind.Symbol k' h e = cc
word_stays kind.Mixed kind.Number k' h e = cc
word_stays _ _ k' h e = cc

pub word_digit : (k : TokenKind) → is_word k ≡ true → longer k kind.Number ≡ Some k
word_digit kind.Symbol h = refl
word_digit kind.Number h = refl
word_digit kind.Mixed h = refl
word_digit _ h = cc

pub run_none : (source : List ℕ) (k : TokenKind) (end from : ℕ) (run : Run) → run.at < length source → brings (code (get_or source run.at 0)) ≡ Nothing → IsRun source k end from run
    → IsRun source k end from (record { kind = run.kind; end = run.end; at = run.at + 1 })
run_none source k end from run h b r =
    let q : KeptAt source run.at = kept_at source run.at h (nothing_kept (front source run.at) (get_or source run.at 0) b) in
    record {
      outside = record { inside = omega arith; comment_is = q.comment_is ∙ r.outside.comment_is; returned_is = q.returned_is ∙ r.outside.returned_is };
      forward = omega (arith, r.forward);
      word = r.word;
      line_is = q.line_is ∙ r.line_is;
      tokens_are = λ n start ts e. q.tokens_are ∙ r.tokens_are n start ts e;
    }

pub run_one : (source : List ℕ) (k : TokenKind) (end from : ℕ) (run : Run) (j k' : TokenKind) → run.at < length source → brings (code (get_or source run.at 0)) ≡ One j → longer run.kind j ≡ Some k'
    → IsRun source k end from run → IsRun source k end from (record { kind = k'; end = run.at + 1; at = run.at + 1 })
run_one source k end from run j k' h b more r =
    let g : GrowsAt source run.at j = grows_at source run.at j h (one_grows (front source run.at) (get_or source run.at 0) j r.outside.comment_is b) in
    record {
      outside = record { inside = omega arith; comment_is = g.comment_is; returned_is = g.returned_is };
      forward = omega (arith, r.forward);
      word = word_stays run.kind j k' r.word more;
      line_is = g.line_is ∙ r.line_is;
      tokens_are = λ n start ts e. g.tokens_are ∙ ap (added (token j (line (front source run.at)) run.at)) (r.tokens_are n start ts e) ∙ word_on run.kind j k' n (line (front source run.at)) start run.end run.at ts more;
    }

-- the last item of a list, the newest one
put_last : (items ts : List Token) (t y : Token) (count : ℕ) → items ≡ reverse (t ∷ ts) → count ≡ length items → reverse (set items (count - 1) y) ≡ y ∷ ts
put_last items ts t y count is n =
    ap (λ l. reverse (set l (count - 1) y)) (is ∙ turned t ts)
    ∙ ap (λ i. reverse (set (reverse ts ++ t ∷ []) i y)) (before_last items ts t count is n)
    ∙ ap reverse (set-append_seam (reverse ts) t [] y)
    ∙ ap reverse (sym (turned y ts))
    ∙ reverse-reverse (y ∷ ts)

word_open : (k : TokenKind) → is_word k ≡ true → is_end k ≡ false
word_open kind.End h = cc
word_open kind.Dollar h = cc
word_open _ h = refl

-- where the newest token is this one
record Newest (items : List Token) (count : ℕ) (t y : Token) : Type 0 where
  others : List Token
  was : reverse items ≡ t ∷ others
  is : reverse (set items (count - 1) y) ≡ y ∷ others

newest_by : (items ts : List Token) (count : ℕ) (t y : Token) → items ≡ reverse ts → count ≡ length items → 0 < count → t ≡ get_or items (count - 1) t → Newest items count t y
newest_by items [] count t y is n some h = absurd (omega (arith, ap length is))
newest_by items (x ∷ ts) count t y is n some h =
    let e : t ≡ x = last_is items ts x t count is n h in
    record { others = ts; was = ap reverse is ∙ reverse-reverse (x ∷ ts) ∙ ap (λ a. a ∷ ts) (sym e); is = put_last items ts x y count is n }

newest : (items : List Token) (count : ℕ) (t y : Token) → count ≡ length items → 0 < count → t ≡ get_or items (count - 1) t → Newest items count t y
newest items count t y n some h = newest_by items (reverse items) count t y (sym (reverse-reverse items)) n some h

opened : (items grown ts : List Token) (t y : Token) → reverse items ≡ t ∷ ts → reverse grown ≡ y ∷ ts → IsOpen y → AllByRecursion IsOpen items → AllByRecursion IsOpen grown
opened items grown ts t y was is o h =
    let P : List Token → Type 0 = λ l. AllByRecursion IsOpen l in
    let front_open : AllByRecursion IsOpen (t ∷ ts) = subst P was (all_reverse IsOpen items h) in
    let again : AllByRecursion IsOpen (reverse grown) = subst P (sym is) (o, front_open.1) in
    subst P (reverse-reverse grown) (all_reverse IsOpen (reverse grown) again)

pub onward_run : (source : List ℕ) (at : ℕ) (items : List Token) (count : ℕ) (t : Token) (run : Run) → count ≡ length items → 0 < count → t ≡ get_or items (count - 1) t
    → IsRun source t.kind t.end at run → IsOnward source at run.at items (set items (count - 1) (spanned run.kind t.line t.start run.end))
onward_run source at items count t run n some h r =
    let y : Token = spanned run.kind t.line t.start run.end in
    let k : Newest items count t y = newest items count t y n some h in
    record {
      outside = r.outside;
      forward = r.forward;
      line_is = r.line_is;
      tokens_are = λ before e. r.tokens_are t.line t.start (k.others ++ before) (e ∙ ap (λ l. l ++ before) k.was) ∙ sym (ap (λ l. l ++ before) k.is);
      ends_none = λ o. opened items (set items (count - 1) y) k.others t y k.was k.is (word_open run.kind r.word) o;
    }

-- how far the tokens of a statement were read
abbrev pub Reading : List ℕ → Place → ℕ → Bool → List Token → Type 0
Reading source place at was own =
    IsOwn source place at own × (was ≡ returned (front source at)) × (in_comment (front source at) ≡ false) × (at ≤ length source)

reading_kept : (source : List ℕ) (place : Place) (at : ℕ) (was : Bool) (own : List Token) → at < length source → KeptAt source at → Reading source place at was own → Reading source place (at + 1) was own
reading_kept source place at was own h q r = (
  record { tokens_are = q.tokens_are ∙ r.0.tokens_are; line_is = q.line_is ∙ r.0.line_is; ends_none = r.0.ends_none },
  r.1 ∙ sym q.returned_is,
  q.comment_is ∙ r.2,
  omega arith,
)

pub reading_nothing : (source : List ℕ) (place : Place) (at : ℕ) (was : Bool) (own : List Token) → at < length source → brings (code (get_or source at 0)) ≡ Nothing → Reading source place at was own → Reading source place (at + 1) was own
reading_nothing source place at was own h b r = reading_kept source place at was own h (kept_at source at h (nothing_kept (front source at) (get_or source at 0) b)) r

pub reading_feed : (source : List ℕ) (place : Place) (at : ℕ) (was : Bool) (own : List Token) → at < length source → brings (code (get_or source at 0)) ≡ Feed → was ≡ true → Reading source place at was own → Reading source place (at + 1) was own
reading_feed source place at was own h b t r = reading_kept source place at was own h (kept_at source at h (feed_kept (front source at) (get_or source at 0) b (sym r.1 ∙ t))) r

pub stop_end : (source : List ℕ) (place : Place) (at : ℕ) (was : Bool) (own : List Token) → brings (code (get_or source at 0)) ≡ End → Reading source place at was own → IsStop source at
stop_end source place at was own b r = record { inside = r.3; closes = λ h. end_closes (front source at) (get_or source at 0) r.2 b }

pub stop_feed : (source : List ℕ) (place : Place) (at : ℕ) (was : Bool) (own : List Token) → brings (code (get_or source at 0)) ≡ Feed → was ≡ false → Reading source place at was own → IsStop source at
stop_feed source place at was own b f r = record { inside = r.3; closes = λ h. feed_closes (front source at) (get_or source at 0) r.2 b (sym r.1 ∙ f) }

-- a comment begins
pub comment_front : (source : List ℕ) (at : ℕ) → at < length source → in_comment (front source at) ≡ false → brings (code (get_or source at 0)) ≡ Comment → in_comment (front source (at + 1)) ≡ true
comment_front source at h c b = ap in_comment (next_front source at h) ∙ (comment_begins (front source at) (get_or source at 0) c b).comment_is

pub comment_unreturned : (source : List ℕ) (at : ℕ) → at < length source → in_comment (front source at) ≡ false → brings (code (get_or source at 0)) ≡ Comment → returned (front source (at + 1)) ≡ false
comment_unreturned source at h c b = ap returned (next_front source at h) ∙ (comment_begins (front source at) (get_or source at 0) c b).returned_is

-- a comment goes on
pub quiet_more : (source : List ℕ) (from at : ℕ) → at < length source → IsQuiet source from at → in_comment (front source at) ≡ true → returned (front source at) ≡ false → is_line_code (code (get_or source at 0)) ≡ false
    → IsQuiet source from (at + 1) × (in_comment (front source (at + 1)) ≡ true) × (returned (front source (at + 1)) ≡ false) × (at + 1 ≤ length source)
quiet_more source from at h q c r b =
    let k : Comments (front source at) (get_or source at 0) = comment_more (front source at) (get_or source at 0) c r b in
    let e : front source (at + 1) ≡ get_or source at 0 ∷ front source at = next_front source at h in
    (record { tokens_are = ap tokens e ∙ k.tokens_are ∙ q.tokens_are; line_is = ap line e ∙ k.line_is ∙ q.line_is }, ap in_comment e ∙ k.comment_is, ap returned e ∙ k.returned_is, omega arith)

-- and ends
pub stop_comment : (source : List ℕ) (at : ℕ) → at ≤ length source → returned (front source at) ≡ false → is_line_code (code (get_or source at 0)) ≡ true → IsStop source at
stop_comment source at h r b = record { inside = h; closes = λ h. comment_closes (front source at) (get_or source at 0) r b }

pub own_comment : (source : List ℕ) (place : Place) (at to : ℕ) (was : Bool) (own : List Token) → at < length source → brings (code (get_or source at 0)) ≡ Comment → Reading source place at was own → IsQuiet source (at + 1) to → IsOwn source place to own
own_comment source place at to was own h b r q =
    let c : Comments (front source at) (get_or source at 0) = comment_begins (front source at) (get_or source at 0) r.2 b in
    record {
      tokens_are = q.tokens_are ∙ ap tokens (next_front source at h) ∙ c.tokens_are ∙ r.0.tokens_are;
      line_is = q.line_is ∙ ap line (next_front source at h) ∙ c.line_is ∙ r.0.line_is;
      ends_none = r.0.ends_none;
    }

-- a character is added
abbrev OpenOne : Option Token → Type 0
OpenOne None = Unit {0}
OpenOne (Some t) = IsOpen t

longer_open : (k n k' : TokenKind) → longer k n ≡ Some k' → is_end k' ≡ false
longer_open kind.Symbol kind.Symbol k' h = cc
longer_open kind.Symbol kind.Number k' h = cc
longer_open kind.Number kind.Number k' h = cc
longer_open kind.Number kind.Symbol k' h = cc
longer_open kind.Mixed kind.Symbol k' h = cc
longer_open kind.Mixed kind.Number k' h = cc
longer_open kind.Space kind.Space k' h = cc
longer_open _ _ k' h = cc

open_space : (t next : Token) → IsOpen t → IsOpen next → OpenOne (without_space t next)
open_space t next o n =
    cond_both (is_space next.kind && absorbs t.kind) (Some t) (if is_space t.kind && absorbs next.kind then Some next else None) (λ x. OpenOne x) (λ is. o)
    (λ is. cond_both (is_space t.kind && absorbs next.kind) (Some next) None (λ x. OpenOne x) (λ too. n) (λ too. tt))

open_kind : (t next : Token) (o : Option TokenKind) → longer t.kind next.kind ≡ o → IsOpen t → IsOpen next → OpenOne (with_kind t next o)
open_kind t next None e a b = open_space t next a b
open_kind t next (Some k) e a b = longer_open t.kind next.kind k e

open_both : (next t : Token) (ts : List Token) (o : Option Token) → OpenOne o → IsOpen next → AllByRecursion IsOpen (t ∷ ts) → AllByRecursion IsOpen (one_or_both next t ts o)
open_both next t ts None o n h = (n, h)
open_both next t ts (Some one) o n h = (o, h.1)

added_open : (next : Token) (ts : List Token) → IsOpen next → AllByRecursion IsOpen ts → AllByRecursion IsOpen (added next ts)
added_open next [] n h = cond_both (is_space next.kind) [] (next ∷ []) (λ l. AllByRecursion IsOpen l) (λ is. tt) (λ is. (n, tt))
added_open next (t ∷ ts) n h = open_both next t ts (joined t next) (open_kind t next (longer t.kind next.kind) refl h.0 n) n h

pub reading_added : (source : List ℕ) (place : Place) (at : ℕ) (was : Bool) (own more : List Token) (k : TokenKind) → IsPlaceIn source place → at < length source → brings (code (get_or source at 0)) ≡ One k
    → Reading source place at was own → reverse more ≡ added (token k place.line at) (reverse own) → tokens (front source (at + 1)) ≡ reverse more ++ tokens (front source place.at)
reading_added source place at was own more k p h b r e =
    let g : GrowsAt source at k = grows_at source at k h (one_grows (front source at) (get_or source at 0) k r.2 b) in
    g.tokens_are
    ∙ ap (λ n. added (token k n at) (tokens (front source at))) r.0.line_is
    ∙ ap (added (token k place.line at)) r.0.tokens_are
    ∙ added_apart (token k place.line at) (reverse own) (tokens (front source place.at)) p.cut
    ∙ sym (ap (λ l. l ++ tokens (front source place.at)) e)

pub reading_one : (source : List ℕ) (place : Place) (at to : ℕ) (was : Bool) (own more grown : List Token) (k : TokenKind) → IsPlaceIn source place → at < length source → brings (code (get_or source at 0)) ≡ One k
    → Reading source place at was own → more ≡ reverse (added (token k place.line at) (reverse own)) → IsOnward source (at + 1) to more grown → Reading source place to false grown
reading_one source place at to was own more grown k p h b r e o =
    let g : GrowsAt source at k = grows_at source at k h (one_grows (front source at) (get_or source at 0) k r.2 b) in
    let back : reverse more ≡ added (token k place.line at) (reverse own) = ap reverse e ∙ reverse-reverse (added (token k place.line at) (reverse own)) in
    let P : List Token → Type 0 = λ l. AllByRecursion IsOpen l in
    let all : AllByRecursion IsOpen (added (token k place.line at) (reverse own)) = added_open (token k place.line at) (reverse own) ((one_grows (front source at) (get_or source at 0) k r.2 b).ends_none) (all_reverse IsOpen own r.0.ends_none) in (
      record {
        tokens_are = o.tokens_are (tokens (front source place.at)) (reading_added source place at was own more k p h b r back);
        line_is = o.line_is ∙ g.line_is ∙ r.0.line_is;
        ends_none = o.ends_none (subst P (sym e) (all_reverse IsOpen (added (token k place.line at) (reverse own)) all));
      },
      sym o.outside.returned_is,
      o.outside.comment_is,
      o.outside.inside,
    )

pub reading_front : (source : List ℕ) (place : Place) (own : List Token) → IsPlaceIn source place → own ≡ [] → Reading source place place.at place.returned own
reading_front source place own p e =
    let P : List Token → Type 0 = λ l. AllByRecursion IsOpen l in
    (record { tokens_are = sym (ap (λ l. reverse l ++ tokens (front source place.at)) e); line_is = sym p.line_is; ends_none = subst P (sym e) tt }, p.returned_is, p.comment_is, p.inside)
