-- The next statement of a part, by its tokens as they were read.
use Rattle.std.proofs.Common.{◌≡◌, ◌≢◌, ◌∙◌, sym, ap, refl, subst, ℕ, ◌+◌, ◌-◌, ◌<◌, ◌≤◌, zero, List, [], ◌∷◌, ◌++◌, Bool, true, false, ◌||◌, if◌then◌else◌, Option, Some, None, inl, inr, arith, length, take, drop, get_or, append_assoc, length-append}
use Rattle.std.specs.Prelude.{reverse, map, slice_range, nat_eq, codes}
use Rattle.std.specs.List.{AllByRecursion}
use Rattle.std.specs.Cmp.Lexicographic.{pointwise}
use Rattle.std.proofs.lemmas.Bool.{cases_Bool, eqb-true, cond_both}
use Rattle.std.proofs.lemmas.Bool.Decides.{nat_tests}
use Rattle.std.proofs.lemmas.List.{reverse-append, reverse-reverse, length-reverse, length-map, map-append, take_all, take-append-drop, length-take-le}
use Rattle.std.proofs.Math.Seq.{drop-append_seam, take-append_seam}
use Rattle.pal_text.specs.declared.characters.Meaning.{Meaning}
use Rattle.pal_text.specs.declared.characters.Meaning.TheVariants.{Ignored, LineEnd, Character}
use Rattle.pal_text.specs.declared.tokens.TokenKind.{TokenKind}
use Rattle.pal_text.specs.declared.tokens.TokenKind.TheVariants as kind
use Rattle.pal_text.specs.declared.tokens.Token.{Token}
use Rattle.pal_text.specs.declared.grammar.Form.{Form}
use Rattle.pal_text.specs.declared.grammar.Form.TheVariants as form
use Rattle.pal_text.specs.declared.grammar.Shape.{Shape}
use Rattle.pal_text.specs.declared.scan.Place.{Place}
use Rattle.pal_text.specs.declared.statement.PartEnd.{PartEnd}
use Rattle.pal_text.specs.declared.reader.DelimitedStatement.{DelimitedStatement}
use Rattle.pal_text.specs.declared.reader.ReaderState.{ReaderState}
use Rattle.pal_text.specs.declared.reader.ReaderState.TheVariants.{Begins, Ended}
use Rattle.pal_text.specs.Characters.{code, returned, in_comment, line, meaning_after}
use Rattle.pal_text.specs.Tokens.{is_space, token, kind_of, end_token, is_end}
use Rattle.pal_text.specs.Adding.{joined, one_or_both, added, grown, tokens, ended, all_read}
use Rattle.pal_text.specs.Names.{IsWithin, with_name, name, bytes_of, named, part_tokens}
use Rattle.pal_text.specs.Progress.{ended_at}
use Rattle.pal_text.specs.Reading.{shape}
use Rattle.pal_text.specs.Statements.{is_dollar, piece, pieces, own, closing}
use Rattle.pal_text.specs.Readers.{rest, IsNext, IsBroken}
use Rattle.pal_text.specs.Scan.{front, mark_kind, line_past, trimmed, mark, next_place, Closes, IsStop, IsCut, IsOpen, IsPlaceIn, stands_by, StandsAt, IsOwn}
use Rattle.pal_text.proofs.Apart.{added_apart, added_end, Later, ended_later, Ends, ended_on}
use Rattle.pal_text.proofs.CountedLemmas.{part_are}
use Rattle.pal_text.proofs.Cuts.{made, made_fills}
use Rattle.pal_text.proofs.Fronts.{next_front}
use Rattle.pal_text.proofs.Grows.{turned}
use Rattle.pal_text.proofs.Readings.{shape_none}
use Rattle.pal_text.proofs.Rises.{all_reverse, all_tokens_within, part_tokens_within, written_back}
use Rattle.pal_text.proofs.ByMeaning.{line_by}

-- no byte brings more than one token, or ends more than one line
both_length : (next t : Token) (ts : List Token) (o : Option Token) → length (one_or_both next t ts o) ≤ length ts + 2
both_length next t ts None = omega arith
both_length next t ts (Some one) = omega arith

added_length : (next : Token) (ts : List Token) → length (added next ts) ≤ length ts + 1
added_length next [] = cond_both (is_space next.kind) [] (next ∷ []) (λ l. length l ≤ 1) (λ is. omega arith) (λ is. omega arith)
added_length next (t ∷ ts) = omega (arith, both_length next t ts (joined t next))

grown_length : (at n : ℕ) (comment : Bool) (m : Meaning) (ts : List Token) → length (grown at n comment m ts) ≤ length ts + 1
grown_length at n comment Ignored ts = omega arith
grown_length at n comment LineEnd ts = added_length (token kind.End n at) ts
grown_length at n comment (Character c) ts =
    cond_both (comment || nat_eq c 47) ts (added (token (kind_of c) n at) ts) (λ l. length l ≤ length ts + 1) (λ is. omega arith) (λ is. added_length (token (kind_of c) n at) ts)

tokens_length : (f : List ℕ) → length (tokens f) ≤ length f
tokens_length [] = omega arith
tokens_length (b ∷ f) = omega (arith, grown_length (length f) (line f) (in_comment f) (meaning_after f b) (tokens f), tokens_length f)

ended_length : (f : List ℕ) → length (ended f) ≤ length f + 1
ended_length f = omega (arith, added_length (end_token f) (tokens f), tokens_length f)

part_length : (source : List ℕ) → length (part_tokens source) ≤ length source + 1
part_length source = omega (arith, ap length (part_are source), length-map (all_read source) (named source), length-reverse (ended (reverse source)), ended_length (reverse source), length-reverse source)

line_by_more : (n : ℕ) (m : Meaning) → line_by n m ≤ n + 1
line_by_more n Ignored = omega arith
line_by_more n LineEnd = omega arith
line_by_more n (Character c) = omega arith

line_most : (f : List ℕ) → line f ≤ length f + 1
line_most [] = omega arith
line_most (b ∷ f) = omega (arith, line_by_more (line f) (meaning_after f b), line_most f)

pub line_small : (source : List ℕ) (place : Place) → length source ≤ 65536 → IsPlaceIn source place → place.line ≤ 65536 + 1
line_small source place size p = omega (arith, p.line_is, line_most (front source place.at), length-reverse (take place.at source), length-take-le place.at source p.inside, p.inside)

-- the tokens of a statement and the one that ends it, among those of the part
pub record Made (source : List ℕ) (place : Place) (raw : List Token) (m : Token) : Type 0 where
  pub more : List Token
  pub is : ended (reverse source) ≡ more ++ (m ∷ reverse raw ++ tokens (front source place.at))
  pub is_mark : is_end m.kind ≡ true

-- what is read at the byte that ends a statement
passed : (source : List ℕ) (place : Place) (stop : ℕ) (before raw : List Token) (m : Token) → IsPlaceIn source place → IsOwn source place stop before → reverse raw ≡ trimmed (reverse before) → is_end m.kind ≡ true
    → added m (tokens (front source stop)) ≡ m ∷ reverse raw ++ tokens (front source place.at)
passed source place stop before raw m p o cut e =
    ap (added m) o.tokens_are
    ∙ added_apart m (reverse before) (tokens (front source place.at)) p.cut
    ∙ ap (λ l. l ++ tokens (front source place.at)) (added_end m (reverse before) e)
    ∙ ap (λ l. (m ∷ l) ++ tokens (front source place.at)) (sym cut)

stop_tokens : (source : List ℕ) (place : Place) (stop : ℕ) (before raw : List Token) → IsPlaceIn source place → IsOwn source place stop before → reverse raw ≡ trimmed (reverse before) → stop < length source → Closes (front source stop) (get_or source stop 0)
    → tokens (front source (stop + 1)) ≡ token (mark_kind (code (get_or source stop 0))) place.line stop ∷ reverse raw ++ tokens (front source place.at)
stop_tokens source place stop before raw p o cut h c =
    let size : length (front source stop) ≡ stop = length-reverse (take stop source) ∙ length-take-le stop source (omega arith) in
    ap tokens (next_front source stop h)
    ∙ c.tokens_are
    ∙ ap (λ n. added (token (mark_kind (code (get_or source stop 0))) (line (front source stop)) n) (tokens (front source stop))) size
    ∙ ap (λ n. added (token (mark_kind (code (get_or source stop 0))) n stop) (tokens (front source stop))) o.line_is
    ∙ passed source place stop before raw (token (mark_kind (code (get_or source stop 0))) place.line stop) p o cut c.is_mark

pub split_source : (source : List ℕ) (at : ℕ) → reverse source ≡ reverse (drop at source) ++ front source at
split_source source at = ap reverse (sym (take-append-drop at source)) ∙ reverse-append (take at source) (drop at source)

cut_at : (ts us : List Token) (m : Token) → ts ≡ m ∷ us → is_end m.kind ≡ true → IsCut ts
cut_at ts us m e h = let P : List Token → Type 0 = λ l. IsCut l in subst P (sym e) h

made_middle : (source : List ℕ) (place : Place) (stop : ℕ) (before raw : List Token) → IsPlaceIn source place → IsOwn source place stop before → IsStop source stop → reverse raw ≡ trimmed (reverse before) → stop < length source
    → Made source place raw (token (mark_kind (code (get_or source stop 0))) place.line stop)
made_middle source place stop before raw p o s cut h =
    let m : Token = token (mark_kind (code (get_or source stop 0))) place.line stop in
    let e : tokens (front source (stop + 1)) ≡ m ∷ reverse raw ++ tokens (front source place.at) = stop_tokens source place stop before raw p o cut h (s.closes h) in
    let l : Later (tokens (front source (stop + 1))) (ended (reverse (drop (stop + 1) source) ++ front source (stop + 1))) =
    ended_later (reverse (drop (stop + 1) source)) (front source (stop + 1)) (cut_at (tokens (front source (stop + 1))) (reverse raw ++ tokens (front source place.at)) m e (s.closes h).is_mark) in
    record { more = l.more; is = ap ended (split_source source (stop + 1)) ∙ l.is ∙ ap (λ ts. l.more ++ ts) e; is_mark = (s.closes h).is_mark }

end_mark : List ℕ → ℕ → ℕ → Token
end_mark source n at = record { kind = kind.End; line = n; start = at; end = at }

ended_all : (source : List ℕ) (place : Place) (stop : ℕ) (before raw : List Token) → IsPlaceIn source place → IsOwn source place stop before → reverse raw ≡ trimmed (reverse before) → stop ≡ length source
    → ended (reverse source) ≡ end_mark source place.line stop ∷ reverse raw ++ tokens (front source place.at)
unfolding end_mark
ended_all source place stop before raw p o cut h =
    let all : front source stop ≡ reverse source = ap reverse (take_all stop source (omega arith)) in
    let size : length (front source stop) ≡ stop = length-reverse (take stop source) ∙ length-take-le stop source (omega arith) in
    ap ended (sym all)
    ∙ ap (λ n. added (record { kind = kind.End; line = line (front source stop); start = n; end = n }) (tokens (front source stop))) size
    ∙ ap (λ n. added (record { kind = kind.End; line = n; start = stop; end = stop }) (tokens (front source stop))) o.line_is
    ∙ passed source place stop before raw (end_mark source place.line stop) p o cut refl

inside_of : (a b : ℕ) → nat_eq a b ≡ false → a ≤ b → a < b
inside_of a b e h = grind (arith, nat_tests)

pub made_at : (source : List ℕ) (place : Place) (stop : ℕ) (before raw : List Token) → IsPlaceIn source place → IsOwn source place stop before → IsStop source stop → reverse raw ≡ trimmed (reverse before)
    → Made source place raw (mark source place.line stop)
unfolding end_mark
made_at source place stop before raw p o s cut =
    cond_both (nat_eq stop (length source)) (end_mark source place.line stop) (token (mark_kind (code (get_or source stop 0))) place.line stop) (λ m. Made source place raw m)
    (λ last. record { more = []; is = ended_all source place stop before raw p o cut (eqb-true stop (length source) last); is_mark = refl })
    (λ other. made_middle source place stop before raw p o s cut (inside_of stop (length source) other s.inside))

counted : (source : List ℕ) (place : Place) (count : ℕ) (raw : List Token) (m : Token) (ts : List Token) → count ≡ length (tokens (front source place.at)) → ts ≡ m ∷ reverse raw ++ tokens (front source place.at) → count + length raw + 1 ≡ length ts
counted source place count raw m ts n e = omega (arith, ap length e, length-append (reverse raw) (tokens (front source place.at)), length-reverse raw)

pub standing_after : (source : List ℕ) (place : Place) (stop count : ℕ) (before raw : List Token) → IsPlaceIn source place → IsOwn source place stop before → IsStop source stop → reverse raw ≡ trimmed (reverse before)
    → count ≡ length (tokens (front source place.at)) → stop < length source → StandsAt source (count + length raw + 1) (Begins (next_place source place.line stop))
standing_after source place stop count before raw p o s cut n h =
    let c : Closes (front source stop) (get_or source stop 0) = s.closes h in
    let m : Token = token (mark_kind (code (get_or source stop 0))) place.line stop in
    let e : tokens (front source (stop + 1)) ≡ m ∷ reverse raw ++ tokens (front source place.at) = stop_tokens source place stop before raw p o cut h c in (
      record {
        inside = omega arith;
        line_is = ap (λ k. line_past k (code (get_or source stop 0))) (sym o.line_is) ∙ sym c.line_is ∙ ap line (sym (next_front source stop h));
        returned_is = sym c.returned_is ∙ ap returned (sym (next_front source stop h));
        comment_is = ap in_comment (next_front source stop h) ∙ c.comment_is;
        cut = cut_at (tokens (front source (stop + 1))) (reverse raw ++ tokens (front source place.at)) m e c.is_mark;
      },
      counted source place count raw m (tokens (front source (stop + 1))) n e,
    )

-- a part that goes on has a byte where the statement ends
mark_start : (source : List ℕ) (n at : ℕ) → (mark source n at).start ≡ at
unfolding end_mark
mark_start source n at =
    cond_both (nat_eq at (length source)) (end_mark source n at) (token (mark_kind (code (get_or source at 0))) n at) (λ m. m.start ≡ at) (λ is. refl) (λ is. refl)

some_none : (b : Bool) (c : PartEnd) → (if b then Some c else None) ≡ None → b ≡ false
some_none true c e = cc
some_none false c e = refl

past_dollar : (b : Bool) (c : PartEnd) (o : Option PartEnd) → (if b then Some c else o) ≡ None → o ≡ None
past_dollar true c o e = cc
past_dollar false c o e = e

bytes_left : (size : ℕ) (ts : List Token) (m : Token) (f : Form) → closing size ts m f ≡ None → nat_eq m.start size ≡ false
bytes_left size ts m form.Pause e = cc
bytes_left size ts m _ e = some_none (nat_eq m.start size) _ (past_dollar (is_dollar m.kind) _ _ e)

pub goes_inside : (source : List ℕ) (n at : ℕ) (ts : List Token) (m : Token) (f : Form) (close : Option PartEnd) → m ≡ mark source n at → at ≤ length source → close ≡ closing (length source) ts m f → close ≡ None → at < length source
goes_inside source n at ts m f close is inside closes none =
    let start : m.start ≡ at = (let start_in : Token → ℕ = λ t. t.start in ap start_in is) ∙ mark_start source n at in
    inside_of at (length source) (ap (λ k. nat_eq k (length source)) (sym start) ∙ bytes_left (length source) ts m f (sym closes ∙ none)) inside

-- the tokens of the part around those of the statement
all_around : (source : List ℕ) (place : Place) (raw : List Token) (m : Token) (k : Made source place raw m) → all_read source ≡ reverse (tokens (front source place.at)) ++ (raw ++ m ∷ reverse k.more)
all_around source place raw m k =
    let b : List Token = tokens (front source place.at) in
    ap reverse k.is
    ∙ reverse-append k.more (m ∷ reverse raw ++ b)
    ∙ ap (λ l. l ++ reverse k.more) (turned m (reverse raw ++ b))
    ∙ ap (λ l. (l ++ m ∷ []) ++ reverse k.more) (reverse-append (reverse raw) b)
    ∙ ap (λ l. ((reverse b ++ l) ++ m ∷ []) ++ reverse k.more) (reverse-reverse raw)
    ∙ append_assoc (reverse b ++ raw) (m ∷ []) (reverse k.more)
    ∙ append_assoc (reverse b) raw (m ∷ reverse k.more)

all_left : {X : Type 0} (P : X → Type 0) (xs ys : List X) → AllByRecursion P (xs ++ ys) → AllByRecursion P xs
all_left P [] ys h = tt
all_left P (x ∷ xs) ys h = (h.0, all_left P xs ys h.1)

all_right : {X : Type 0} (P : X → Type 0) (xs ys : List X) → AllByRecursion P (xs ++ ys) → AllByRecursion P ys
all_right P [] ys h = h
all_right P (x ∷ xs) ys h = all_right P xs ys h.1

pub raw_within : (source : List ℕ) (place : Place) (raw : List Token) (m : Token) → Made source place raw m → AllByRecursion (IsWithin (length source)) raw
raw_within source place raw m k =
    let P : List Token → Type 0 = λ l. AllByRecursion (IsWithin (length source)) l in
    let all : AllByRecursion (IsWithin (length source)) (reverse (tokens (front source place.at)) ++ (raw ++ m ∷ reverse k.more)) = subst P (all_around source place raw m k) (all_tokens_within source) in
    all_left (IsWithin (length source)) raw (m ∷ reverse k.more) (all_right (IsWithin (length source)) (reverse (tokens (front source place.at))) (raw ++ m ∷ reverse k.more) all)

-- names leave what ends a statement
with_name_end : (source : List ℕ) (t : Token) (k : TokenKind) → is_end k ≡ true → with_name source t k ≡ k
with_name_end source t kind.End h = refl
with_name_end source t kind.Dollar h = refl
with_name_end source t _ h = cc

named_mark : (source : List ℕ) (t : Token) → is_end t.kind ≡ true → named source t ≡ t
named_mark source t h = ap (λ k. record t { kind = k }) (with_name_end source t t.kind h)

direction_open : (a b c : Bool) → is_end (if a then kind.Decimal else if b then kind.Octal else if c then kind.Pause else kind.Symbol) ≡ false
direction_open true b c = refl
direction_open false true c = refl
direction_open false false true = refl
direction_open false false false = refl

pub with_name_open : (source : List ℕ) (t : Token) (k : TokenKind) → is_end k ≡ false → is_end (with_name source t k) ≡ false
with_name_open source t kind.Symbol h =
    let letters : List ℕ = name (bytes_of source t) in
    direction_open (pointwise nat_eq letters (codes "DECIMA")) (pointwise nat_eq letters (codes "OCTAL ")) (pointwise nat_eq letters (codes "PAUSE "))
with_name_open source t _ h = h

named_open : (source : List ℕ) (ts : List Token) → AllByRecursion IsOpen ts → AllByRecursion IsOpen (map (named source) ts)
named_open source [] h = tt
named_open source (t ∷ ts) h = (with_name_open source t t.kind h.0, named_open source ts h.1)

trimmed_open : (ts : List Token) → AllByRecursion IsOpen ts → AllByRecursion IsOpen (trimmed ts)
trimmed_open [] h = tt
trimmed_open (t ∷ ts) h = cond_both (is_space t.kind) ts (t ∷ ts) (λ l. AllByRecursion IsOpen l) (λ is. h.1) (λ is. h)

raw_open : (before raw : List Token) → reverse raw ≡ trimmed (reverse before) → AllByRecursion IsOpen before → AllByRecursion IsOpen raw
raw_open before raw e h =
    let P : List Token → Type 0 = λ l. AllByRecursion IsOpen l in
    subst P (reverse-reverse raw) (all_reverse IsOpen (reverse raw) (subst P (sym e) (trimmed_open (reverse before) (all_reverse IsOpen before h))))

-- the pieces of tokens of which the first so many end no statement
pieces_open : (first at : ℕ) (ts us : List Token) (m : Token) → AllByRecursion IsOpen ts → is_end m.kind ≡ true → pieces first at (ts ++ m ∷ us) ≡ piece first (at + length ts) m ∷ pieces (at + length ts + 1) (at + length ts + 1) us
pieces_open first at [] us m h e =
    let z : at ≡ at + zero = omega arith in
    ap (λ b. if b then piece first at m ∷ pieces (at + 1) (at + 1) us else pieces first (at + 1) us) e ∙ ap (λ n. piece first n m ∷ pieces (n + 1) (n + 1) us) z
pieces_open first at (t ∷ ts) us m h e =
    let n : at + 1 + length ts ≡ at + length (t ∷ ts) = omega arith in
    ap (λ b. if b then piece first at t ∷ pieces (at + 1) (at + 1) (ts ++ m ∷ us) else pieces first (at + 1) (ts ++ m ∷ us)) h.0
    ∙ pieces_open first (at + 1) ts us m h.1 e
    ∙ ap (λ k. piece first k m ∷ pieces (k + 1) (k + 1) us) n

-- what follows of the tokens of the part
pub record Stands (source : List ℕ) (count : ℕ) (named_own : List Token) (m : Token) : Type 0 where
  pub rest_is : rest source count ≡ piece count (count + length named_own) m ∷ rest source (count + length named_own + 1)
  pub own_is : named_own ≡ slice_range (part_tokens source) count (count + length named_own)
  pub small : count + length named_own + 1 ≤ length source + 1
  pub within : AllByRecursion (IsWithin (length source)) named_own

drop_front : (front_tokens own_tokens after : List Token) (m : Token) (count : ℕ) → length front_tokens ≡ count → drop (count + length own_tokens + 1) (front_tokens ++ (own_tokens ++ m ∷ after)) ≡ after
drop_front front_tokens own_tokens after m count n =
    let size : length (front_tokens ++ (own_tokens ++ m ∷ [])) ≡ count + length own_tokens + 1 = omega (arith, length-append front_tokens (own_tokens ++ m ∷ []), length-append own_tokens (m ∷ [])) in
    let e : front_tokens ++ (own_tokens ++ m ∷ after) ≡ (front_tokens ++ (own_tokens ++ m ∷ [])) ++ after =
    ap (λ l. front_tokens ++ l) (sym (append_assoc own_tokens (m ∷ []) after)) ∙ sym (append_assoc front_tokens (own_tokens ++ m ∷ []) after) in
    ap (λ k. drop k (front_tokens ++ (own_tokens ++ m ∷ after))) (sym size)
    ∙ ap (drop (length (front_tokens ++ (own_tokens ++ m ∷ [])))) e
    ∙ drop-append_seam (front_tokens ++ (own_tokens ++ m ∷ [])) after

stands_in : (source : List ℕ) (count : ℕ) (front_tokens own_tokens after : List Token) (m : Token) → part_tokens source ≡ front_tokens ++ (own_tokens ++ m ∷ after) → length front_tokens ≡ count → AllByRecursion IsOpen own_tokens → is_end m.kind ≡ true
    → Stands source count own_tokens m
stands_in source count front_tokens own_tokens after m is n o e =
    let here : drop count (part_tokens source) ≡ own_tokens ++ m ∷ after = ap (drop count) is ∙ ap (λ k. drop k (front_tokens ++ (own_tokens ++ m ∷ after))) (sym n) ∙ drop-append_seam front_tokens (own_tokens ++ m ∷ after) in
    let later : drop (count + length own_tokens + 1) (part_tokens source) ≡ after = ap (drop (count + length own_tokens + 1)) is ∙ drop_front front_tokens own_tokens after m count n in
    let width : count + length own_tokens - count ≡ length own_tokens = omega arith in
    let P : List Token → Type 0 = λ l. AllByRecursion (IsWithin (length source)) l in
    record {
      rest_is = ap (pieces count count) here ∙ pieces_open count count own_tokens after m o e ∙ ap (λ l. piece count (count + length own_tokens) m ∷ pieces (count + length own_tokens + 1) (count + length own_tokens + 1) l) (sym later);
      own_is = sym (ap (take (count + length own_tokens - count)) here ∙ ap (λ k. take k (own_tokens ++ m ∷ after)) width ∙ take-append_seam own_tokens (m ∷ after));
      small = omega (arith, part_length source, ap length is, length-append front_tokens (own_tokens ++ m ∷ after), length-append own_tokens (m ∷ after));
      within = all_left (IsWithin (length source)) own_tokens (m ∷ after) (all_right (IsWithin (length source)) front_tokens (own_tokens ++ m ∷ after) (subst P is (part_tokens_within source)));
    }

pub stands_made : (source : List ℕ) (place : Place) (stop count : ℕ) (before raw : List Token) → IsPlaceIn source place → IsOwn source place stop before → IsStop source stop → reverse raw ≡ trimmed (reverse before)
    → count ≡ length (tokens (front source place.at)) → Stands source count (map (named source) raw) (mark source place.line stop)
stands_made source place stop count before raw p o s cut n =
    let m : Token = mark source place.line stop in
    let k : Made source place raw m = made_at source place stop before raw p o s cut in
    let b : List Token = tokens (front source place.at) in
    let is : part_tokens source ≡ map (named source) (reverse b) ++ (map (named source) raw ++ m ∷ map (named source) (reverse k.more)) =
    part_are source
    ∙ ap (map (named source)) (all_around source place raw m k)
    ∙ map-append (named source) (reverse b) (raw ++ m ∷ reverse k.more)
    ∙ ap (λ l. map (named source) (reverse b) ++ l) (map-append (named source) raw (m ∷ reverse k.more))
    ∙ ap (λ x. map (named source) (reverse b) ++ (map (named source) raw ++ x ∷ map (named source) (reverse k.more))) (named_mark source m k.is_mark) in
    stands_in source count (map (named source) (reverse b)) (map (named source) raw) (map (named source) (reverse k.more)) m is
    (length-map (reverse b) (named source) ∙ length-reverse b ∙ sym n) (named_open source raw (raw_open before raw cut o.ends_none)) k.is_mark

-- the tokens of a statement after their names were told in place
pub back : (items now new : List Token) (n : ℕ) (f : Token → Token) → now ≡ items → new ≡ map f now → n ≡ length items → take n (new ++ drop (length new) items) ≡ map f items
back items now new n f e is size =
    let same : new ≡ map f items = is ∙ ap (map f) e in
    written_back items new n (sym size) (ap length same ∙ length-map items f ∙ sym size) ∙ same

-- what is found
abbrev pub found_of : ℕ → ℕ → Token → Shape → DelimitedStatement
found_of count size m s = record { statement = made count (count + size) m s; mark = m }

ended_as : (o : Option PartEnd) (next : Place) → ended_at (stands_by o next) ≡ o
ended_as None next = refl
ended_as (Some c) next = refl

pub next_found : (source : List ℕ) (count size : ℕ) (raw own_tokens read_tokens closed_tokens : List Token) (m : Token) (s : Shape) (close : Option PartEnd) (next : Place) (standing : ReaderState) → Stands source count (map (named source) raw) m
    → own_tokens ≡ map (named source) raw → read_tokens ≡ own_tokens → closed_tokens ≡ own_tokens → size ≡ length raw
    → shape 0 read_tokens ≡ Some s → close ≡ closing (length source) closed_tokens m s.form → standing ≡ stands_by close next
    → IsNext source count (found_of count size m s) own_tokens (count + size + 1) (ended_at standing)
next_found source count size raw own_tokens read_tokens closed_tokens m s close next standing h is r k n reads closes stands =
    let width : size ≡ length (map (named source) raw) = n ∙ sym (length-map raw (named source)) in
    let slice : own_tokens ≡ slice_range (part_tokens source) count (count + size) = is ∙ h.own_is ∙ ap (λ w. slice_range (part_tokens source) count (count + w)) (sym width) in
    record {
      rest_is = h.rest_is ∙ ap (λ w. piece count (count + w) m ∷ rest source (count + w + 1)) (sym width);
      fills = made_fills (part_tokens source) count (count + size) m s (ap (shape 0) (sym slice ∙ sym r) ∙ reads);
      own_is = slice;
      count_is = refl;
      close_is = ap ended_at stands ∙ ended_as close next ∙ closes ∙ ap (λ l. closing (length source) l m s.form) k;
    }

pub next_broken : (source : List ℕ) (count : ℕ) (raw own_tokens read_tokens : List Token) (m : Token) → Stands source count (map (named source) raw) m → own_tokens ≡ map (named source) raw → read_tokens ≡ own_tokens
    → shape 0 read_tokens ≡ None → IsBroken source count m.line
next_broken source count raw own_tokens read_tokens m h is r reads = (
  piece count (count + length (map (named source) raw)) m,
  h.rest_is,
  shape_none (own (part_tokens source) (piece count (count + length (map (named source) raw)) m)) (ap (shape 0) (sym h.own_is ∙ sym is ∙ sym r) ∙ reads),
  refl,
)

pub next_small : (source : List ℕ) (count size : ℕ) (raw : List Token) (m : Token) → length source ≤ 65536 → Stands source count (map (named source) raw) m → size ≡ length raw → count + size ≤ 65536
next_small source count size raw m most h n = omega (arith, h.small, length-map raw (named source))

pub next_within : (source : List ℕ) (count : ℕ) (raw own_tokens : List Token) (m : Token) → Stands source count (map (named source) raw) m → own_tokens ≡ map (named source) raw → AllByRecursion (IsWithin (length source)) own_tokens
next_within source count raw own_tokens m h is = let P : List Token → Type 0 = λ l. AllByRecursion (IsWithin (length source)) l in subst P (sym is) h.within

-- tokens whose last ends a statement have a piece
pieces_some : (first at : ℕ) (ts : List Token) (m : Token) → is_end m.kind ≡ true → pieces first at (ts ++ m ∷ []) ≡ [] → ⊥
pieces_some first at [] m e none =
    let some : pieces first at (m ∷ []) ≡ piece first at m ∷ [] = ap (λ b. if b then piece first at m ∷ [] else []) e in
    absurd (cc)
pieces_some first at (t ∷ ts) m e none = elim (cases_Bool (is_end t.kind)) [
  | inl ends ↦ (let some : pieces first at (t ∷ (ts ++ m ∷ [])) ≡ piece first at t ∷ pieces (at + 1) (at + 1) (ts ++ m ∷ []) =
      ap (λ b. if b then piece first at t ∷ pieces (at + 1) (at + 1) (ts ++ m ∷ []) else pieces first (at + 1) (ts ++ m ∷ [])) ends in
      absurd (cc))
  | inr open' ↦ (let on : pieces first at (t ∷ (ts ++ m ∷ [])) ≡ pieces first (at + 1) (ts ++ m ∷ []) =
      ap (λ b. if b then piece first at t ∷ pieces (at + 1) (at + 1) (ts ++ m ∷ []) else pieces first (at + 1) (ts ++ m ∷ [])) open' in
      pieces_some first (at + 1) ts m e (sym on ∙ none))
]

-- where a statement begins, one is left
left_at : (source : List ℕ) (place : Place) (count : ℕ) → IsPlaceIn source place → count ≡ length (tokens (front source place.at)) → rest source count ≡ [] → ⊥
left_at source place count p n none =
    let b : List Token = tokens (front source place.at) in
    let k : Ends b (ended (reverse (drop place.at source) ++ front source place.at)) = ended_on (reverse (drop place.at source)) (front source place.at) p.cut in
    let all : all_read source ≡ reverse b ++ (reverse k.more ++ k.mark ∷ []) =
    ap (λ f. reverse (ended f)) (split_source source place.at) ∙ ap reverse k.is ∙ reverse-append (k.mark ∷ k.more) b ∙ ap (λ l. reverse b ++ l) (reverse-append (k.mark ∷ []) k.more) in
    let is : part_tokens source ≡ map (named source) (reverse b) ++ (map (named source) (reverse k.more) ++ named source k.mark ∷ []) =
    part_are source
    ∙ ap (map (named source)) all
    ∙ map-append (named source) (reverse b) (reverse k.more ++ k.mark ∷ [])
    ∙ ap (λ l. map (named source) (reverse b) ++ l) (map-append (named source) (reverse k.more) (k.mark ∷ [])) in
    let size : length (map (named source) (reverse b)) ≡ count = length-map (reverse b) (named source) ∙ length-reverse b ∙ sym n in
    let here : drop count (part_tokens source) ≡ map (named source) (reverse k.more) ++ named source k.mark ∷ [] =
    ap (drop count) is ∙ ap (λ j. drop j (map (named source) (reverse b) ++ (map (named source) (reverse k.more) ++ named source k.mark ∷ []))) (sym size) ∙ drop-append_seam (map (named source) (reverse b)) (map (named source) (reverse k.more) ++ named source k.mark ∷ []) in
    pieces_some count count (map (named source) (reverse k.more)) (named source k.mark) (ap (λ t. is_end t.kind) (named_mark source k.mark k.is_mark) ∙ k.is_mark) (sym (ap (pieces count count) here) ∙ none)

-- where the reader stands
stands_on : (source : List ℕ) (n : ℕ) (o : Option PartEnd) (next : Place) → (o ≡ None → StandsAt source n (Begins next)) → StandsAt source n (stands_by o next)
stands_on source n None next h = h refl
stands_on source n (Some c) next h = tt

pub next_stands : (source : List ℕ) (count size : ℕ) (raw : List Token) (close : Option PartEnd) (next : Place) (standing : ReaderState) → size ≡ length raw → standing ≡ stands_by close next
    → (close ≡ None → StandsAt source (count + length raw + 1) (Begins next)) → StandsAt source (count + size + 1) standing
next_stands source count size raw close next standing n is h =
    let P : ReaderState → Type 0 = λ s. StandsAt source (count + size + 1) s in
    let Q : ℕ → Type 0 = λ w. StandsAt source (count + w + 1) (stands_by close next) in
    subst P (sym is) (subst Q (sym n) (stands_on source (count + length raw + 1) close next h))

-- where the part hasn't ended, a piece is left
pub piece_left : (source : List ℕ) (count : ℕ) (standing : ReaderState) → StandsAt source count standing → ended_at standing ≡ None → rest source count ≢ []
piece_left source count (Begins place) h is none = left_at source place count h.0 h.1 none
piece_left source count (Ended c) h is none = cc
