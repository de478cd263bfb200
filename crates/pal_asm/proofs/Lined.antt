-- Tokens stand on lines that their part has.
use Rattle.std.proofs.Common.{◌≡◌, ◌∙◌, sym, ap, refl, subst, ℕ, zero, suc, ◌+◌, ◌<◌, ◌≤◌, List, [], ◌∷◌, ◌++◌, append_assoc, add-one, arith, Bool, true, false, ◌||◌, ◌&&◌, if◌then◌else◌, Option, Some, None, inl, inr, length, take, drop, get_or}
use Rattle.std.specs.Prelude.{reverse, map, nat_eq}
use Rattle.std.proofs.Math.Seq.{take-length}
use Rattle.std.proofs.lemmas.Bool.{cond_both, cases_Bool}
use Rattle.std.proofs.lemmas.List.{reverse-append, append-nil, take-append-drop, length-reverse, length-take-le}
use Rattle.pal_text.specs.declared.characters.Meaning.{Meaning}
use Rattle.pal_text.specs.declared.characters.Meaning.TheVariants.{Ignored, LineEnd, Character}
use Rattle.pal_text.specs.declared.tokens.TokenKind.{TokenKind}
use Rattle.pal_text.specs.declared.tokens.TokenKind.TheVariants.{Symbol, Space, End}
use Rattle.pal_text.specs.declared.tokens.Token.{Token}
use Rattle.pal_text.specs.declared.lines.Line.{Line}
use Rattle.pal_text.specs.Characters.{line, in_comment, meaning_after}
use Rattle.pal_text.specs.Lines.{line_start, is_begun, line_of, ended_lines, lines}
use Rattle.pal_text.specs.Tokens.{is_space, absorbs, longer, token, kind_of, end_token}
use Rattle.pal_text.specs.Adding.{with_kind, without_space, joined, one_or_both, added, grown, tokens, ended, all_read}
use Rattle.pal_text.specs.Names.{with_name, named, part_tokens}
use Rattle.pal_text.specs.Scan.{front, trimmed}
use Rattle.pal_text.specs.Tokens.{is_end}
use Rattle.pal_text.proofs.Apart.{longer_end, longer_to_end, added_end}
use Rattle.pal_text.proofs.CountedLemmas.{part_are}
use Rattle.pal_text.proofs.Fronts.{next_front}
use Rattle.pal_text.proofs.ByMeaning.{begun_by, line_by, lines_by}

-- ---- how many lines bytes have; the newest byte is first

abbrev counted : Bool → ℕ → ℕ
counted true n = n + 1
counted false n = n

chosen_count : (begun : Bool) (l : Line) (ls : List Line) → length (if begun then l ∷ ls else ls) ≡ counted begun (length ls)
chosen_count true l ls = omega arith
chosen_count false l ls = refl

count_is : (before : List ℕ) → length (lines before) ≡ counted (is_begun before) (length (ended_lines before))
count_is before = chosen_count (is_begun before) (line_of (line_start before) (length before)) (ended_lines before)

line_more : (n : ℕ) (ls : List Line) (start at : ℕ) (m : Meaning) → n ≡ length ls + 1 → line_by n m ≡ length (lines_by ls start at m) + 1
line_more n ls start at LineEnd h = omega (arith, h)
line_more n ls start at Ignored h = h
line_more n ls start at (Character c) h = h

line_is : (before : List ℕ) → line before ≡ length (ended_lines before) + 1
line_is [] = refl
line_is (b ∷ before) = line_more (line before) (ended_lines before) (line_start before) (length before) (meaning_after before b) (line_is before)

grows_by : (begun : Bool) (ls : List Line) (start at : ℕ) (m : Meaning) → counted begun (length ls) ≤ counted (begun_by begun m) (length (lines_by ls start at m))
grows_by true ls start at LineEnd = omega arith
grows_by false ls start at LineEnd = omega arith
grows_by begun ls start at Ignored = omega arith
grows_by true ls start at (Character c) = omega arith
grows_by false ls start at (Character c) = omega arith

count_more : (b : ℕ) (before : List ℕ) → length (lines before) ≤ length (lines (b ∷ before))
count_more b before =
    let more : length (lines (b ∷ before)) ≡ counted (begun_by (is_begun before) (meaning_after before b)) (length (lines_by (ended_lines before) (line_start before) (length before) (meaning_after before b))) = count_is (b ∷ before) in
    omega (arith, count_is before, more, grows_by (is_begun before) (ended_lines before) (line_start before) (length before) (meaning_after before b))

count_append : (xs before : List ℕ) → length (lines before) ≤ length (lines (xs ++ before))
count_append [] before = omega arith
count_append (x ∷ xs) before = omega (arith, count_append xs before, count_more x (xs ++ before))

-- how many lines the first bytes of a part have
abbrev pub lined : List ℕ → ℕ → ℕ
lined source k = length (lines (reverse (take k source)))

pub lined_all : (source : List ℕ) (k : ℕ) → lined source k ≤ length (lines (reverse source))
lined_all source k =
    let e : reverse source ≡ reverse (drop k source) ++ reverse (take k source) = ap reverse (sym (take-append-drop k source)) ∙ reverse-append (take k source) (drop k source) in
    let P : List ℕ → Type 0 = λ l. lined source k ≤ length (lines l) in
    subst P (sym e) (count_append (reverse (drop k source)) (reverse (take k source)))

-- a character stands on a line
abbrev Reaches : Meaning → ℕ → ℕ → Type 0
Reaches Ignored n k = Unit {0}
Reaches LineEnd n k = Unit {0}
Reaches (Character c) n k = n ≤ k

reaches_by : (n : ℕ) (begun : Bool) (ls : List Line) (start at : ℕ) (m : Meaning) → n ≡ length ls + 1 → Reaches m n (counted (begun_by begun m) (length (lines_by ls start at m)))
reaches_by n begun ls start at Ignored h = tt
reaches_by n begun ls start at LineEnd h = tt
reaches_by n begun ls start at (Character c) h = omega (arith, h)

reaches : (b : ℕ) (before : List ℕ) (k : ℕ) → k ≡ length (lines (b ∷ before)) → Reaches (meaning_after before b) (line before) k
reaches b before k e =
    let P : ℕ → Type 0 = λ n. Reaches (meaning_after before b) (line before) n in
    subst P (sym (e ∙ count_is (b ∷ before))) (reaches_by (line before) (is_begun before) (ended_lines before) (line_start before) (length before) (meaning_after before b) (line_is before))

-- ---- tokens, the newest first

-- the end of a line or of the part, or a semicolon
abbrev pub is_stop : TokenKind → Bool
is_stop End = true
is_stop _ = false

-- a token is on no later line than the next one, within a statement on the same line, and the line is there
pub record Fits (L : ℕ → ℕ) (n : ℕ) (t : Token) : Type 0 where
  pub positive : 1 ≤ t.line
  pub risen : t.line ≤ n
  pub counts : is_stop t.kind ≡ false → t.line ≤ L t.end
  pub linked : is_end t.kind ≡ false → t.line ≡ n

abbrev Fine : (ℕ → ℕ) → ℕ → List Token → Type 0
Fine L n [] = Unit {0}
Fine L n (t ∷ ts) = Fits L n t × Fine L t.line ts

stop_ends : (k : TokenKind) → is_stop k ≡ true → is_end k ≡ true
stop_ends End h = refl
stop_ends _ h = cc

none_some : (o : Option TokenKind) (k : TokenKind) → o ≡ None → o ≡ Some k → ⊥
none_some o k e f = let both : None ≡ Some k = sym e ∙ f in cc

not_end : (a b k : TokenKind) → longer a b ≡ Some k → is_end a ≡ false
not_end a b k e = elim (cases_Bool (is_end a)) [ inl h ↦ absurd (none_some (longer a b) k (longer_end a b h) e) | inr h ↦ h ]

not_stop : (a b k : TokenKind) → longer a b ≡ Some k → is_stop b ≡ false
not_stop a b k e = elim (cases_Bool (is_stop b)) [ inl h ↦ absurd (none_some (longer a b) k (longer_to_end a b (stop_ends b h)) e) | inr h ↦ h ]

space_no_end : (k : TokenKind) (b : Bool) → (is_space k && b) ≡ true → is_end k ≡ false
space_no_end Space b h = refl
space_no_end _ b h = cc

abbrev Joins : (ℕ → ℕ) → ℕ → List Token → Option Token → Type 0
Joins L n ts None = Unit {0}
Joins L n ts (Some one) = Fine L n (one ∷ ts)

module _ (L : ℕ → ℕ) where
  one_or_both_fine : (n : ℕ) (next t : Token) (ts : List Token) (o : Option Token) → Joins L n ts o → Fine L n (next ∷ t ∷ ts) → Fine L n (one_or_both next t ts o)
  one_or_both_fine n next t ts None j f = f
  one_or_both_fine n next t ts (Some one) j f = j

  without_space_joins : (next t : Token) (ts : List Token) → Fits L next.line next → Fine L next.line (t ∷ ts) → Joins L next.line ts (without_space t next)
  without_space_joins next t ts h f =
      cond_both (is_space next.kind && absorbs t.kind) (Some t) (if is_space t.kind && absorbs next.kind then Some next else None) (λ o. Joins L next.line ts o)
      (λ is. f)
      (λ is. cond_both (is_space t.kind && absorbs next.kind) (Some next) None (λ o. Joins L next.line ts o)
      (λ too. (h, let P : ℕ → Type 0 = λ k. Fine L k ts in subst P (f.0.linked (space_no_end t.kind (absorbs next.kind) too)) f.1)) (λ too. tt))

  with_kind_joins : (next t : Token) (ts : List Token) (o : Option TokenKind) → longer t.kind next.kind ≡ o → Fits L next.line next → Fine L next.line (t ∷ ts) → Joins L next.line ts (with_kind t next o)
  with_kind_joins next t ts None e h f = without_space_joins next t ts h f
  with_kind_joins next t ts (Some k) e h f =
      let link : t.line ≡ next.line = f.0.linked (not_end t.kind next.kind k e) in
      (record { positive = f.0.positive; risen = f.0.risen; counts = λ _. omega (arith, link, h.counts (not_stop t.kind next.kind k e)); linked = λ _. link }, f.1)

  added_fine : (next : Token) (ts : List Token) → Fits L next.line next → Fine L next.line ts → Fine L next.line (added next ts)
  added_fine next [] h f = cond_both (is_space next.kind) [] (next ∷ []) (λ l. Fine L next.line l) (λ is. tt) (λ is. (h, tt))
  added_fine next (t ∷ ts) h f = one_or_both_fine next.line next t ts (joined t next) (with_kind_joins next t ts (longer t.kind next.kind) refl h f) (h, f)

  -- what ends a statement may stand before any line
  turned_end : (n m : ℕ) (next : Token) (ts : List Token) → n ≤ m → is_end next.kind ≡ true → Fine L n (added next ts) → Fine L m (added next ts)
  turned_end n m next ts le e f =
      let same : added next ts ≡ next ∷ trimmed ts = added_end next ts e in
      let P : List Token → Type 0 = λ l. Fine L n l in
      let Q : List Token → Type 0 = λ l. Fine L m l in
      let g : Fine L n (next ∷ trimmed ts) = subst P same f in
      subst Q (sym same) (record { positive = g.0.positive; risen = omega (arith, g.0.risen, le); counts = g.0.counts; linked = λ no. absurd (let both : true ≡ false = sym e ∙ no in cc) }, g.1)

  end_fits : (n start stop : ℕ) → 1 ≤ n → Fits L n (record { kind = End; line = n; start = start; end = stop })
  end_fits n start stop h = record { positive = h; risen = omega arith; counts = λ no. absurd (cc); linked = λ _. refl }

  grown_fine : (at n : ℕ) (comment : Bool) (m : Meaning) (ts : List Token) → 1 ≤ n → Reaches m n (L (at + 1)) → Fine L n ts → Fine L (line_by n m) (grown at n comment m ts)
  grown_fine at n comment Ignored ts h r f = f
  grown_fine at n comment LineEnd ts h r f = turned_end n (n + 1) (token End n at) ts (omega arith) refl (added_fine (token End n at) ts (end_fits n at (at + 1) h) f)
  grown_fine at n comment (Character c) ts h r f =
      cond_both (comment || nat_eq c 47) ts (added (token (kind_of c) n at) ts) (λ l. Fine L n l) (λ is. f)
      (λ is. added_fine (token (kind_of c) n at) ts (record { positive = h; risen = omega arith; counts = λ _. r; linked = λ _. refl }) f)

tokens_fine : (source : List ℕ) (at : ℕ) → at ≤ length source → Fine (lined source) (line (front source at)) (tokens (front source at))
tokens_fine source zero h = tt
tokens_fine source (suc at) h =
    let lt : at < length source = omega arith in
    let b : ℕ = get_or source at 0 in
    let before : List ℕ = front source at in
    let next : front source (at + 1) ≡ b ∷ before = next_front source at lt in
    let here : front source (suc at) ≡ b ∷ before = ap (front source) (sym (add-one at)) ∙ next in
    let size : length before ≡ at = length-reverse (take at source) ∙ length-take-le at source (omega arith) in
    let all : lined source (length before + 1) ≡ length (lines (b ∷ before)) = ap (λ k. lined source (k + 1)) size ∙ ap (λ f. length (lines f)) next in
    let P : List ℕ → Type 0 = λ f. Fine (lined source) (line f) (tokens f) in
    let first : 1 ≤ line before = omega (arith, line_is before) in
    subst P (sym here) (grown_fine (lined source) (length before) (line before) (in_comment before) (meaning_after before b) (tokens before) first (reaches b before (lined source (length before + 1)) all) (tokens_fine source at (omega arith)))

-- ---- tokens in order

abbrev pub Links : Token → List Token → Type 0
Links t [] = Unit {0}
Links t (u ∷ us) = (t.line ≤ u.line) × (is_end t.kind ≡ false → t.line ≡ u.line)

abbrev pub Chain : (ℕ → ℕ) → List Token → Type 0
Chain L [] = Unit {0}
Chain L (t ∷ ts) = (1 ≤ t.line) × (is_stop t.kind ≡ false → t.line ≤ L t.end) × Links t ts × Chain L ts

abbrev Heads : ℕ → List Token → Type 0
Heads n [] = Unit {0}
Heads n (u ∷ us) = u.line ≡ n

links_by : (L : ℕ → ℕ) (n : ℕ) (t : Token) (tail : List Token) → Fits L n t → Heads n tail → Links t tail
links_by L n t [] f h = tt
links_by L n t (u ∷ us) f h = (omega (arith, f.risen, h), λ no. f.linked no ∙ sym h)

turned : (L : ℕ → ℕ) (n : ℕ) (ts tail : List Token) → Fine L n ts → Heads n tail → Chain L tail → Chain L (reverse ts ++ tail)
turned L n [] tail f h c = c
turned L n (t ∷ ts) tail f h c =
    let P : List Token → Type 0 = λ l. Chain L l in
    subst P (sym (ap (λ l. l ++ tail) (reverse-append (t ∷ []) ts) ∙ append_assoc (reverse ts) (t ∷ []) tail))
    (turned L t.line ts (t ∷ tail) f.1 refl (f.0.positive, f.0.counts, links_by L n t tail f.0 h, c))

named_end : (source : List ℕ) (t : Token) (k : TokenKind) → is_end (with_name source t k) ≡ false → is_end k ≡ false
named_end source t Symbol h = refl
named_end source t _ h = h

named_stop : (source : List ℕ) (t : Token) (k : TokenKind) → is_stop (with_name source t k) ≡ false → is_stop k ≡ false
named_stop source t Symbol h = refl
named_stop source t _ h = h

named_links : (source : List ℕ) (t : Token) (ts : List Token) → Links t ts → Links (named source t) (map (named source) ts)
named_links source t [] h = tt
named_links source t (u ∷ us) h = (h.0, λ no. h.1 (named_end source t t.kind no))

named_chain : (L : ℕ → ℕ) (source : List ℕ) (ts : List Token) → Chain L ts → Chain L (map (named source) ts)
named_chain L source [] c = tt
named_chain L source (t ∷ ts) c = (c.0, λ no. c.1 (named_stop source t t.kind no), named_links source t ts c.2, named_chain L source ts c.3)

pub part_chain : (source : List ℕ) → Chain (lined source) (part_tokens source)
part_chain source =
    let before : List ℕ = reverse source in
    let L : ℕ → ℕ = lined source in
    let whole : front source (length source) ≡ before = ap reverse (take-length source) in
    let P : List ℕ → Type 0 = λ f. Fine L (line f) (tokens f) in
    let f : Fine L (line before) (tokens before) = subst P whole (tokens_fine source (length source) (omega arith)) in
    let e : Fine L (line before) (ended before) = added_fine L (end_token before) (tokens before) (end_fits L (line before) (length before) (length before) (omega (arith, line_is before))) f in
    let Q : List Token → Type 0 = λ l. Chain L l in
    subst Q (sym (part_are source)) (named_chain L source (all_read source) (subst Q (append-nil (reverse (ended before))) (turned L (line before) (ended before) [] e tt tt)))
