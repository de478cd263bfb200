-- Pieces of a text that are put behind one another, up to the first fault.
use Rattle.std.proofs.Common.{ℕ, ◌≡◌, ◌+◌, ◌≤◌, List, [], ◌∷◌, ◌++◌, length, sym, ap, subst, append_assoc, Bool, if◌then◌else◌, Option, Some, Ok, Err}
use Rattle.std.specs.Borrow.{Bor}
use Rattle.std.specs.List.{slice_split}
use Rattle.std.proofs.lemmas.Bool.{le-ltb}
use Rattle.pal_text.specs.declared.names.Name.{Name}
use Rattle.labels.specs.declared.fault.PlaceFault.{PlaceFault}
use Rattle.labels.specs.declared.fault.PlaceFault.TheVariants.{BadLine, NoSymbol, PastMemory, Backwards, TooMany, NoMemory}
use Rattle.labels.specs.Lines.{Placed, joined, prefixed, first_then, is_feed, lines_behind, length_behind, placed_word, placed_words, placed_line, placed_lines, placed_all, placed_text, IsPlaceFault}

regroup : (out : List ℕ) (c : ℕ) (p r : List ℕ) → ((out ++ (c ∷ [])) ++ p) ++ r ≡ out ++ (c ∷ (p ++ r))
regroup out c p r = simp append_assoc

-- what stands before a fault doesn't matter
pub unprefixed : (front : List ℕ) (all : Placed) (fault : PlaceFault) → Err fault ≡ prefixed front all → all ≡ Err fault
unprefixed front (Ok text) fault e = cc
unprefixed front (Err f) fault e = cc

-- a piece more
pub goes_on : (c : ℕ) (out behind new start : List ℕ) (first rest all : Placed) → behind ≡ out ++ (c ∷ []) → prefixed behind first ≡ Ok new → prefixed out (joined c first rest) ≡ prefixed start all → prefixed new rest ≡ prefixed start all
goes_on c out behind new start (Err f) rest all b n h = cc
goes_on c out behind new start (Ok p) (Err f) all b n h = h
goes_on c out behind new start (Ok p) (Ok r) all b n h =
    let e : ((out ++ (c ∷ [])) ++ p) ++ r ≡ out ++ (c ∷ (p ++ r)) = regroup out c p r in cc

refused : (c : ℕ) (out start : List ℕ) (first rest all : Placed) (fault : PlaceFault) → first ≡ Err fault → prefixed out (joined c first rest) ≡ prefixed start all → all ≡ Err fault
refused c out start (Ok p) rest all fault is h = cc
refused c out start (Err f) rest all fault is h =
    let e : all ≡ Err f = unprefixed start all f h in cc

-- a piece that has a fault
pub stops : (c : ℕ) (out start : List ℕ) (first rest all : Placed) (fault : PlaceFault) → IsPlaceFault first fault → prefixed out (joined c first rest) ≡ prefixed start all → IsPlaceFault all fault
stops c out start first rest all (BadLine n) is h = refused c out start first rest all (BadLine n) is h
stops c out start first rest all (NoSymbol n) is h = refused c out start first rest all (NoSymbol n) is h
stops c out start first rest all (PastMemory n) is h = refused c out start first rest all (PastMemory n) is h
stops c out start first rest all (Backwards n) is h = refused c out start first rest all (Backwards n) is h
stops c out start first rest all TooMany is h = refused c out start first rest all TooMany is h
stops c out start first rest all NoMemory is h = is

-- words, of which there is one more
module _ (own : List (Name × ℕ)) (n : ℕ) (out start word : List ℕ) (left more : List (List ℕ)) (all : Placed) (is : left ≡ word ∷ more) (so_far : prefixed out (placed_words own n left) ≡ prefixed start all) where
  word_first : prefixed out (joined 32 (placed_word own n word) (placed_words own n more)) ≡ prefixed start all
  word_first = subst (λ (words : List (List ℕ)). prefixed out (placed_words own n words) ≡ prefixed start all) is so_far

  pub words_go_on : (behind new : List ℕ) → behind ≡ out ++ (32 ∷ []) → prefixed behind (placed_word own n word) ≡ Ok new → prefixed new (placed_words own n more) ≡ prefixed start all
  words_go_on behind new b e = goes_on 32 out behind new start (placed_word own n word) (placed_words own n more) all b e word_first

-- lines behind a line feed, of which there is one more
module _ (own : List (Name × ℕ)) (n : ℕ) (out start line : List ℕ) (left more : Option (Bor (List ℕ))) (text : Bor (List ℕ)) (all : Placed) (is : left ≡ Some text) (split : slice_split is_feed text.now ≡ line ∷ lines_behind more)
    (so_far : prefixed out (placed_lines own n (lines_behind left)) ≡ prefixed start all) where
  line_first : prefixed out (joined 10 (placed_line own n line) (placed_lines own (n + 1) (lines_behind more))) ≡ prefixed start all
  line_first =
      let behind : prefixed out (placed_lines own n (slice_split is_feed text.now)) ≡ prefixed start all = subst (λ (rest : Option (Bor (List ℕ))). prefixed out (placed_lines own n (lines_behind rest)) ≡ prefixed start all) is so_far in
      subst (λ (lines : List (List ℕ)). prefixed out (placed_lines own n lines) ≡ prefixed start all) split behind

  pub lines_go_on : (behind new : List ℕ) → behind ≡ out ++ (10 ∷ []) → prefixed behind (placed_line own n line) ≡ Ok new → prefixed new (placed_lines own (n + 1) (lines_behind more)) ≡ prefixed start all
  lines_go_on behind new b e = goes_on 10 out behind new start (placed_line own n line) (placed_lines own (n + 1) (lines_behind more)) all b e line_first

  pub lines_stop : (fault : PlaceFault) → IsPlaceFault (placed_line own n line) fault → IsPlaceFault all fault
  lines_stop fault f = stops 10 out start (placed_line own n line) (placed_lines own (n + 1) (lines_behind more)) all fault f line_first

-- what is left behind a line
pub length_left : (left : Option (Bor (List ℕ))) (text : Bor (List ℕ)) → left ≡ Some text → length_behind left ≡ 1 + length text.now
length_left left text is = ap length_behind is

-- a fault of a part that is one of the whole
passes : (part all : Placed) (fault : PlaceFault) → ((f : PlaceFault) → part ≡ Err f → all ≡ Err f) → IsPlaceFault part fault → IsPlaceFault all fault
passes part all (BadLine n) on is = on (BadLine n) is
passes part all (NoSymbol n) on is = on (NoSymbol n) is
passes part all (PastMemory n) on is = on (PastMemory n) is
passes part all (Backwards n) on is = on (Backwards n) is
passes part all TooMany on is = on TooMany is
passes part all NoMemory on is = is

-- behind nothing
unfronted : (before first : List ℕ) (p : Placed) → before ≡ [] → prefixed before p ≡ Ok first → p ≡ Ok first
unfronted before first (Ok x) none e = subst (λ (front : List ℕ). prefixed front (Ok x) ≡ Ok first) none e
unfronted before first (Err f) none e = e

-- a whole text, by its first line and those behind it
module _ (own : List (Name × ℕ)) (text line : List ℕ) (lines : List (List ℕ)) (split : slice_split is_feed text ≡ line ∷ lines) where
  pub lines_placed : (before first second : List ℕ) → before ≡ [] → prefixed before (placed_line own 1 line) ≡ Ok first → prefixed first (placed_lines own 2 lines) ≡ Ok second → placed_all own (slice_split is_feed text) ≡ Ok second
  lines_placed before first second none e h =
      let begins : placed_line own 1 line ≡ Ok first = unfronted before first (placed_line own 1 line) none e in
      let all : placed_all own (line ∷ lines) ≡ Ok second = subst (λ (p : Placed). first_then p (placed_lines own 2 lines) ≡ Ok second) (sym begins) h in
      subst (λ (ls : List (List ℕ)). placed_all own ls ≡ Ok second) (sym split) all

  first_told : (f : PlaceFault) → placed_line own 1 line ≡ Err f → placed_all own (slice_split is_feed text) ≡ Err f
  first_told f e =
      let all : placed_all own (line ∷ lines) ≡ Err f = ap (λ (p : Placed). first_then p (placed_lines own 2 lines)) e in
      subst (λ (ls : List (List ℕ)). placed_all own ls ≡ Err f) (sym split) all

  pub first_stops : (fault : PlaceFault) → IsPlaceFault (placed_line own 1 line) fault → IsPlaceFault (placed_all own (slice_split is_feed text)) fault
  first_stops fault is = passes (placed_line own 1 line) (placed_all own (slice_split is_feed text)) fault first_told is

  later_told : (before first : List ℕ) → before ≡ [] → prefixed before (placed_line own 1 line) ≡ Ok first → (f : PlaceFault) → placed_lines own 2 lines ≡ Err f → placed_all own (slice_split is_feed text) ≡ Err f
  later_told before first none e f h =
      let begins : placed_line own 1 line ≡ Ok first = unfronted before first (placed_line own 1 line) none e in
      let rest : first_then (Ok first) (placed_lines own 2 lines) ≡ Err f = ap (prefixed first) h in
      let all : placed_all own (line ∷ lines) ≡ Err f = subst (λ (p : Placed). first_then p (placed_lines own 2 lines) ≡ Err f) (sym begins) rest in
      subst (λ (ls : List (List ℕ)). placed_all own ls ≡ Err f) (sym split) all

  pub later_stops : (before first : List ℕ) → before ≡ [] → prefixed before (placed_line own 1 line) ≡ Ok first → (fault : PlaceFault) → IsPlaceFault (placed_lines own 2 lines) fault → IsPlaceFault (placed_all own (slice_split is_feed text)) fault
  later_stops before first none e fault is = passes (placed_lines own 2 lines) (placed_all own (slice_split is_feed text)) fault (later_told before first none e) is

-- a text that isn't too long
module _ (own : List (Name × ℕ)) (text : List ℕ) (short : length text ≤ 16384) where
  pub short_text : placed_all own (slice_split is_feed text) ≡ placed_text own text
  short_text = ap (λ (b : Bool). if b then Err TooMany else placed_all own (slice_split is_feed text)) (sym (le-ltb 16384 (length text) short))

  pub short_placed : (out : List ℕ) → placed_all own (slice_split is_feed text) ≡ Ok out → placed_text own text ≡ Ok out
  short_placed out e = subst (λ (p : Placed). p ≡ Ok out) short_text e

  pub short_stops : (fault : PlaceFault) → IsPlaceFault (placed_all own (slice_split is_feed text)) fault → IsPlaceFault (placed_text own text) fault
  short_stops fault is = subst (λ (p : Placed). IsPlaceFault p fault) short_text is
