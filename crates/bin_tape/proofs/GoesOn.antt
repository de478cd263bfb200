-- An unfinished front is completed: what is open is closed, and then come an origin, the checksum and the trailer.
use Rattle.std.proofs.Common.{◌≡◌, ◌∙◌, sym, ap, refl, ℕ, ◌+◌, ◌*◌, ◌/◌, ◌%◌, ◌<◌, List, [], ◌∷◌, ◌++◌, length, take, map, arith, append_assoc, append-nil, length-append, lit≤, inl, inr}
use Rattle.std.specs.Prelude.{Option, None, All, unwrap_or}
use Rattle.std.specs.List.{range_with_len}
use Rattle.std.proofs.lemmas.List.FromFn.{length-map-range_with_len, get_or-map-range_with_len}
use Rattle.std.specs.List.{slice_get}
use Rattle.std.proofs.lemmas.List.Elements.{All-nil, All-cons, All-append}
use Rattle.std.proofs.lemmas.Option.{unwrap_or-slice_get}
use Rattle.std.proofs.lemmas.List.{take_all}
use Rattle.std.proofs.Math.Seq.{take-append-add, take-append_seam}
use Rattle.std.proofs.lemmas.Bool.{cases_lt}
use Rattle.bin_tape.specs.declared.word.TapeWord.{TapeWord}
use Rattle.bin_tape.specs.declared.word.TapeWord.TheVariants.{Origin, Data}
use Rattle.bin_tape.specs.declared.fault.TapeFault.{TapeFault}
use Rattle.bin_tape.specs.declared.fault.TapeFault.TheVariants.{TooLong, NoWord, NoOrigin, BadFrame, WrongField, Truncated, NoChecksum, Checksum, ReadFault}
use Rattle.bin_tape.specs.Tape.{Part, rubout, word, words, spelling, checksum, image_at, IsImage, IsTape}
use Rattle.bin_tape.specs.Refuses.{IsWhole, IsInWord, IsInRubout, IsUnfinished, Stands, StandsSecond, Stops, Refuses}
use Rattle.bin_tape.specs.Viable.{IsByte, IsViable, EndsAt, NamesPlace}
use Rattle.bin_tape.proofs.Parsed.{no_tape}

-- the cells that words leave
pub image_of : ℕ → List TapeWord → List (Option ℕ)
image_of size ws = map (image_at ws) (range_with_len 0 size)

image_cell : (size a : ℕ) (ws : List TapeWord) → a < size → unwrap_or (slice_get (image_of size ws) a) None ≡ image_at ws a
unfolding image_of
image_cell size a ws lt = unwrap_or-slice_get (image_of size ws) a None ∙ get_or-map-range_with_len (image_at ws) 0 size a a None lt (omega arith)

image_size : (size : ℕ) (ws : List TapeWord) → length (image_of size ws) ≡ size
unfolding image_of
image_size size ws = length-map-range_with_len (image_at ws) 0 size

pub has_image : (ws : List TapeWord) → IsImage ws (image_of 4096 ws)
has_image ws = record { size = image_size 4096 ws; cells = λ a lt. image_cell 4096 a ws lt }

-- an origin, the checksum and the trailer
ends : ℕ → List ℕ
ends sum = 64 ∷ 0 ∷ sum / 64 ∷ sum % 64 ∷ 128 ∷ []

byte_first : (f : ℕ) (fs : List ℕ) → f < 256 → All IsByte fs → All IsByte (f ∷ fs)
byte_first f fs lt bytes = All-cons IsByte f fs lt bytes

ends_bytes : (sum : ℕ) → sum < 4096 → All IsByte (ends sum)
unfolding ends
ends_bytes sum lt =
    byte_first 64 (0 ∷ sum / 64 ∷ sum % 64 ∷ 128 ∷ []) (omega arith) (byte_first 0 (sum / 64 ∷ sum % 64 ∷ 128 ∷ []) (omega arith)
    (byte_first (sum / 64) (sum % 64 ∷ 128 ∷ []) (omega arith) (byte_first (sum % 64) (128 ∷ []) (omega arith) (byte_first 128 [] (omega arith) (All-nil IsByte)))))

ended : List Part → ℕ → List Part
ended parts sum = word (Data sum) ∷ word (Origin 0) ∷ parts

ends_spelled : (parts : List Part) (sum : ℕ) → spelling parts ++ ends sum ≡ spelling (ended parts sum) ++ 128 ∷ []
unfolding ends spelling ended
ends_spelled parts sum =
    sym (append_assoc (spelling parts ++ 64 ∷ 0 ∷ []) (sum / 64 ∷ sum % 64 ∷ []) (128 ∷ []) ∙ append_assoc (spelling parts) (64 ∷ 0 ∷ []) (sum / 64 ∷ sum % 64 ∷ 128 ∷ []))

ended_tape : (fs : List ℕ) (parts : List Part) (sum : ℕ) → sum ≡ checksum (Origin 0 ∷ words parts) % 4096 → IsWhole fs parts → IsTape (fs ++ ends sum) (image_of 4096 (Origin 0 ∷ words parts))
unfolding ended
ended_tape fs parts sum is whole = record {
  parts = ended parts sum;
  rest = [];
  read = sum;
  others = Origin 0 ∷ words parts;
  spells = ap (λ xs. xs ++ ends sum) whole.spells ∙ ends_spelled parts sum;
  lawful = ((omega (arith, is), λ none. cc), (lit≤ tt, whole.lawful));
  last = refl;
  sums = is;
  cells = has_image (Origin 0 ∷ words parts);
}

-- where these bytes make whole parts of the frames
goes_on_after : (fs closing : List ℕ) (parts : List Part) → All IsByte closing → IsWhole (fs ++ closing) parts → IsViable fs
goes_on_after fs closing parts bytes whole =
    let sum : ℕ = checksum (Origin 0 ∷ words parts) % 4096 in
    let tape : IsTape ((fs ++ closing) ++ ends sum) (image_of 4096 (Origin 0 ∷ words parts)) = ended_tape (fs ++ closing) parts sum refl whole in
    (closing ++ ends sum, image_of 4096 (Origin 0 ∷ words parts), All-append IsByte closing (ends sum) bytes (ends_bytes sum (omega arith)), rw (sym (append_assoc fs closing (ends sum))) tape)

-- a word's second frame
word_closed : (fs : List ℕ) (parts : List Part) (first : ℕ) → IsInWord fs parts first → (w : TapeWord) × IsWhole (fs ++ 0 ∷ []) (word w ∷ parts)
unfolding spelling
word_closed fs parts first h = elim (cases_lt first 64) [
  | inl data_word ↦ (
    Data (64 * first),
    record {
      spells = ap (λ xs. xs ++ 0 ∷ []) h.spells ∙ append_assoc (spelling parts) (first ∷ []) (0 ∷ []) ∙ ap (λ xs. spelling parts ++ xs) (two first 0 (64 * first / 64) (64 * first % 64) (omega arith) (omega arith));
      lawful = ((omega arith, λ none. absurd (omega (arith, h.first_is.1 none))), h.lawful);
    },
  )
  | inr origin ↦ (
    Origin (64 * first % 4096),
    record {
      spells = ap (λ xs. xs ++ 0 ∷ []) h.spells ∙ append_assoc (spelling parts) (first ∷ []) (0 ∷ []) ∙ ap (λ xs. spelling parts ++ xs) (two first 0 (64 + 64 * first % 4096 / 64) (64 * first % 4096 % 64) (omega (arith, h.first_is.0)) (omega arith));
      lawful = (omega arith, h.lawful);
    },
  )
]
  where
    two : (a b c d : ℕ) → a ≡ c → b ≡ d → a ∷ b ∷ [] ≡ c ∷ d ∷ []
    two a b c d e f = cc

-- a rubout's end
rubout_closed : (fs : List ℕ) (parts : List Part) (skipped : List ℕ) → IsInRubout fs parts skipped → IsWhole (fs ++ 255 ∷ []) (rubout skipped ∷ parts)
unfolding spelling
rubout_closed fs parts skipped h = record {
  spells = ap (λ xs. xs ++ 255 ∷ []) h.spells ∙ append_assoc (spelling parts) (255 ∷ skipped) (255 ∷ []);
  lawful = (h.unclosed, h.lawful);
}

one_byte : (f : ℕ) → f < 256 → All IsByte (f ∷ [])
one_byte f lt = byte_first f [] lt (All-nil IsByte)

pub unfinished_goes_on : (fs : List ℕ) → IsUnfinished fs → IsViable fs
unfinished_goes_on fs (inl (parts, whole)) = goes_on_after fs [] parts (All-nil IsByte) (rw append-nil whole)
unfinished_goes_on fs (inr (inl (parts, first, h))) = let closed = word_closed fs parts first h in goes_on_after fs (0 ∷ []) (word closed.0 ∷ parts) (one_byte 0 (lit≤ tt)) closed.1
unfinished_goes_on fs (inr (inr (parts, skipped, h))) = goes_on_after fs (255 ∷ []) (rubout skipped ∷ parts) (one_byte 255 (lit≤ tt)) (rubout_closed fs parts skipped h)

-- what ends before any word, what ends later, and what is too long
pub no_word_goes_on : (limit : ℕ) (fs : List ℕ) → Refuses limit fs NoWord → IsViable (take limit fs)
no_word_goes_on limit fs (le, (parts, whole, none)) = rw (take_all limit fs le) (unfinished_goes_on fs (inl (parts, whole)))

pub truncated_goes_on : (limit : ℕ) (fs : List ℕ) → Refuses limit fs Truncated → IsViable (take limit fs)
truncated_goes_on limit fs (le, inl (parts, whole, some)) = rw (take_all limit fs le) (unfinished_goes_on fs (inl (parts, whole)))
truncated_goes_on limit fs (le, inr h) = rw (take_all limit fs le) (unfinished_goes_on fs (inr h))

pub too_long_goes_on : (limit : ℕ) (fs : List ℕ) → Refuses limit fs TooLong → IsViable (take limit fs)
too_long_goes_on limit fs h = unfinished_goes_on (take limit fs) h.1

-- where a frame stops every tape
one_on : (xs ys : List ℕ) (y : ℕ) → take (length xs + 1) (xs ++ y ∷ ys) ≡ xs ++ y ∷ []
one_on xs ys y = take-append-add xs (y ∷ ys) 1

inside : (xs ys : List ℕ) (y : ℕ) → length xs < length (xs ++ y ∷ ys)
inside xs ys y = omega (arith, length-append xs (y ∷ ys))

stands_here : (fs : List ℕ) (P : List Part → ℕ → Type 0) (h : Stands fs P) → Stands (take (length (spelling h.parts) + 1) fs) P
stands_here fs P h = record {
  parts = h.parts;
  frame = h.frame;
  rest = [];
  spells = ap (take (length (spelling h.parts) + 1)) h.spells ∙ one_on (spelling h.parts) h.rest h.frame;
  lawful = h.lawful;
  holds = h.holds;
}

stands_ends : (fs : List ℕ) (fault : TapeFault) (P : List Part → ℕ → Type 0) (h : Stands fs P) → ((xs : List ℕ) → Stands xs P → Stops xs fault) → EndsAt fs (length (spelling h.parts))
stands_ends fs fault P h stops = record {
  within = rw h.spells (inside (spelling h.parts) h.rest h.frame);
  before = rw (ap (take (length (spelling h.parts))) h.spells ∙ take-append_seam (spelling h.parts) (h.frame ∷ h.rest)) (unfinished_goes_on (spelling h.parts) (inl (h.parts, record { spells = refl; lawful = h.lawful })));
  after = no_tape (take (length (spelling h.parts) + 1) fs) fault (stops _ (stands_here fs P h));
}

second_ends : (fs : List ℕ) (fault : TapeFault) (P : List Part → ℕ → Type 0) (h : StandsSecond fs P) → ((xs : List ℕ) → StandsSecond xs P → Stops xs fault) → EndsAt fs (length (spelling h.parts ++ h.first ∷ []))
second_ends fs fault P h stops = record {
  within = rw h.spells (inside (spelling h.parts ++ h.first ∷ []) h.rest h.frame);
  before = rw (ap (take (length (spelling h.parts ++ h.first ∷ []))) h.spells ∙ take-append_seam (spelling h.parts ++ h.first ∷ []) (h.frame ∷ h.rest)) (unfinished_goes_on (spelling h.parts ++ h.first ∷ []) (inr (inl (h.parts, h.first, record { spells = refl; lawful = h.lawful; first_is = h.first_is }))));
  after = no_tape (take (length (spelling h.parts ++ h.first ∷ []) + 1) fs) fault (stops _ (record {
    parts = h.parts;
    first = h.first;
    frame = h.frame;
    rest = [];
    spells = ap (take (length (spelling h.parts ++ h.first ∷ []) + 1)) h.spells ∙ one_on (spelling h.parts ++ h.first ∷ []) h.rest h.frame;
    lawful = h.lawful;
    first_is = h.first_is;
    holds = h.holds;
  }));
}

pub stops_viability : (fs : List ℕ) (fault : TapeFault) → Stops fs fault → (at : ℕ) × EndsAt fs at × NamesPlace fault at
stops_viability fs NoOrigin h = (length (spelling h.parts), stands_ends fs NoOrigin _ h (λ xs s. s), tt)
stops_viability fs (WrongField at) h = (length (spelling h.parts), stands_ends fs (WrongField at) _ h (λ xs s. s), h.holds.0)
stops_viability fs (BadFrame at) (inl h) = (length (spelling h.parts), stands_ends fs (BadFrame at) _ h (λ xs s. inl s), h.holds.0)
stops_viability fs (BadFrame at) (inr h) = (length (spelling h.parts ++ h.first ∷ []), second_ends fs (BadFrame at) _ h (λ xs s. inr s), h.holds.0 ∙ sym (length-append (spelling h.parts) (h.first ∷ [])))
stops_viability fs NoChecksum h = (length (spelling h.parts), stands_ends fs NoChecksum _ h (λ xs s. s), tt)
stops_viability fs (Checksum read counted) h = (length (spelling h.parts), stands_ends fs (Checksum read counted) _ h (λ xs s. s), tt)
stops_viability fs TooLong h = absurd h
stops_viability fs NoWord h = absurd h
stops_viability fs Truncated h = absurd h
stops_viability fs ReadFault h = absurd h
