-- The words of a listing stand on its lines.
use Rattle.std.proofs.Common.{◌≡◌, ap, refl, ℕ, ◌+◌, ◌<◌, ◌≤◌, List, [], ◌∷◌, ◌++◌, arith, Bool, Some, Result, Ok, Err, inl, inr, length, take}
use Rattle.std.specs.Prelude.{reverse}
use Rattle.std.specs.List.{AllByRecursion}
use Rattle.std.proofs.lemmas.Bool.{cases_eq}
use Rattle.pal_text.specs.declared.statement.PartEnd.{PartEnd}
use Rattle.pal_text.specs.declared.lines.Line.{Line}
use Rattle.pal_text.specs.declared.names.Name.{Name}
use Rattle.pal_text.specs.Lines.{all_lines}
use Rattle.pal_text.specs.Names.{part_tokens}
use Rattle.pal_text.specs.Statements.{Piece, pieces}
use Rattle.pal_text.proofs.Rises.{all_append, all_reverse}
use Rattle.pal_acts.specs.declared.act.SignedTerm.{SignedTerm}
use Rattle.pal_acts.specs.declared.act.Act.{Act}
use Rattle.pal_acts.specs.declared.act.Act.TheVariants as act
use Rattle.pal_acts.specs.declared.act.SourcePlace.{SourcePlace}
use Rattle.pal_acts.specs.declared.fault_code.FaultCode.{FaultCode}
use Rattle.pal_acts.specs.Acts.{PlacedAct, placed, place}
use Rattle.pal_acts.specs.Values.{Values, known}
use Rattle.pal_acts.specs.Meaning.{location}
use Rattle.pal_acts.specs.Words.{word_value, word_of}
use Rattle.pal_asm.specs.declared.number.Radix.{Radix}
use Rattle.pal_asm.specs.declared.number.Radix.TheVariants.{Octal}
use Rattle.pal_acts.specs.declared.act.PlacedWord.{PlacedWord}
use Rattle.pal_asm.specs.Numbers.{base, radix_after}
use Rattle.pal_asm.specs.Acts.{statement_acts, Does, ends, goes_on}
use Rattle.pal_asm.specs.Sources.{TextLine, text_lines, part_lines, PartDoes, Reads, no_part, broken, last_part, next_part}
use Rattle.pal_acts.specs.Sources.{with_word, words, all_words}
use Rattle.pal_asm.specs.Listings.{Lists}
use Rattle.pal_asm.specs.Laws.{IsListed}
use Rattle.pal_asm.proofs.Climbs.{Marks, part_marks}
use Rattle.pal_asm.proofs.EachAct.{statement_holds}
use Rattle.pal_asm.proofs.StandsOn.{Fairs, lines_to, part_fair, stops, on_line}

-- ---- lines

listed_left : (p : SourcePlace) (ls more : List TextLine) → IsListed p ls → IsListed p (ls ++ more)
listed_left p [] more h = absurd h
listed_left p (l ∷ ls) more (inl h) = inl h
listed_left p (l ∷ ls) more (inr h) = inr (listed_left p ls more h)

listed_right : (p : SourcePlace) (ls more : List TextLine) → IsListed p more → IsListed p (ls ++ more)
listed_right p [] more h = h
listed_right p (l ∷ ls) more h = inr (listed_right p ls more h)

text_listed : (n m k : ℕ) (source : List ℕ) (ls : List Line) → k ≤ m → m < k + length ls → IsListed (place n m) (text_lines n k source ls)
text_listed n m k source [] h lt = absurd (omega arith)
text_listed n m k source (l ∷ ls) h lt = elim (cases_eq k m) [
  | inl same ↦ inl (ap (place n) same)
  | inr other ↦ inr (text_listed n m (k + 1) source ls (omega (arith, h, other)) (omega (arith, lt)))
]

-- ---- acts

-- an act that is a word stands on a line
abbrev StandsBy : List TextLine → SourcePlace → Act → Type 0
StandsBy lines p act.Word = IsListed p lines
StandsBy lines p _ = Unit {0}

abbrev Stands : List TextLine → PlacedAct → Type 0
Stands lines a = StandsBy lines a.place a.act

by_more : (lines others : List TextLine) (p : SourcePlace) (a : Act) → (IsListed p lines → IsListed p others) → StandsBy lines p a → StandsBy others p a
by_more lines others p act.Word k h = k h
by_more lines others p _ k h = tt

all_more : (lines others : List TextLine) (acts : List PlacedAct) → ((p : SourcePlace) → IsListed p lines → IsListed p others) → AllByRecursion (Stands lines) acts → AllByRecursion (Stands others) acts
all_more lines others [] k h = tt
all_more lines others (a ∷ acts) k h = (by_more lines others a.place a.act (k a.place) h.0, all_more lines others acts k h.1)

idle_stands : (lines : List TextLine) (p : SourcePlace) (e : List SignedTerm) (a : Act) → (a ≡ act.Word → ⊥) → Stands lines (placed p e a)
idle_stands lines p e act.Word h = absurd (h refl)
idle_stands lines p e _ h = tt

-- the acts of a part stand on its lines
does_stands : (n : ℕ) (last : Bool) (source : List ℕ) (lines : List TextLine) (r r' : Radix) (l : ℕ) (ps : List Piece) (acts : List PlacedAct) (c : PartEnd)
    → ((m : ℕ) → 1 ≤ m → m ≤ lines_to source c.stop → IsListed (place n m) lines) → Fairs source ps → Marks l ps → Does n last source r ps acts r' c → AllByRecursion (Stands lines) acts
does_stands n last source lines r r' l ps acts c listed fair marks (ends q p qs tags said d reads e) =
    let stopped = stops source n last q (radix_after q said.form) p.mark.line (p ∷ qs) (statement_acts (place n p.mark.line) (base q) last source tags said) d fair (omega arith, marks.1) (ends q p qs tags said d reads e) in
    statement_holds (Stands lines) (place n p.mark.line) (idle_stands lines (place n p.mark.line)) (base q) last source tags said
    (λ js w. let at = on_line source p tags said d fair.0 reads stopped w in listed p.mark.line at.0 at.1)
does_stands n last source lines r r' l ps acts c listed fair marks (goes_on q q' p qs tags said more d reads e h) =
    let stopped = stops source n last q q' p.mark.line (p ∷ qs) (statement_acts (place n p.mark.line) (base q) last source tags said ++ more) d fair (omega arith, marks.1) (goes_on q q' p qs tags said more d reads e h) in
    all_append (Stands lines) (statement_acts (place n p.mark.line) (base q) last source tags said) more
    (statement_holds (Stands lines) (place n p.mark.line) (idle_stands lines (place n p.mark.line)) (base q) last source tags said
    (λ js w. let at = on_line source p tags said d fair.0 reads stopped w in listed p.mark.line at.0 at.1))
    (does_stands n last source lines (radix_after q said.form) q' p.mark.line qs more d listed fair.1 marks.1 h)

part_stands : (n : ℕ) (last : Bool) (source : List ℕ) (r r' : Radix) (acts : List PlacedAct) (c : PartEnd) → PartDoes n last r source acts r' c → AllByRecursion (Stands (part_lines n source c)) acts
part_stands n last source r r' acts c does =
    does_stands n last source (part_lines n source c) r r' 0 (pieces 0 0 (part_tokens source)) acts c
    (λ m first top. text_listed n m 1 source (all_lines (take c.stop source)) first (omega (arith, top))) (part_fair source) (part_marks source) does

-- ---- sources

reads_stand : (n : ℕ) (r : Radix) (parts : List (List ℕ)) (acts : List PlacedAct) (lines : List TextLine) → Reads n r parts acts lines → AllByRecursion (Stands lines) acts
reads_stand n r parts acts lines (no_part m q) = tt
reads_stand n r parts acts lines (broken m q p ps line is) = (tt, tt)
reads_stand n r parts acts lines (last_part m q q' p ps mine c does e) = part_stands m _ p q q' mine c does
reads_stand n r parts acts lines (next_part m q q' p ps mine more ls c does e h) =
    let own_lines : List TextLine = part_lines m p c in
    all_append (Stands (own_lines ++ ls)) mine more
    (all_more own_lines (own_lines ++ ls) mine (λ q. listed_left q own_lines ls) (part_stands m _ p q q' mine c does))
    (all_more ls (own_lines ++ ls) more (λ q. listed_right q own_lines ls) (reads_stand (m + 1) q' ps more ls h))

-- ---- words

abbrev AllListed : List TextLine → List PlacedWord → Type 0
AllListed lines ws = AllByRecursion (λ w. IsListed w.place lines) ws

word_listed : (lines : List TextLine) (p : SourcePlace) (at : ℕ) (value : Result ℕ FaultCode) (ws : List PlacedWord) → IsListed p lines → AllListed lines ws → AllListed lines (with_word p at (Some value) ws)
word_listed lines p at (Ok w) ws h all = (h, all)
word_listed lines p at (Err c) ws h all = all

and_word_listed : (lines : List TextLine) (σ : Values) (here : ℕ) (p : SourcePlace) (e : List SignedTerm) (a : Act) (ws : List PlacedWord) → StandsBy lines p a → AllListed lines ws → AllListed lines (with_word p here (word_of σ here e a) ws)
and_word_listed lines σ here p e act.Word ws h all = word_listed lines p here (word_value σ here e) ws h all
and_word_listed lines σ here p e _ ws h all = all

words_listed : (lines : List TextLine) (σ : Values) (acts : List PlacedAct) → AllByRecursion (Stands lines) acts → AllListed lines (words σ acts)
words_listed lines σ [] h = tt
words_listed lines σ (a ∷ before) h = and_word_listed lines σ (location σ before) a.place a.terms a.act (words σ before) h.0 (words_listed lines σ before h.1)

pub words_are_listed : (perm : List (Name × ℕ)) (parts : List (List ℕ)) (own : List (Name × ℕ)) (text : List ℕ) (h : Lists perm parts own text) → AllByRecursion (λ w. IsListed w.place h.lines) (all_words (known perm own) h.acts)
words_are_listed perm parts own text h =
    let σ : Values = known perm own in
    all_reverse (λ w. IsListed w.place h.lines) (words σ (reverse h.acts))
    (words_listed h.lines σ (reverse h.acts) (all_reverse (Stands h.lines) h.acts (reads_stand 1 Octal parts h.acts h.lines h.reads)))
