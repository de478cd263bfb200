-- The declaration that stands within parts, part by part.
use Rattle.std.proofs.Common.{ℕ, ◌≡◌, ◌<◌, ◌≤◌, ◌+◌, ◌∙◌, sym, ap, subst, true≢false, ⊎_elim, is_ok, append_assoc, List, [], ◌∷◌, ◌++◌, length, get_or, drop, Bool, true, false, Result, Ok, Err, inl, inr}
use Rattle.std.specs.Prelude.{IfOk, ◌↔◌, slice_range}
use Rattle.std.specs.Borrow.{Bor}
use Rattle.std.specs.declared.alloc.AllocError.{AllocError}
use Rattle.std.proofs.lemmas.Bool.{cases_lt}
use Rattle.std.proofs.lemmas.List.{drop_more, drop_all, append-nil}
use Rattle.pal_text.specs.declared.tokens.Token.{Token}
use Rattle.pal_text.specs.declared.statement.Statement.{Statement}
use Rattle.pal_text.specs.declared.statement.Ending.{Ending}
use Rattle.pal_text.specs.declared.fault.TextFault.{TextFault}
use Rattle.pal_text.specs.declared.fault.TextFault.TheVariants.{Illegal, TooLong, NoMemory}
use Rattle.pal_text.specs.declared.lines.Line.{Line}
use Rattle.pal_text.specs.Parts.{IsPart, IsIllegal}
use Rattle.pal_acts.specs.declared.act.PlacedWord.{PlacedWord}
use Rattle.pal_acts.specs.Acts.{place}
use Rattle.pal_asm.specs.Sources.{texts}
use Rattle.labels.specs.Within.{declared_line, declared_part, reads_on, reads_on_after, PartDeclares, unread, read, Declared, no_part, last_part, next_part, Adds}

-- a line more of a part
pub line_on : (words : List PlacedWord) (part n : ℕ) (text new source : List ℕ) (lines : List Line) (i : ℕ) (d : Line) → i < length lines → new ≡ text ++ declared_line words (place part n) (slice_range source (get_or lines i d).start (get_or lines i d).end)
    → new ++ declared_part words part (n + 1) source (drop (i + 1) lines) ≡ text ++ declared_part words part n source (drop i lines)
line_on words part n text new source lines i d h e =
    let rest : List ℕ = declared_part words part (n + 1) source (drop (i + 1) lines) in
    ap (λ x. x ++ rest) e
    ∙ append_assoc text (declared_line words (place part n) (slice_range source (get_or lines i d).start (get_or lines i d).end)) rest
    ∙ ap (λ x. text ++ declared_part words part n source x) (sym (drop_more lines i d h))

pub no_line_on : (words : List PlacedWord) (part n : ℕ) (text source : List ℕ) (lines : List Line) (i : ℕ) → length lines ≤ i → text ≡ text ++ declared_part words part n source (drop i lines)
no_line_on words part n text source lines i h = sym (append-nil text) ∙ ap (λ x. text ++ declared_part words part n source x) (sym (drop_all i lines h))

-- a part that is not refused is not too long
pub short_part : {X : Type 0} (s : Result X TextFault) (found : X) (source : List ℕ) → s ≡ Ok found → ((s ≡ Err TooLong) ↔ (65536 < length source)) → length source ≤ 65536
short_part s found source e long = ⊎_elim (λ more. absurd (true≢false (sym (ap is_ok e) ∙ ap is_ok (long.1 more)))) (λ short. short) (cases_lt 65536 (length source))

-- a part that was read
pub read_adds : (words : List PlacedWord) (part : ℕ) (source : List ℕ) (tokens : List Token) (told : List Statement) (lines shown : List Line) (ending : Ending) (on : Bool) (old new : List ℕ) → length source ≤ 65536 → IsPart source tokens told lines ending → shown ≡ lines → on ≡ reads_on ending → new ≡ old ++ declared_part words part 1 source shown
    → Adds words part source on old new
read_adds words part source tokens told lines shown ending on old new short is s o e =
    let P : List ℕ → Type 0 = λ x. PartDeclares words part source (reads_on ending) x in
    let Q : Bool → Type 0 = λ x. PartDeclares words part source x (declared_part words part 1 source shown) in
    let there : PartDeclares words part source (reads_on ending) (declared_part words part 1 source lines) = read tokens told lines ending short is in
    record { text = declared_part words part 1 source shown; says = subst Q (sym o) (subst P (ap (declared_part words part 1 source) (sym s)) there); added = e }

-- a part that was refused
pub refused_adds : {X : Type 0} (words : List PlacedWord) (part : ℕ) (s : Result X TextFault) (fault : TextFault) (r : Result Bool AllocError) (source old : List ℕ) → s ≡ Err fault → r ≡ reads_on_after fault → ((s ≡ Err TooLong) ↔ (65536 < length source)) → ((line : ℕ) → s ≡ Err (Illegal line) → IsIllegal source line)
    → IfOk r (λ on. Adds words part source on old old)
refused_adds words part s (Illegal n) r source old is e long illegal =
    let P : Result Bool AllocError → Type 0 = λ x. IfOk x (λ on. Adds words part source on old old) in
    subst P (sym e) (record { text = []; says = unread (inr (n, illegal n is)); added = sym (append-nil old) })
refused_adds words part s TooLong r source old is e long illegal =
    let P : Result Bool AllocError → Type 0 = λ x. IfOk x (λ on. Adds words part source on old old) in
    subst P (sym e) (record { text = []; says = unread (inl (long.0 is)); added = sym (append-nil old) })
refused_adds words part s NoMemory r source old is e long illegal =
    let P : Result Bool AllocError → Type 0 = λ x. IfOk x (λ on. Adds words part source on old old) in
    subst P (sym e) tt

-- what was added is all that parts up to here declare
abbrev pub StandsBefore : List PlacedWord → List (Bor (List ℕ)) → ℕ → List ℕ → Type 0
StandsBefore words parts i text = (more : List ℕ) → Declared words (i + 1) (texts (drop i parts)) more → Declared words 1 (texts parts) (text ++ more)

module _ (words : List PlacedWord) (parts : List (Bor (List ℕ))) (i : ℕ) (d : Bor (List ℕ)) (on : Bool) (old new : List ℕ) (h : i < length parts) (adds : Adds words (i + 1) (get_or parts i d).now on old new) (so_far : StandsBefore words parts i old) where
  from_here : (more : List ℕ) → Declared words (i + 1) ((get_or parts i d).now ∷ texts (drop (i + 1) parts)) more → Declared words 1 (texts parts) (old ++ more)
  from_here more here =
      let P : List (Bor (List ℕ)) → Type 0 = λ l. Declared words (i + 1) (texts l) more in
      so_far more (subst P (sym (drop_more parts i d h)) here)

  pub stands_further : on ≡ true → StandsBefore words parts (i + 1) new
  stands_further goes more rest =
      let P : Bool → Type 0 = λ b. PartDeclares words (i + 1) (get_or parts i d).now b adds.text in
      let Q : List ℕ → Type 0 = λ l. Declared words 1 (texts parts) l in
      let all : Declared words 1 (texts parts) (old ++ (adds.text ++ more)) =
      from_here (adds.text ++ more) (next_part (i + 1) (get_or parts i d).now (texts (drop (i + 1) parts)) adds.text more (subst P goes adds.says) rest) in
      subst Q (sym (ap (λ x. x ++ more) adds.added ∙ append_assoc old adds.text more)) all

  pub stands_last : on ≡ false → Declared words 1 (texts parts) new
  stands_last no_more =
      let P : Bool → Type 0 = λ b. PartDeclares words (i + 1) (get_or parts i d).now b adds.text in
      let Q : List ℕ → Type 0 = λ l. Declared words 1 (texts parts) l in
      subst Q (sym adds.added) (from_here adds.text (last_part (i + 1) (get_or parts i d).now (texts (drop (i + 1) parts)) adds.text (subst P no_more adds.says)))

pub stands_first : (words : List PlacedWord) (parts : List (Bor (List ℕ))) (text : List ℕ) → text ≡ [] → StandsBefore words parts 0 text
stands_first words parts text none more h =
    let P : List ℕ → Type 0 = λ l. Declared words 1 (texts parts) (l ++ more) in
    subst P (sym none) h

pub stands_whole : (words : List PlacedWord) (parts : List (Bor (List ℕ))) (i : ℕ) (text : List ℕ) → length parts ≤ i → StandsBefore words parts i text → Declared words 1 (texts parts) text
stands_whole words parts i text past so_far =
    let P : List (Bor (List ℕ)) → Type 0 = λ l. Declared words (i + 1) (texts l) [] in
    let Q : List ℕ → Type 0 = λ l. Declared words 1 (texts parts) l in
    subst Q (append-nil text) (so_far [] (subst P (sym (drop_all i parts past)) (no_part (i + 1))))
