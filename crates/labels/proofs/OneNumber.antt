-- A source and its declaration mean one tape and one declaration in numbers, or have a fault, and not both.
use Rattle.std.proofs.Common.{ℕ, ◌≡◌, ◌∙◌, sym, ap, refl, subst, List, Option, Result, Ok, Err}
use Rattle.std.specs.Prelude.{IfOk, IfErr, MatchResult}
use Rattle.bin_tape.specs.Image.{IsEmptyImage}
use Rattle.bin_tape.specs.Written.{written_tape}
use Rattle.pal_text.specs.declared.names.Name.{Name}
use Rattle.pal_acts.specs.Permanent.{permanent_symbols}
use Rattle.pal_asm.proofs.One.{means_one, means_sound}
use Rattle.labels.specs.declared.fault.PlaceFault.{PlaceFault}
use Rattle.labels.specs.declared.program.NumberingFault.{NumberingFault}
use Rattle.labels.specs.declared.program.NumberingFault.TheVariants as fault
use Rattle.labels.specs.Lines.{Placed, placed_text}
use Rattle.labels.specs.Within.{machine}
use Rattle.labels.specs.Programs.{MeansFor, IsNumbered, IsNumberingFault}

one_text : (p : Placed) (a b : List ℕ) → p ≡ Ok a → p ≡ Ok b → a ≡ b
one_text p a b e f = cc

no_text : (p : Placed) (a : List ℕ) (f : PlaceFault) → p ≡ Ok a → p ≡ Err f → ⊥
no_text p a f e h = cc

module _ (parts : List (List ℕ)) (declaration : List ℕ) where
  meant_one : (s u : List (Name × ℕ)) (i j : List (Option ℕ)) → MeansFor parts declaration s i → MeansFor parts declaration u j → (s ≡ u) × (i ≡ j)
  meant_one s u i j h k = means_one (permanent_symbols (machine declaration)) parts s u i j h.means k.means

  pub numbers_one : (tape numbers t n : List ℕ) → IsNumbered parts declaration tape numbers → IsNumbered parts declaration t n → (tape ≡ t) × (numbers ≡ n)
  numbers_one tape numbers t n h k =
      let same : (h.symbols ≡ k.symbols) × (h.image ≡ k.image) = meant_one h.symbols k.symbols h.image k.image h.source k.source in
      let P : List (Name × ℕ) → Type 0 = λ s. placed_text s declaration ≡ Ok numbers in
      (h.tape_is ∙ ap written_tape same.1 ∙ sym k.tape_is, one_text (placed_text k.symbols declaration) numbers n (subst P same.0 h.placed) k.placed)

  pub no_fault : (tape numbers : List ℕ) → IsNumbered parts declaration tape numbers → (e : NumberingFault) → IsNumberingFault parts declaration e → e ≡ fault.NoMemory
  no_fault tape numbers h (fault.Source f) k = absurd (means_sound (permanent_symbols (machine declaration)) parts h.symbols h.image f h.source.means k)
  no_fault tape numbers h fault.EmptyImage k =
      let same : (h.symbols ≡ k.symbols) × (h.image ≡ k.image) = meant_one h.symbols k.symbols h.image k.image h.source k.source in
      absurd (h.has_word (subst IsEmptyImage (sym same.1) k.empty))
  no_fault tape numbers h (fault.Placing f) k =
      let same : (h.symbols ≡ k.symbols) × (h.image ≡ k.image) = meant_one h.symbols k.symbols h.image k.image h.source k.source in
      let P : List (Name × ℕ) → Type 0 = λ s. placed_text s declaration ≡ Ok numbers in
      absurd (no_text (placed_text k.symbols declaration) numbers f (subst P same.0 h.placed) k.is)
  no_fault tape numbers h fault.NoMemory k = refl

pub matched : {X E : Type 0} (r : Result X E) (P Q : X → Type 0) (F G : E → Type 0) → IfOk r P → IfErr r F → ((x : X) → P x → Q x) → ((e : E) → F e → G e) → MatchResult r Q G
matched (Ok x) P Q F G ok err p f = p x ok
matched (Err e) P Q F G ok err p f = f e err
