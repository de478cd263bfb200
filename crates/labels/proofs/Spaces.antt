-- Words that are put behind a text, each behind a space.
use Rattle.std.proofs.Common.{ℕ, ◌≡◌, ◌∙◌, sym, ap, append_assoc, List, [], ◌∷◌, ◌++◌}
use Rattle.std.proofs.lemmas.List.{append-nil}
use Rattle.labels.specs.Located.{spaced_words}

regroup : (out word rest : List ℕ) → ((out ++ (32 ∷ [])) ++ word) ++ rest ≡ out ++ (32 ∷ (word ++ rest))
regroup out word rest = simp append_assoc

-- a word more
pub word_on : (out spaced new word : List ℕ) (left more : List (List ℕ)) → left ≡ word ∷ more → spaced ≡ out ++ (32 ∷ []) → new ≡ spaced ++ word → new ++ spaced_words more ≡ out ++ spaced_words left
word_on out spaced new word left more is s n =
    ap (λ x. x ++ spaced_words more) n
    ∙ ap (λ x. (x ++ word) ++ spaced_words more) s
    ∙ regroup out word (spaced_words more)
    ∙ ap (λ x. out ++ spaced_words x) (sym is)

pub no_word_left : (out : List ℕ) (left : List (List ℕ)) → left ≡ [] → out ≡ out ++ spaced_words left
no_word_left out left is = sym (append-nil out) ∙ ap (λ x. out ++ spaced_words x) (sym is)
