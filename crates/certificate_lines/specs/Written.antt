-- The lines of one fact of a certificate, and their text.
use Rattle.std.specs.Prelude.{ℕ, ◌==◌, if◌then◌else◌, List, [], ◌∷◌, get_or}
use Rattle.certificate_lines.specs.Lines.{Line, FactIs}
use Rattle.certificate_lines.specs.Order.{details_of_last}
use Rattle.certificate_lines.specs.Reading.{Text}
use Rattle.certificate_lines.specs.Spelled.{all_ended}

-- The lines of each fact at an address, its own and its details, in the order in which they stand.
abbrev pub facts_lines : List Line → ℕ → List (List Line)
facts_lines [] a = []
facts_lines (FactIs b s r o ∷ ls) a = if b == a then (FactIs b s r o ∷ details_of_last ls) ∷ facts_lines ls a else facts_lines ls a
facts_lines (_ ∷ ls) a = facts_lines ls a

-- The text of the fact with a number among those at an address, the first of which has number 0; no text where there are fewer.
abbrev pub fact_text_at : Text → ℕ → ℕ → List ℕ
fact_text_at t a i = all_ended t.version (get_or (facts_lines t.lines a) i [])
