-- Lines that add to what is said of a fact, and the line of the fact itself.
use Rattle.std.proofs.Common.{◌≡◌, ℕ, ◌+◌, ◌≤◌, List, [], ◌∷◌, length, get_or, refl, ap, ◌∙◌, arith}
use Rattle.wordset.specs.Words.{between}
use Rattle.certificate_lines.specs.declared.runs.Run.{Run}
use Rattle.certificate_lines.specs.Runs.{set_of_runs}
use Rattle.std.specs.Prelude.{◌<◌, ◌-◌, take, slice_range}
use Rattle.std.proofs.lemmas.List.{drop_more}
use Rattle.certificate_lines.proofs.PackedLemmas.{one_run}

-- The set of the one run that lies at a place.
pub row_there : (runs : List Run) (i n : ℕ) (d : Run) → n ≡ 1 → i + n ≤ length runs → d ≡ get_or runs i d → d.last < 4096 →
    set_of_runs (slice_range runs i (i + n)) ≡ between d.first d.last
row_there runs i n d one within is small =
    let b : i < length runs = omega (arith, one) in
    let there : slice_range runs i (i + n) ≡ d ∷ [] =
    rw one (ap (take (i + 1 - i)) (drop_more runs i d b) ∙ (let k : i + 1 - i ≡ 1 = omega arith in rw (k, ← is) refl)) in
    ap set_of_runs there ∙ one_run d small
