-- Cells of a set.
use Rattle.std.proofs.Common.{◌≡◌, ℕ, Bool, true, false, ◌&&◌, List, refl}
use Rattle.std.specs.Prelude.{nat_lt}
use Rattle.wordset.specs.Lanes.{words}
use Rattle.domain.specs.Locations.{has_cell}

pub has_cell_words : (lanes : List ℕ) (a : ℕ) → has_cell (words lanes) a ≡ words lanes a
unfolding words
has_cell_words lanes a = go (nat_lt a 4096) _
  where
    go : (b c : Bool) → (b && (b && c)) ≡ (b && c)
    go true c = refl
    go false c = refl
