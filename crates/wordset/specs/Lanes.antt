-- A set as sixty-four lanes of sixty-four bits.
use Rattle.std.specs.Prelude.{◌≡◌, ℕ, ◌<◌, ◌/◌, ◌%◌, ◌^◌, ◌==◌, ◌&&◌, nat_lt, List, length, slice_index, replicate}
use Rattle.std.specs.Int.{bit_at}
use Rattle.std.specs.Simd.Lanes.{put_chunk}
use Rattle.wordset.specs.Words.{Words}

-- There are sixty-four lanes of sixty-four bits each.
pub record AreLanes (lanes : List ℕ) : Type 0 where
  pub long : length lanes ≡ 64
  pub fit : (i : ℕ) → slice_index lanes i < 2 ^ 64

-- The set of the lanes: the word v is in it where bit v % 64 of lane v / 64 is set, the least bit being bit 0. A number
-- from 4096 on is not a word.
unfoldable pub words : List ℕ → Words
words lanes v = nat_lt v 4096 && (bit_at (slice_index lanes (v / 64)) (v % 64) == 1)

-- The lanes stored twice in a row.
abbrev pub twice : List ℕ → List ℕ
twice lanes = put_chunk 64 (put_chunk 0 (replicate 128 0) lanes) lanes
