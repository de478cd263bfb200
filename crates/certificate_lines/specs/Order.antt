-- Which line may come after which lines. Lists of lines have the newest line first.
use Rattle.std.specs.Prelude.{ℕ, ◌+◌, ◌*◌, ◌==◌, nat_lt, Bool, true, false, not, ◌&&◌, ◌||◌, if◌then◌else◌, List, [], ◌∷◌, ◌++◌}
use Rattle.std.specs.List.{list_any}
use Rattle.domain.specs.Terms.{Sum, term_is_before, same_term}
use Rattle.certificate_lines.specs.declared.Version.{Version}
use Rattle.certificate_lines.specs.Lines.{Line, RoutineIs, FactIs, ExitIs, CellIs, SumIs, ChainIs, is_detail, has_details, is_end, is_routine, is_cell, is_sum, is_chain, is_of_sums}

-- A line may stand after others if they have no end, and a detail if one of them is a fact or an exit.
abbrev pub may_stand : List Line → Line → Bool
may_stand before l = not (list_any is_end before) && (not (is_detail l) || list_any has_details before)

-- All lines but details: those of routines, of facts and of exits, and the end.
abbrev pub heads : List Line → List Line
heads [] = []
heads (l ∷ ls) = if is_detail l then heads ls else l ∷ heads ls

-- The details that stand after the last line of another kind.
abbrev pub details_of_last : List Line → List Line
details_of_last [] = []
details_of_last (l ∷ ls) = if is_detail l then l ∷ details_of_last ls else []

-- The lines with which a line has to be in order.
abbrev pub fellows : List Line → Line → List Line
fellows before l = if is_detail l then details_of_last before else heads before

-- Sums are compared term by term, first by the term and then by its coefficient. One that ends is before those that go on.
abbrev pub sum_is_before : Sum → Sum → Bool
sum_is_before [] [] = false
sum_is_before [] (t ∷ ts) = true
sum_is_before (s ∷ ss) [] = false
sum_is_before (s ∷ ss) (t ∷ ts) =
    term_is_before s.term t.term ||
    (same_term s.term t.term &&
    (nat_lt s.coefficient t.coefficient || ((s.coefficient == t.coefficient) && sum_is_before ss ts)))

-- The place of a line among the heads: routines by their entries, facts by their addresses, exits by their entries and
-- offsets, and the end. Details have no place there.
abbrev pub place_of_head : Line → ℕ
place_of_head (RoutineIs r) = r.entry
place_of_head (FactIs a s r o) = 4096 + a
place_of_head (ExitIs e o s r) = 8192 + (64 * e + o)
place_of_head _ = 270336

-- A detail is before another one: cells by their addresses, then sums, then chains by their cells.
abbrev pub detail_is_before : Line → Line → Bool
detail_is_before (CellIs c) (CellIs d) = nat_lt c.address d.address
detail_is_before (CellIs c) (SumIs r) = true
detail_is_before (CellIs c) (ChainIs d) = true
detail_is_before (SumIs r) (SumIs q) = sum_is_before r.sum q.sum
detail_is_before (SumIs r) (ChainIs d) = true
detail_is_before (ChainIs c) (ChainIs d) = nat_lt c.cell d.cell
detail_is_before _ _ = false

-- In version 3 several facts may stand at one address, and several exits for one offset.
abbrev pub may_be_level : Version → Line → Bool
may_be_level v l = is_of_sums v && has_details l

-- A line may come behind another one of the same group: its place is after it, or the same where several may stand.
abbrev pub may_follow : Version → Line → Line → Bool
may_follow v l last =
    if is_detail l then detail_is_before last l
    else nat_lt (place_of_head last) (place_of_head l) ||
    (may_be_level v l && (place_of_head last == place_of_head l))

-- A line may come behind the newest of these lines, if there are any.
abbrev pub follows_newest : Version → Line → List Line → Bool
follows_newest v l [] = true
follows_newest v l (last ∷ ls) = may_follow v l last

-- A line comes in order after others.
abbrev pub comes_in_order : Version → List Line → Line → Bool
comes_in_order v before l = follows_newest v l (fellows before l)

-- How many of the lines pass the test.
abbrev pub how_many : (Line → Bool) → List Line → ℕ
how_many test [] = 0
how_many test (l ∷ ls) = (if test l then 1 else 0) + how_many test ls

-- There is room for a line after others: there may be 64 routines, and a fact or an exit may have 64 cells, 32 sums and 4 chains.
abbrev pub has_room : List Line → Line → Bool
has_room before (RoutineIs r) = nat_lt (how_many is_routine before) 64
has_room before (CellIs c) = nat_lt (how_many is_cell (details_of_last before)) 64
has_room before (SumIs r) = nat_lt (how_many is_sum (details_of_last before)) 32
has_room before (ChainIs c) = nat_lt (how_many is_chain (details_of_last before)) 4
has_room before _ = true

-- Lines with the oldest first.
abbrev pub oldest : List Line → List Line
oldest [] = []
oldest (l ∷ ls) = oldest ls ++ l ∷ []
