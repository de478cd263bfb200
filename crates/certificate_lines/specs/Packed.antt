-- Packed lines of all versions, and what they say.
use Rattle.std.specs.Prelude.{◌≡◌, ℕ, ◌+◌, ◌-◌, ◌<◌, ◌≤◌, Bool, true, false, Option, Some, None, List, [], ◌∷◌, length, map, take, drop}
use Rattle.wordset.specs.Words.{Words, minus, nothing}
use Rattle.wordset.specs.Links.{links_of}
use Rattle.domain.specs.Locations.{Cell}
use Rattle.domain.specs.LocationsInCode.{location_of}
use Rattle.domain.specs.Terms.{Holding, Sum}
use Rattle.domain.specs.InCode.{summand_of}
use Rattle.domain.specs.ChainsInCode.{step_of, chain_of}
use Rattle.domain.specs.Offsets.{offsets_in}
use Rattle.domain.specs.Brief.{brief_words}
use Rattle.domain.specs.CellsInCode.{cell_set_of}
use Rattle.domain.specs.Facts as facts
use Rattle.domain.specs.FactInCode.{fact_in_code}
use Rattle.domain.specs.declared.chains.Step.{Step}
use Rattle.domain.specs.Locations.{Ac}
use Rattle.wordset.specs.Lanes.{words}
use Rattle.certificate_lines.specs.declared.runs.Run.{Run}
use Rattle.certificate_lines.specs.declared.runs.RunCounts.{RunCounts}
use Rattle.certificate_lines.specs.declared.packed.sum.PackedSum.{PackedSum}
use Rattle.certificate_lines.specs.declared.packed.PackedLine.{PackedLine}
use Rattle.certificate_lines.specs.declared.packed.PackedLine.TheVariants as packed
use Rattle.certificate_lines.specs.declared.packed.StoredLine.{StoredLine}
use Rattle.certificate_lines.specs.declared.packed.LineView.{LineView}
use Rattle.certificate_lines.specs.declared.packed.Claim.{Claim}
use Rattle.certificate_lines.specs.declared.packed.Claim.TheVariants as claim
use Rattle.certificate_lines.specs.FieldSpelling.{Registers}
use Rattle.certificate_lines.specs.Runs.{set_at, registers_at, routine_at, AreWithin}
use Rattle.certificate_lines.specs.Lines.{Line, RoutineIs, FactIs, ExitIs, CellIs, SumIs, ChainIs, End}

-- The terms after the second one, whose coefficient is this: a cell that has minus this coefficient, or none.
abbrev pub third_terms : ℕ → Option ℕ → Sum
third_terms c None = []
third_terms c (Some z) = record { coefficient = minus 0 c; term = Holding (Cell z) } ∷ []

-- The sum that is packed so.
abbrev pub packed_sum_of : PackedSum → Sum
packed_sum_of p =
    record { coefficient = 1; term = Holding (location_of p.first) } ∷ summand_of p.second ∷
    third_terms p.second.coefficient p.third

-- What a packed line says, whose runs and steps are those at the front. The runs of the registers lie behind those of the sites.
abbrev pub said_at : List Run → List Step → PackedLine → Line
said_at runs steps (packed.Routine r) = RoutineIs (routine_at runs r)
said_at runs steps (packed.Fact f) = FactIs f.address (set_at runs 0 f.sites) (registers_at (drop f.sites runs) f.registers) (offsets_in f.offsets)
said_at runs steps (packed.Exit e) = ExitIs e.entry e.offset (set_at runs 0 e.sites) (registers_at (drop e.sites runs) e.registers)
said_at runs steps (packed.Cell a n) = CellIs (record { address = a; set = set_at runs 0 n })
said_at runs steps (packed.Sum s n) = SumIs (record { sum = packed_sum_of s; set = set_at runs 0 n })
said_at runs steps (packed.Chain c) = ChainIs (record { cell = c.cell; more = c.more; link = links_of c.link; steps = map step_of (take c.count steps) })
said_at runs steps packed.End = End

-- What a line says that is kept, where these are the runs and the steps of all lines.
abbrev pub kept_at : List Run → List Step → StoredLine → Line
kept_at runs steps k = said_at (drop k.first runs) (drop k.first steps) k.line

-- Lines as they're kept packed: the lines in their order, the runs of all their sets, and the steps of all their chains.
pub record Packed : Type 0 where
  pub list : List StoredLine
  pub runs : List Run
  pub steps : List Step

-- What lines that are kept packed say, one by one in their order.
abbrev pub said_lines : Packed → List Line
said_lines p = map (kept_at p.runs p.steps) p.list

-- The runs of the sites and of the registers lie among so many.
abbrev pub LieWithin : ℕ → ℕ → RunCounts → Type 0
LieWithin n sites s = sites + (s.one + s.other) ≤ n

-- The runs of a packed line's sets lie among so many, and its steps among so many.
abbrev pub LiesWithin : ℕ → ℕ → PackedLine → Type 0
LiesWithin n m (packed.Routine r) = AreWithin n r.sets
LiesWithin n m (packed.Fact f) = LieWithin n f.sites f.registers.sets
LiesWithin n m (packed.Exit e) = LieWithin n e.sites e.registers.sets
LiesWithin n m (packed.Cell a count) = count ≤ n
LiesWithin n m (packed.Sum s count) = count ≤ n
LiesWithin n m (packed.Chain c) = (c.count ≤ m) × (c.count ≤ 16)
LiesWithin n m packed.End = Unit {0}

-- So do those of a line that is kept, of which the first one is told.
abbrev pub IsKept : ℕ → ℕ → StoredLine → Type 0
IsKept n m k = LiesWithin (n - k.first) (m - k.first) k.line

-- How many runs the sets of a packed line have, and how many steps it has.
abbrev pub run_count : PackedLine → ℕ
run_count (packed.Routine r) = r.sets.one + r.sets.other
run_count (packed.Fact f) = f.sites + (f.registers.sets.one + f.registers.sets.other)
run_count (packed.Exit e) = e.sites + (e.registers.sets.one + e.registers.sets.other)
run_count (packed.Cell a count) = count
run_count (packed.Sum s count) = count
run_count (packed.Chain c) = 0
run_count packed.End = 0

abbrev pub step_count : PackedLine → ℕ
step_count (packed.Chain c) = c.count
step_count _ = 0

-- The numbers of a packed line are of its form: an offset has a place of its own.
abbrev pub IsNumbered : PackedLine → Type 0
IsNumbered (packed.Exit e) = e.offset < 64
IsNumbered _ = Unit {0}

-- The sites that a line says, or none in the versions that say nothing of them.
abbrev pub sites_if : Bool → facts.Fact → Words
sites_if true f = f.sites
sites_if false f = nothing

-- What a fact says of the registers.
abbrev pub registers_in_fact : facts.Fact → Registers
registers_in_fact f = record { ac = f.set Ac; mq = f.mq; link = f.link }

-- The line of a claim, by which it is added.
abbrev pub claimed_line : Claim → Line
claimed_line (claim.Routine e n r) = RoutineIs (record { entry = e; rank = n; sites = words r.now.sites; writes = words r.now.writes })
claimed_line (claim.Fact b a f) = FactIs a (sites_if b (fact_in_code f.now)) (registers_in_fact (fact_in_code f.now)) (fact_in_code f.now).offsets
claimed_line (claim.Exit b e o f) = ExitIs e o (sites_if b (fact_in_code f.now)) (registers_in_fact (fact_in_code f.now))
claimed_line (claim.Cell c) = CellIs (cell_set_of c.now)
claimed_line (claim.Sum r s) = SumIs (record { sum = packed_sum_of s.now; set = brief_words r.now.set })
claimed_line (claim.Chain c) = ChainIs (chain_of c.now)

-- The line is packed so.
pub record IsPacked (runs : List Run) (steps : List Step) (l : PackedLine) (line : Line) : Type 0 where
  pub within : LiesWithin (length runs) (length steps) l
  pub is : said_at runs steps l ≡ line

-- What a line says that is lent with its runs and steps.
abbrev pub said_of : LineView → Line
said_of l = said_at l.runs.now l.steps.now l.line.now

-- An exit's offset has two digits, and a chain no more steps than a text may give it.
abbrev pub HasForm : Claim → Type 0
HasForm (claim.Exit b e o f) = o < 64
HasForm (claim.Chain c) = length (chain_of c.now).steps ≤ 16
HasForm _ = Unit {0}

-- The line, of a fact or an exit with these sites.
abbrev pub sited_line : Words → Line → Line
sited_line sites (FactIs a s r o) = FactIs a sites r o
sited_line sites (ExitIs e o s r) = ExitIs e o sites r
sited_line sites l = l
