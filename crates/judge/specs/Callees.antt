-- What the conditions on calls ask of one callee.
use Rattle.std.specs.Prelude.{◌≡◌, ℕ, ◌+◌, ◌<◌, true, Some, None}
use Rattle.wordset.specs.Words.{Words, plus}
use Rattle.declaration.specs.Declaration.{Routine}
use Rattle.domain.specs.Facts.{Fact}
use Rattle.domain.specs.Moves.{joined}
use Rattle.facts.specs.declared.Condition.{Condition}
use Rattle.facts.specs.declared.Condition.TheVariants.{V7, V8, V9, V10, V11}
use Rattle.certificate_lines.specs.Certificate.{Certificate}
use Rattle.judge.specs.Landing.{Case, LandsAt, exits_of, called_from, EachLandsAfter, LandsAfter}
use Rattle.judge.specs.Conditions.{MayCall, CoversCallee, IsSite, MayReturn}

-- What the condition asks of one callee.
abbrev pub HoldsOfCallee : Case → Condition → Routine → ℕ → Fact → ℕ → Type 0
HoldsOfCallee j V7 r a f e = MayCall j r e
HoldsOfCallee j V8 r a f e = CoversCallee j.certificate r e
HoldsOfCallee j V9 r a f e = IsSite j.certificate a e
HoldsOfCallee j V10 r a f e = LandsAt j (Some e) (plus e 1) (called_from a f)
HoldsOfCallee j V11 r a f e = LandsAfter j r a e f
HoldsOfCallee j _ r a f e = Unit {0}

-- In a routine the rank is below the routine's; in main any is.
abbrev pub IsBelow : Certificate → Routine → ℕ → Type 0
IsBelow c None rank = Unit {0}
IsBelow c (Some r) rank = rank < c.rank r

-- After a return by this offset the run lands with each exit that is claimed for it.
abbrev pub LandsBy : Case → Routine → ℕ → ℕ → ℕ → Fact → Type 0
LandsBy j r a e o f = EachLandsAfter j r a e o f (exits_of j e o)

-- After a return by this offset from a callee that writes these cells the run lands with this exit, if the JMS is among its sites.
abbrev pub LandsWith : Case → Routine → ℕ → Words → ℕ → Fact → Fact → Type 0
LandsWith j r a written o f x = x.sites a ≡ true → LandsAt j r (plus (a + 1) o) (joined j.certificate.rules f x written)

-- If the fact has the offset, the routine of the entry may return by it.
abbrev pub ReturnsBy : Case → ℕ → Fact → ℕ → Type 0
ReturnsBy j e f o = f.offsets o ≡ true → MayReturn j e f o

-- The return is the entry's routine's own, and each offset that the fact has passes.
abbrev pub ReturnsThrough : Case → Routine → ℕ → Fact → Type 0
ReturnsThrough j r e f = (r ≡ Some e) × ((o : ℕ) → o < 64 → ReturnsBy j e f o)
