-- Facts among which a run lands, as the code keeps where they are claimed.
use Rattle.std.specs.Prelude.{List}
use Rattle.wordset.specs.Words.{Words}
use Rattle.wordset.specs.Lanes.{words}
use Rattle.domain.specs.Facts.{Fact, Rules, OfEquations, OfSums}
use Rattle.certificate_lines.specs.Certificate.{Certificate}
use Rattle.judge.specs.Landing.{with_sites, sited}
use Rattle.judge.specs.declared.sources.AddressFacts.{AddressFacts}
use Rattle.judge.specs.declared.sources.OffsetExits.{OffsetExits}

-- The fact with the sites that it has by the rules.
abbrev pub sited_one : Rules → Words → Fact → Fact
sited_one OfSums sites f = f
sited_one OfEquations sites f = with_sites sites f

-- The facts at the address.
abbrev pub facts_of : {C : Type 0} → (C → Certificate) → AddressFacts C → List Fact
facts_of claims s = sited (claims s.claims.now).rules (words s.sites.now) ((claims s.claims.now).facts s.at)

-- The exits for the offset.
abbrev pub exits_for : {C : Type 0} → (C → Certificate) → OffsetExits C → List Fact
exits_for claims s = sited (claims s.claims.now).rules (words s.sites.now) ((claims s.claims.now).exits s.entry s.offset)
