-- Bodies as the code keeps them, and what facts in them have.
use Rattle.std.specs.Prelude.{◌≡◌, ℕ, true, Some, None}
use Rattle.wordset.specs.Lanes.{words}
use Rattle.declaration.specs.Declaration.{Routine}
use Rattle.domain.specs.Facts.{Fact, Rules}
use Rattle.certificate_lines.specs.Certificate.{Certificate, writes_of}
use Rattle.judge.specs.Landing.{sites_of}
use Rattle.judge.specs.Conditions.{IsOfMain, IsOfRoutine}
use Rattle.judge.specs.declared.body.Body.{Body}

-- The body is main's, or that of a listed routine, with the sites and the writes that are claimed of it.
pub record Tells (c : Certificate) (b : Body) : Type 0 where
  pub listed : (e : ℕ) → b.routine ≡ Some e → c.listed e ≡ true
  pub sites : words b.claim.sites ≡ sites_of c b.routine
  pub writes : words b.claim.writes ≡ writes_of c b.routine

-- The fact has sites and offsets as it must have in the body.
abbrev pub IsOfBody : Rules → Routine → Fact → Type 0
IsOfBody rules None f = IsOfMain f
IsOfBody rules (Some e) f = IsOfRoutine rules f
