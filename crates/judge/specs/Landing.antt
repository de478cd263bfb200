-- What is judged, and where facts land in it.
use Rattle.std.specs.Prelude.{◌≡◌, ℕ, ◌+◌, ◌<◌, Bool, true, false, not, ◌&&◌, ◌⊎◌, if◌then◌else◌, Some, None, List, [], ◌∷◌, map}
use Rattle.wordset.specs.Words.{plus, Words, nothing, one}
use Rattle.instruct.specs.Instructions.{Meaning, Jmp}
use Rattle.processor.specs.Runs.{Image}
use Rattle.declaration.specs.Declaration.{Routine, Declaration}
use Rattle.domain.specs.Facts.{Fact, Place, Rules, OfEquations, OfSums}
use Rattle.domain.specs.Adding.{is_void}
use Rattle.domain.specs.Narrowing.{narrowed}
use Rattle.domain.specs.Moves.{joined}
use Rattle.transfer.specs.Outcomes.{Successor, Goes, CallsTo, Returns}
use Rattle.facts.specs.Entailment.{Lands, IsIdle}
use Rattle.certificate_lines.specs.Certificate.{Certificate, place_of}

-- What is judged: a tape's words, a declaration and a certificate.
pub record Case : Type 0 where
  pub image : Image
  pub declaration : Declaration
  pub certificate : Certificate

-- The place of the facts in a routine's body.
abbrev pub place_in : Case → Routine → Place
place_in j r = place_of j.image j.declaration j.certificate r

-- The fact with these sites.
abbrev pub with_sites : Words → Fact → Fact
with_sites sites f = record f { sites = sites }

-- The facts with the sites that they have by the rules: their own, or by the rules of equations those of their routine, since
-- texts of versions 1 and 2 give none to a fact or an exit.
abbrev pub sited : Rules → Words → List Fact → List Fact
sited OfSums sites facts = facts
sited OfEquations sites facts = map (with_sites sites) facts

-- The sites of a routine by the certificate; none for main, which is not called.
abbrev pub sites_of : Certificate → Routine → Words
sites_of c None = nothing
sites_of c (Some e) = c.sites e

-- The facts at an address of a routine's body.
abbrev pub facts_in : Case → Routine → ℕ → List Fact
facts_in j r a = sited j.certificate.rules (sites_of j.certificate r) (j.certificate.facts a)

-- The exits of a routine for an offset.
abbrev pub exits_of : Case → ℕ → ℕ → List Fact
exits_of j e o = sited j.certificate.rules (j.certificate.sites e) (j.certificate.exits e o)

-- The facts for which conditions are checked: by the rules of sums the narrowed facts, without those that no state satisfies; by
-- those of equations all facts, as they stand.
abbrev pub asked : Rules → Image → List Fact → List Fact
asked OfSums image [] = []
asked OfSums image (f ∷ fs) =
    if is_void (narrowed image f) then asked OfSums image fs else narrowed image f ∷ asked OfSums image fs
asked OfEquations image facts = facts

-- The facts at an address of a routine's body for which conditions are checked.
abbrev pub asked_at : Case → Routine → ℕ → List Fact
asked_at j r a = asked j.certificate.rules j.image (facts_in j r a)

-- The fact lands at an address of a routine's body: it lands among the facts there, and the address is in the body; or nothing
-- is required of it, since no state satisfies it.
abbrev pub LandsAt : Case → Routine → ℕ → Fact → Type 0
LandsAt j r a f =
    IsIdle j.certificate.rules (place_in j r) f ⊎
    ((j.declaration.body r a ≡ true) × Lands (place_in j r) f (facts_in j r a))

-- The fact lands among a routine's exits for an offset.
abbrev pub LandsAtExit : Case → ℕ → ℕ → Fact → Type 0
LandsAtExit j e o f = Lands (place_in j (Some e)) f (exits_of j e o)

-- The fact as one of main's, which has no sites and no offsets: so it holds when all open calls are abandoned.
abbrev pub as_main : Fact → Fact
as_main f = record f { sites = nothing; offsets = nothing }

-- A JMP in a routine's body to a declared place abandons all open calls, unless it goes indirectly through an entry, which is a
-- return. No other instruction does, and none in main's body.
abbrev pub abandons : Declaration → Routine → Meaning → ℕ → Bool
abandons d (Some e) (Jmp i c) a = not (i && d.entry c) && d.abandon a
abandons d _ _ a = false

-- The fact lands at the address: in main's body as one of main's, where calls are abandoned for it; else in the same body.
abbrev pub LandsBeyond : Bool → Case → Routine → ℕ → Fact → Type 0
LandsBeyond true j r a f = LandsAt j None a (as_main f)
LandsBeyond false j r a f = LandsAt j r a f

-- If the run goes on after an outcome of an instruction, its fact lands.
abbrev pub SuccessorLands : Case → Routine → Meaning → Successor → Type 0
SuccessorLands j r m (Goes next f) =
    (a : ℕ) → a < 4096 → next a ≡ true → LandsBeyond (abandons j.declaration r m a) j r a f
SuccessorLands j r m (CallsTo next f) = Unit {0}
SuccessorLands j r m (Returns f) = Unit {0}

-- Each outcome of the list has the property.
abbrev pub EachSuccessor : (Successor → Type 0) → List Successor → Type 0
EachSuccessor p [] = Unit {0}
EachSuccessor p (o ∷ os) = p o × EachSuccessor p os

-- The fact that holds behind the entry of a routine that is called from an address.
abbrev pub called_from : ℕ → Fact → Fact
called_from a f = record f { sites = one a; offsets = one 0 }

-- If one of these facts has the site, what is joined of it and of the fact at the JMS lands.
abbrev pub EachLandsAfter : Case → Routine → ℕ → ℕ → ℕ → Fact → List Fact → Type 0
EachLandsAfter j r a e o f [] = Unit {0}
EachLandsAfter j r a e o f (x ∷ xs) =
    (x.sites a ≡ true → LandsAt j r (plus (a + 1) o) (joined j.certificate.rules f x (j.certificate.writes e))) ×
    EachLandsAfter j r a e o f xs

-- After each exit of the callee that has the JMS among its sites, what is joined lands at the return place.
abbrev pub LandsAfter : Case → Routine → ℕ → ℕ → Fact → Type 0
LandsAfter j r a e f = (o : ℕ) → o < 64 → EachLandsAfter j r a e o f (exits_of j e o)
