-- What the definitions of a text of a declaration leave open: nothing. Want of memory is not a fault of the text.
use Rattle.std.specs.Prelude.{◌≡◌, ◌≢◌, ℕ, ◌⊎◌, List}
use Rattle.declaration.specs.Declaration.{Declaration}
use Rattle.declaration.specs.Text.{Declares, Fails}
use Rattle.declaration.specs.declared.DeclarationFault.{DeclarationFault}
use Rattle.declaration.specs.declared.DeclarationFault.TheVariants.{NoMemory}

-- A text has no other declaration.
abbrev pub DeclarationIsOne : Type 0
DeclarationIsOne = (text : List ℕ) (d e : Declaration) → Declares text d → Declares text e → d ≡ e

-- A text has no other fault.
abbrev pub DeclarationFaultIsOne : Type 0
DeclarationFaultIsOne =
    (text : List ℕ) (fault fault' : DeclarationFault) → fault ≢ NoMemory → fault' ≢ NoMemory → Fails text fault → Fails text fault' → fault ≡ fault'

-- A text that has a declaration has no fault.
abbrev pub DeclarationIsNoFault : Type 0
DeclarationIsNoFault = (text : List ℕ) (d : Declaration) (fault : DeclarationFault) → fault ≢ NoMemory → Declares text d → Fails text fault → ⊥

-- Each text has a declaration or a fault.
abbrev pub EachTextIsAnswered : Type 0
EachTextIsAnswered =
    (text : List ℕ) → ((d : Declaration) × Declares text d) ⊎ ((fault : DeclarationFault) × (fault ≢ NoMemory) × Fails text fault)
