-- What is written for a declaration that is refined.
use Rattle.std.proofs.Common.{ℕ, ◌≡◌, List, Option, inl, inr, refl}
use Rattle.peripherals.specs.Loading.{image_of}
use Rattle.declaration.specs.Declaration.{Declaration}
use Rattle.declaration.specs.Text.{Declares, Fails}
use Rattle.declaration.specs.declared.DeclarationFault.{DeclarationFault}
use Rattle.declaration.specs.declared.DeclarationFault.TheVariants as fault
use Rattle.command_parts.specs.Faults.{fault_of_declaration}
use Rattle.policy.specs.Runs.{IsSafe}
use Rattle.search_commands.specs.Keeping.{KeepsLines}
use Rattle.search_commands.specs.Keeping.KeepsLines.{unchanged}
use Rattle.search_commands.specs.Adding.{IsNoWider}
use Rattle.search_commands.specs.Refining.{IsRefined, KeepsAssertions}
use Rattle.search_commands.specs.SearchFaults.{IsRefineFault}

-- a text that declares something no wider, for which a certificate is found
pub shown_change : (image : List (Option ℕ)) (text written : List ℕ) (given less : Declaration) → Declares text given → Declares written less → IsNoWider given less
    → KeepsAssertions given less → IsSafe (image_of image) less → IsRefined image text written
shown_change image text written given less first second is keeps safe =
    inr (record { given = given; declares = first; is = record { declaration = less; declares = second; is = is; keeps = keeps; safe = safe } })

-- the text itself
pub same_text_is_refined : (image : List (Option ℕ)) (text written : List ℕ) → written ≡ text → IsRefined image text written
same_text_is_refined image text written same = inl same

pub same_text_keeps : (text written : List ℕ) → written ≡ text → KeepsLines text written
same_text_keeps text written same = rw same (unchanged text)

-- the fault of a text as that of the command
pub refine_fault : (text : List ℕ) (found : DeclarationFault) → Fails text found → IsRefineFault text (fault_of_declaration found)
refine_fault text fault.NoMemory fails = refl
refine_fault text fault.TooMany fails = fails
refine_fault text (fault.BadLine n) fails = fails
refine_fault text (fault.TwoStarts n) fails = fails
refine_fault text (fault.TwoProfiles n) fails = fails
refine_fault text fault.NoStart fails = fails
refine_fault text (fault.Overlap a) fails = fails
refine_fault text (fault.EntryInAutoIndex a) fails = fails
refine_fault text fault.StartNotInMain fails = fails
refine_fault text (fault.HaltNotInBody a) fails = fails
refine_fault text (fault.Misplaced a) fails = fails
