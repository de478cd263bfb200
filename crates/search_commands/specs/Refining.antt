-- What `declare` makes of a declaration for which a certificate is found.
use Rattle.std.specs.Prelude.{ℕ, ◌≡◌, ◌⊎◌, ◌++◌, List, Option}
use Rattle.peripherals.specs.Loading.{image_of}
use Rattle.declaration.specs.Declaration.{Declaration, ReturnAssertion}
use Rattle.declaration.specs.Text.{Declares}
use Rattle.policy.specs.Runs.{IsSafe}
use Rattle.search_commands.specs.Adding.{IsNoWider}

-- The second declaration requires at addresses what the first one requires there, in the same order, and at returns first
-- what the first one requires there; it may require more at returns.
pub record KeepsAssertions (given less : Declaration) : Type 0 where
  pub holds : less.holds ≡ given.holds
  pub others : List ReturnAssertion
  pub returns : less.returns ≡ given.returns ++ others

-- The text declares something that is no wider than a declaration and keeps its assertions, and no run of the program with
-- these words violates it.
pub record IsShownNoWider (image : List (Option ℕ)) (given : Declaration) (text : List ℕ) : Type 0 where
  pub declaration : Declaration
  pub declares : Declares text declaration
  pub is : IsNoWider given declaration
  pub keeps : KeepsAssertions given declaration
  pub safe : IsSafe (image_of image) declaration

-- The first text declares a program, and what the second one declares is no wider, keeps the assertions of the first, and
-- is shown to be safe.
pub record IsShownChange (image : List (Option ℕ)) (text written : List ℕ) : Type 0 where
  pub given : Declaration
  pub declares : Declares text given
  pub is : IsShownNoWider image given written

-- What is written is the text that was given, or such a change of it.
abbrev pub IsRefined : List (Option ℕ) → List ℕ → List ℕ → Type 0
IsRefined image text written = (written ≡ text) ⊎ IsShownChange image text written
