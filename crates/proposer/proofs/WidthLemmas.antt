-- A declaration that is as wide as one that is as wide as a third is as wide as that.
use Rattle.std.proofs.Common.{ℕ, ◌∙◌, List, Option, inl, inr}
use Rattle.std.proofs.lemmas.Bool.{or_cases}
use Rattle.wordset.specs.Words.{IsWithin, Words, union}
use Rattle.declaration.specs.Declaration.{Declaration}
use Rattle.declaration.specs.DeclarationInCode.{Kept, meaning}
use Rattle.proposer.specs.Widenings.{Supersedes}
use Rattle.proposer.specs.Widths.{IsAsWide, KeepsCell}
use Rattle.proposer.specs.declared.Proposal.{Proposal}

keeps_on : (given mid more : Declaration) (a : ℕ) → KeepsCell given mid a → KeepsCell mid more a → KeepsCell given more a
keeps_on given mid more a first second = record {
  body = λ r is. second.body r (first.body r is);
  entry = λ is. second.entry (first.entry is);
  offset = λ o lt is. second.offset o lt (first.offset o lt is);
}

-- a set that is within two sets, each of which is within a third, is within that
within_both : (given s t more : Words) → IsWithin given (union s t) → IsWithin s more → IsWithin t more → IsWithin given more
within_both given s t more either first second v lt is = elim (or_cases (s v) (t v) (either v lt is)) [
  | inl h ↦ first v lt h
  | inr h ↦ second v lt h
]

as_wide_on : (given mid more : Declaration) → IsAsWide given mid → IsAsWide mid more → IsAsWide given more
as_wide_on given mid more first second = record {
  start_is = second.start_is ∙ first.start_is;
  profile_is = second.profile_is ∙ first.profile_is;
  cells = λ a lt. keeps_on given mid more a (first.cells a lt) (second.cells a lt);
  variables = λ v lt is. second.variables v lt (first.variables v lt is);
  stops = within_both given.stop mid.stop mid.pause (union more.stop more.pause) first.stops second.stops second.pauses;
  pauses = within_both given.pause mid.stop mid.pause (union more.stop more.pause) first.pauses second.stops second.pauses;
  moves = λ v lt is. second.moves v lt (first.moves v lt is);
  abandon = λ v lt is. second.abandon v lt (first.abandon v lt is);
  reads = second.reads;
}

-- What takes the place of a proposal that takes the place of another one takes the place of that one.
pub supersedes_on : {A : Type 0} (image : List (Option ℕ)) (given : Kept) (mid more : Proposal A) → Supersedes image given mid → Supersedes image mid.declaration more → Supersedes image given more
supersedes_on image given mid more first second = record {
  fits = record {
    start = second.fits.start ∙ first.wide.start_is;
    profile = second.fits.profile ∙ first.wide.profile_is;
    declared = second.fits.declared;
    text = second.fits.text;
    routines = second.fits.routines;
  };
  wide = as_wide_on (meaning given) (meaning mid.declaration) (meaning more.declaration) first.wide second.wide;
  shown = second.shown;
}
