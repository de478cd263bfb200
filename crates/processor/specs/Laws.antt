-- What the instruction table leaves open: nothing.
use Rattle.std.specs.Prelude.{◌≡◌}
use Rattle.instruct.specs.declared.Profile.{Profile}
use Rattle.processor.specs.Machine.{State, Answer, Step}

-- By an answer a step leads to no other state.
abbrev pub StepLeadsToOneState : Type 0
StepLeadsToOneState = (profile : Profile) (s : State) (q : Answer) (t u : State) → Step profile s q t → Step profile s q u → t ≡ u
