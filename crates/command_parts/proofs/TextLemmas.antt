-- The text of a dump, one address more.
use Rattle.std.proofs.Common.{ℕ, ◌≡◌, ◌+◌, List, [], ◌++◌, arith, refl, add-one}
use Rattle.std.specs.Prelude.{Option}
use Rattle.instruct.specs.declared.Profile.{Profile}
use Rattle.bin_tape.specs.Image.{word_at}
use Rattle.command_parts.specs.Dumping.{dump_below, dump_line}

pub dump_none : (profile : Profile) (image : List (Option ℕ)) → dump_below profile image 0 ≡ []
unfolding dump_below
dump_none profile image = refl

pub dump_next : (profile : Profile) (image : List (Option ℕ)) (i : ℕ) → dump_below profile image (i + 1) ≡ dump_below profile image i ++ dump_line profile i (word_at image i)
unfolding dump_below
dump_next profile image i = rw (add-one i) refl

pub ruleset dump_steps = (arith, dump_none, dump_next)
