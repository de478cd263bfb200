-- What is read of a tape and of a declaration in numbers is what their source means.
use Rattle.std.proofs.Common.{ℕ, ◌≡◌, ◌∙◌, sym, ap, subst, arith, List, Option, take}
use Rattle.std.proofs.lemmas.List.{take_all}
use Rattle.bin_tape.specs.Laws.{TapeImageIsOne, TapeIsNoFault}
use Rattle.bin_tape.specs.Tape.{IsTape}
use Rattle.bin_tape.specs.Written.{written_tape}
use Rattle.bin_tape.proofs.Lengths.{written_at_most}
use Rattle.bin_tape.proofs.ReadBack.{reads_back}
use Rattle.pal_asm.specs.Laws.{MeantAreWords}
use Rattle.labels.specs.Within.{machine}
use Rattle.labels.specs.Programs.{IsNumbered, MeansFor, NumberedIsMeant, NumberedIsTape}

-- so many frames are all that is looked at
within : (image : List (Option ℕ)) → take 65536 (written_tape image) ≡ written_tape image
within image = take_all 65536 (written_tape image) (let short = written_at_most image in omega (arith, short))

-- the tape reads back
looked : MeantAreWords → (parts : List (List ℕ)) (text tape numbers : List ℕ) → (h : IsNumbered parts text tape numbers) → IsTape (take 65536 tape) h.image
looked words parts text tape numbers h =
    let back : IsTape (written_tape h.image) h.image = reads_back h.image (words (machine text) parts h.symbols h.image h.source.means) h.has_word in
    let frames : take 65536 tape ≡ written_tape h.image = ap (λ (fs : List ℕ). take 65536 fs) h.tape_is ∙ within h.image in
    subst (λ (fs : List ℕ). IsTape fs h.image) (sym frames) back

pub numbered_is_meant : MeantAreWords → TapeImageIsOne → NumberedIsMeant
numbered_is_meant words one parts text tape numbers image declaration h read declares =
    let same : h.image ≡ image = one (take 65536 tape) h.image image (looked words parts text tape numbers h) read in
    record {
      symbols = h.symbols;
      source = subst (λ (i : List (Option ℕ)). MeansFor parts text h.symbols i) same h.source;
      has_word = rw same at h.has_word;
      numbers = numbers;
      placed = h.placed;
      declares = declares;
    }

pub numbered_is_tape : MeantAreWords → TapeIsNoFault → NumberedIsTape
numbered_is_tape words no_fault parts text tape numbers fault h refuses = no_fault 65536 tape h.image fault (looked words parts text tape numbers h) refuses
