-- A source, its tape and its image, and its faults.
use Rattle.std.proofs.Common.{ℕ, ◌≡◌, List, [], ◌∷◌, take, refl, sym, ap, ◌∙◌, subst, arith, Option, Some}
use Rattle.std.proofs.lemmas.List.{take_all}
use Rattle.instruct.specs.declared.Profile.{Profile}
use Rattle.bin_tape.specs.declared.word.TapeWord.{TapeWord}
use Rattle.bin_tape.specs.Image.{IsEmptyImage}
use Rattle.bin_tape.specs.Reading.{Progress, Ended}
use Rattle.bin_tape.specs.Tape.{Part, IsTape, IsImage, words}
use Rattle.bin_tape.specs.Written.{written_tape}
use Rattle.bin_tape.proofs.Images.{one_image}
use Rattle.bin_tape.proofs.Lengths.{written_at_most}
use Rattle.bin_tape.proofs.Parsed.{tape_read}
use Rattle.bin_tape.proofs.ReadBack.{reads_back}
use Rattle.pal_text.specs.declared.names.Name.{Name}
use Rattle.pal_acts.specs.Permanent.{permanent_symbols}
use Rattle.pal_asm.specs.Laws.{MeaningIsOne, FaultIsOne, MeaningIsNoFault, MeantAreWords}
use Rattle.pal_asm.specs.Sources.{Means, IsFault}
use Rattle.pal_asm.specs.declared.fault.PalFault.{PalFault}
use Rattle.command_parts.specs.declared.status.Fault.TheVariants.{Tape, EmptyImage, Source, Declared, Certificate, Events, Guess, Declare, Device}
use Rattle.command_parts.specs.declared.status.Fault.TheVariants as fault
use Rattle.source_commands.specs.AssembleText.{IsAssembled, IsListing, HasFault}
use Rattle.source_commands.specs.WrittenSource.{IsTapeSource}
use Rattle.command_parts.specs.Inputs.{HasImage}
use Rattle.command_laws.specs.Laws.{telling, TapeIsThere, EmptyHasNoTape, TapeIsOne, MeantIsRead, ReadIsMeant, MeantIsWritten, FaultIsTold, FaultIsNotWritten, MeantIsListed, FaultIsTheOne, WrittenIsAssembled, AssembledIsWritten}
use Rattle.source_commands.specs.SourceTexts.{AreRead}

-- sources whose bytes are known hold these parts alone
told : (parts others : List (List ℕ)) → AreRead (telling parts) others → others ≡ parts
told [] [] reads = refl
told [] (other ∷ others) reads = absurd reads
told (part ∷ parts) [] reads = absurd reads
told (part ∷ parts) (other ∷ others) reads =
    let first : other ≡ part = reads.0 in
    let rest : others ≡ parts = told parts others reads.1 in
    rw (first, rest) refl

parts_of : Progress → List Part
parts_of (Ended parts) = parts
parts_of _ = []

others_of : List TapeWord → List TapeWord
others_of [] = []
others_of (w ∷ ws) = ws

-- the frames of a tape have one image
tape_one : (fs : List ℕ) (a b : List (Option ℕ)) → IsTape fs a → IsTape fs b → a ≡ b
unfolding parts_of others_of
tape_one fs a b one two =
    let same : one.parts ≡ two.parts = ap parts_of (sym (tape_read fs a one) ∙ tape_read fs b two) in
    let others : one.others ≡ two.others = ap others_of (sym one.last ∙ ap words same ∙ two.last) in
    one_image one.others a b one.cells (subst (λ (ws : List TapeWord). IsImage ws b) (sym others) two.cells)

-- a written tape is within the limit on the frames that are read
within : (image : List (Option ℕ)) → take 65536 (written_tape image) ≡ written_tape image
within image = take_all 65536 (written_tape image) (let short = written_at_most image in omega (arith, short))

-- the image that an assembled source means is the image of its tape
meant : MeaningIsOne → (profile : Profile) (parts : List (List ℕ)) (symbols : List (Name × ℕ)) (image : List (Option ℕ)) (tape : List ℕ) →
    (is : IsAssembled profile (telling parts) tape) → Means (permanent_symbols profile) parts symbols image → is.image ≡ image
meant one profile parts symbols image tape is means =
    let whole : is.assembles.parts ≡ parts = told parts is.assembles.parts is.assembles.read in
    let other : Means (permanent_symbols profile) parts is.symbols is.image = rw whole at is.assembles.means in
    (one (permanent_symbols profile) parts is.symbols symbols is.image image other means).1

-- and they do hold these parts
telling_all : (parts : List (List ℕ)) → AreRead (telling parts) parts
telling_all [] = tt
telling_all (part ∷ parts) = (refl, telling_all parts)

pub tape_is_there : MeantAreWords → TapeIsThere
tape_is_there words profile parts symbols image means has_word = record {
  symbols = symbols;
  image = image;
  assembles = record { parts = parts; read = telling_all parts; means = means };
  has_word = has_word;
  tape_is = refl;
  reads_back = reads_back image (words profile parts symbols image means) has_word;
}

pub empty_has_no_tape : MeaningIsOne → EmptyHasNoTape
empty_has_no_tape one profile parts symbols image tape means empty is =
    let same : is.image ≡ image = meant one profile parts symbols image tape is means in
    let has : IsEmptyImage image → ⊥ = rw same at is.has_word in
    has empty

pub tape_is_one : MeaningIsOne → TapeIsOne
tape_is_one one profile parts tape tape' is other =
    let whole : other.assembles.parts ≡ parts = told parts other.assembles.parts other.assembles.read in
    let means : Means (permanent_symbols profile) parts other.symbols other.image = rw whole at other.assembles.means in
    is.tape_is ∙ ap written_tape (meant one profile parts other.symbols other.image tape is means) ∙ sym other.tape_is

pub meant_is_read : MeaningIsOne → MeantIsRead
meant_is_read one profile parts symbols image tape is means =
    let same : is.image ≡ image = meant one profile parts symbols image tape is means in
    let back : IsTape (written_tape image) image = rw same at is.reads_back in
    let tape_is : tape ≡ written_tape image = is.tape_is ∙ ap written_tape same in
    rw (tape_is, within image) back

pub read_is_meant : ReadIsMeant
read_is_meant profile parts image tape is has =
    let whole : is.assembles.parts ≡ parts = told parts is.assembles.parts is.assembles.read in
    let means : Means (permanent_symbols profile) parts is.symbols is.image = rw whole at is.assembles.means in
    let looked : IsTape (take 65536 tape) image = has in
    let reads : IsTape (written_tape is.image) image = subst (λ (fs : List ℕ). IsTape fs image) (ap (λ (fs : List ℕ). take 65536 fs) is.tape_is ∙ within is.image) looked in
    let same : is.image ≡ image = tape_one (written_tape is.image) is.image image is.reads_back reads in
    (is.symbols, rw same at means)

fault_of : (profile : Profile) (parts : List (List ℕ)) (fault : PalFault) → HasFault profile (telling parts) fault → IsFault (permanent_symbols profile) parts fault
fault_of profile parts fault has = let whole : has.parts ≡ parts = told parts has.parts has.read in rw whole at has.is

pub meant_is_written : MeaningIsOne → MeaningIsNoFault → MeantIsWritten
meant_is_written one sound profile parts symbols image marks left (Tape f) means is = absurd is
meant_is_written one sound profile parts symbols image marks left EmptyImage means is =
    let whole : is.assembles.parts ≡ parts = told parts is.assembles.parts is.assembles.read in
    let other : Means (permanent_symbols profile) parts is.symbols is.image = rw whole at is.assembles.means in
    let same : is.image ≡ image = (one (permanent_symbols profile) parts is.symbols symbols is.image image other means).1 in
    rw same at is.empty
meant_is_written one sound profile parts symbols image marks left (Source f) means is = absurd (sound (permanent_symbols profile) parts symbols image f means (fault_of profile parts f is))
meant_is_written one sound profile parts symbols image marks left (Declared f) means is = absurd is
meant_is_written one sound profile parts symbols image marks left (Certificate f) means is = absurd is
meant_is_written one sound profile parts symbols image marks left (Events f) means is = absurd is
meant_is_written one sound profile parts symbols image marks left (Guess f) means is = absurd is
meant_is_written one sound profile parts symbols image marks left (Declare f) means is = absurd is
meant_is_written one sound profile parts symbols image marks left (Device f) means is = tt
meant_is_written one sound profile parts symbols image marks left fault.NoMemory means is = tt

pub fault_is_told : FaultIsOne → MeaningIsNoFault → FaultIsTold
fault_is_told one sound profile parts bad marks left (Tape f) faulty is = absurd is
fault_is_told one sound profile parts bad marks left EmptyImage faulty is =
    let whole : is.assembles.parts ≡ parts = told parts is.assembles.parts is.assembles.read in
    let other : Means (permanent_symbols profile) parts is.symbols is.image = rw whole at is.assembles.means in
    absurd (sound (permanent_symbols profile) parts is.symbols is.image bad other faulty)
fault_is_told one sound profile parts bad marks left (Source f) faulty is = one (permanent_symbols profile) parts f bad (fault_of profile parts f is) faulty
fault_is_told one sound profile parts bad marks left (Declared f) faulty is = absurd is
fault_is_told one sound profile parts bad marks left (Certificate f) faulty is = absurd is
fault_is_told one sound profile parts bad marks left (Events f) faulty is = absurd is
fault_is_told one sound profile parts bad marks left (Guess f) faulty is = absurd is
fault_is_told one sound profile parts bad marks left (Declare f) faulty is = absurd is
fault_is_told one sound profile parts bad marks left (Device f) faulty is = tt
fault_is_told one sound profile parts bad marks left fault.NoMemory faulty is = tt

pub fault_is_not_written : MeaningIsNoFault → FaultIsNotWritten
fault_is_not_written sound profile parts bad text faulty = (assembled, listed)
  where
    assembled : IsAssembled profile (telling parts) text → ⊥
    assembled is =
        let whole : is.assembles.parts ≡ parts = told parts is.assembles.parts is.assembles.read in
        let other : Means (permanent_symbols profile) parts is.symbols is.image = rw whole at is.assembles.means in
        sound (permanent_symbols profile) parts is.symbols is.image bad other faulty

    listed : IsListing profile (telling parts) text → ⊥
    listed is =
        let whole : is.parts ≡ parts = told parts is.parts is.read in
        let other : Means (permanent_symbols profile) parts is.symbols is.image = rw whole at is.means in
        sound (permanent_symbols profile) parts is.symbols is.image bad other faulty

pub meant_is_listed : MeaningIsNoFault → MeantIsListed
meant_is_listed sound profile parts symbols image marks left bad means is = sound (permanent_symbols profile) parts symbols image bad means (fault_of profile parts bad is)

pub fault_is_the_one : FaultIsOne → FaultIsTheOne
fault_is_the_one one profile parts bad told_so marks left faulty is = one (permanent_symbols profile) parts told_so bad (fault_of profile parts told_so is) faulty

-- the image that is read from a tape is the one that its source was written from
read_so : (profile : Profile) (frames text : List ℕ) (image : List (Option ℕ)) → (s : IsTapeSource profile (Some frames) text) → HasImage (Some frames) image → s.image ≡ image
read_so profile frames text image s has = tape_one (take 65536 frames) s.image image s.tape has

pub written_is_assembled : MeantAreWords → WrittenIsAssembled
written_is_assembled words profile frames text image s has has_word =
    let same : s.image ≡ image = read_so profile frames text image s has in
    let means : Means (permanent_symbols profile) (text ∷ []) s.source.symbols image = rw same at s.source.means in
    tape_is_there words profile (text ∷ []) s.source.symbols image means has_word

pub assembled_is_written : MeaningIsOne → AssembledIsWritten
assembled_is_written one profile frames text tape image s has is =
    let same : s.image ≡ image = read_so profile frames text image s has in
    let means : Means (permanent_symbols profile) (text ∷ []) s.source.symbols image = rw same at s.source.means in
    is.tape_is ∙ ap written_tape (meant one profile (text ∷ []) s.source.symbols image tape is means)
