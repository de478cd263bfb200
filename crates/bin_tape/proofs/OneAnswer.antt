-- Each list of frames has one answer.
use Rattle.std.proofs.Common.{◌≡◌, ◌∙◌, sym, ap, refl, ℕ, List, ◌∷◌, length, take, Bool, Option, inl, inr, ◌⊎◌}
use Rattle.std.specs.Prelude.{nat_lt, Result, Ok, Err, IfOk, IfErr}
use Rattle.bin_tape.specs.declared.word.TapeWord.{TapeWord}
use Rattle.bin_tape.specs.declared.word.TapeWord.TheVariants.{Data}
use Rattle.bin_tape.specs.declared.fault.TapeFault.{TapeFault}
use Rattle.bin_tape.specs.Tape.{Part, words, IsTape}
use Rattle.bin_tape.specs.Refuses.{Refuses}
use Rattle.bin_tape.specs.Reading.{Progress, Between, Second, Skipping, Ended, Faulty, reads, others, ends_early, ends_within, Answers}
use Rattle.bin_tape.specs.Laws.{TapeImageIsOne, TapeFaultIsOne, TapeIsNoFault, EachTapeIsAnswered}
use Rattle.bin_tape.proofs.Decides.{is_tape, only_tape, only_fault, is_refused}
use Rattle.bin_tape.proofs.GoesOn.{image_of, has_image}
use Rattle.bin_tape.proofs.Images.{one_image}
use Rattle.bin_tape.proofs.Parsed.{tape_read}

abbrev Answer : Type 0
Answer = Result (List (Option ℕ)) TapeFault

-- whatever was read, there is an answer
answer : (longer : Bool) (p : Progress) → (r : Answer) × Answers longer p r
answer longer (Between parts) = (Err (ends_early longer (words parts)), refl)
answer longer (Second parts first) = (Err (ends_within longer), refl)
answer longer (Skipping parts skipped) = (Err (ends_within longer), refl)
answer longer (Ended parts) = (Ok (image_of 4096 (others (words parts))), has_image (others (words parts)))
answer longer (Faulty f) = (Err f, refl)

the_answer : (limit : ℕ) (fs : List ℕ) → (r : Answer) × Answers (nat_lt limit (length fs)) (reads (take limit fs)) r
the_answer limit fs = answer (nat_lt limit (length fs)) (reads (take limit fs))

parts_are_one : (p q : List Part) → Ended p ≡ Ended q → p ≡ q
parts_are_one p q e = cc

others_are_one : (v u : ℕ) (ws vs : List TapeWord) → Data v ∷ ws ≡ Data u ∷ vs → ws ≡ vs
others_are_one v u ws vs e = cc

fault_out : (f g : TapeFault) (r : Answer) → r ≡ Err f → r ≡ Err g → f ≡ g
fault_out f g r a b = let same : Err f ≡ Err g = sym a ∙ b in cc

not_both : (image : List (Option ℕ)) (f : TapeFault) (r : Answer) → r ≡ Ok image → r ≡ Err f → ⊥
not_both image f r a b = let same : Ok image ≡ Err f = sym a ∙ b in cc

pub one_tape : TapeImageIsOne
one_tape tape a b h k =
    let parts : h.parts ≡ k.parts = parts_are_one h.parts k.parts (sym (tape_read tape a h) ∙ tape_read tape b k) in
    let same : h.others ≡ k.others = others_are_one h.read k.read h.others k.others (sym h.last ∙ ap words parts ∙ k.last) in
    one_image h.others a b h.cells (rw same k.cells)

pub one_fault : TapeFaultIsOne
one_fault limit fs f g h k =
    let r = the_answer limit fs in
    fault_out f g r.0 (only_fault limit fs r.0 r.1 f h) (only_fault limit fs r.0 r.1 g k)

pub no_fault : TapeIsNoFault
no_fault limit fs image f h k =
    let r = the_answer limit fs in
    not_both image f r.0 (only_tape limit fs r.0 r.1 image h) (only_fault limit fs r.0 r.1 f k)

either : (limit : ℕ) (fs : List ℕ) (r : Answer) → IfOk r (IsTape (take limit fs)) → IfErr r (Refuses limit fs)
    → ((image : List (Option ℕ)) × IsTape (take limit fs) image) ⊎ ((fault : TapeFault) × Refuses limit fs fault)
either limit fs (Ok image) tape refused = inl (image, tape)
either limit fs (Err fault) tape refused = inr (fault, refused)

pub each_is_answered : EachTapeIsAnswered
each_is_answered limit fs =
    let r = the_answer limit fs in
    either limit fs r.0 (is_tape limit fs r.0 r.1) (is_refused limit fs r.0 r.1)
