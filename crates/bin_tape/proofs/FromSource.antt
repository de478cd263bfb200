-- What the answer of a source says in the words of the grammar.
use Rattle.std.proofs.Common.{◌≡◌, ◌∙◌, sym, ap, refl, arith, ℕ, ◌≤◌, List, length, take, Bool, false, true≢false, ◌⊎◌, inl, inr}
use Rattle.std.specs.Prelude.{Option, Some, None, Result, Ok, Err, IfOk, IfErr, IfSome, nat_lt}
use Rattle.bin_tape.specs.declared.fault.TapeFault.{TapeFault}
use Rattle.bin_tape.specs.declared.fault.TapeFault.TheVariants.{TooLong, NoWord, NoOrigin, BadFrame, WrongField, Truncated, NoChecksum, Checksum, ReadFault}
use Rattle.bin_tape.specs.Tape.{IsTape}
use Rattle.bin_tape.specs.Written.{IsWrittenTape}
use Rattle.bin_tape.proofs.Lengths.{written_within}
use Rattle.bin_tape.specs.Refuses.{Refuses, IsUnfinished}
use Rattle.bin_tape.specs.Reading.{Progress, Between, Second, Skipping, Ended, Faulty, reads, Answers}
use Rattle.bin_tape.specs.Holds.{IsOpen}
use Rattle.bin_tape.specs.Served.{StaysOpen, ServesAll, Serves}
use Rattle.streams.specs.Bytes.{Gave}
use Rattle.bin_tape.specs.Serving.{IsUnanswered, IsPrompt, failed_to_read}
use Rattle.bin_tape.proofs.Means.{Means, reads_means}
use Rattle.bin_tape.proofs.Decides.{is_tape, only_tape, only_fault, is_refused}

abbrev Answer : Type 0
Answer = Result (List (Option ℕ)) TapeFault

open_unfinished : (fs : List ℕ) (p : Progress) → Means fs p → IsOpen p → IsUnfinished fs
open_unfinished fs (Between parts) m o = inl (parts, m)
open_unfinished fs (Second parts first) m o = inr (inl (parts, first, m))
open_unfinished fs (Skipping parts skipped) m o = inr (inr (parts, skipped, m))
open_unfinished fs (Ended parts) m o = absurd o
open_unfinished fs (Faulty fault) m o = absurd o

-- where a frame may follow, no trailer has come and one may
unfinished : (fs : List ℕ) → IsOpen (reads fs) → IsUnfinished fs
unfinished fs o = open_unfinished fs (reads fs) (reads_means fs) o

-- where no read failed the frames answer
unfailed : (bytes : List ℕ) (r : Answer) (fs : List ℕ) → failed_to_read r ≡ false
    → ((r ≡ Err ReadFault) × StaysOpen fs) ⊎ Answers (nat_lt 65536 (length bytes)) (reads (take 65536 bytes)) r → Answers (nat_lt 65536 (length bytes)) (reads (take 65536 bytes)) r
unfailed bytes r fs e (inl (is, o)) = absurd (true≢false (sym (ap failed_to_read is) ∙ e))
unfailed bytes r fs e (inr a) = a

refused_kind : (limit : ℕ) (fs : List ℕ) (fault : TapeFault) → Refuses limit fs fault → fault ≡ ReadFault → ⊥
refused_kind limit fs ReadFault h e = h
refused_kind limit fs TooLong h e = cc
refused_kind limit fs NoWord h e = cc
refused_kind limit fs NoOrigin h e = cc
refused_kind limit fs (BadFrame at) h e = cc
refused_kind limit fs (WrongField at) h e = cc
refused_kind limit fs Truncated h e = cc
refused_kind limit fs NoChecksum h e = cc
refused_kind limit fs (Checksum read counted) h e = cc

refused_here : (limit : ℕ) (fs : List ℕ) (r : Answer) (fault : TapeFault) → IfErr r (Refuses limit fs) → r ≡ Err fault → Refuses limit fs fault
refused_here limit fs (Ok image) fault h e = absurd (cc)
refused_here limit fs (Err f) fault h e = let same : fault ≡ f = cc in rw same h

module _ (old new : Option (List ℕ)) where
  pub serves_tape : (r : Answer) → Serves old new r → IfOk r (λ image. IfSome old (λ bytes. IsTape (take 65536 bytes) image))
  serves_tape (Err f) s = tt
  serves_tape (Ok image) s = go old s
    where
      go : (old : Option (List ℕ)) → Serves old new (Ok image) → IfSome old (λ bytes. IsTape (take 65536 bytes) image)
      go None s = tt
      go (Some bytes) s = is_tape 65536 bytes (Ok image) (unfailed bytes (Ok image) s.given refl s.answer)

  pub serves_only : (r : Answer) (mark : Bool) → mark ≡ failed_to_read r → Serves old new r → IfSome old (λ bytes. (image : List (Option ℕ)) → IsTape (take 65536 bytes) image → mark ≡ false → r ≡ Ok image)
  serves_only r mark m s = go old s
    where
      go : (old : Option (List ℕ)) → Serves old new r → IfSome old (λ bytes. (image : List (Option ℕ)) → IsTape (take 65536 bytes) image → mark ≡ false → r ≡ Ok image)
      go None s = tt
      go (Some bytes) s = λ image h e. only_tape 65536 bytes r (unfailed bytes r s.given (sym m ∙ e) s.answer) image h

  pub serves_written : (r : Answer) (mark : Bool) → mark ≡ failed_to_read r → Serves old new r → IfSome old (λ bytes. (image : List (Option ℕ)) → IsWrittenTape bytes image → mark ≡ false → r ≡ Ok image)
  serves_written r mark m s = go old s
    where
      go : (old : Option (List ℕ)) → Serves old new r → IfSome old (λ bytes. (image : List (Option ℕ)) → IsWrittenTape bytes image → mark ≡ false → r ≡ Ok image)
      go None s = tt
      go (Some bytes) s = λ image h e. only_tape 65536 bytes r (unfailed bytes r s.given (sym m ∙ e) s.answer) image (written_within 65536 bytes image (omega arith) h)

  pub serves_refused : (r : Answer) → Serves old new r → failed_to_read r ≡ false → IfErr r (λ fault. IfSome old (λ bytes. Refuses 65536 bytes fault))
  serves_refused (Ok image) s e = tt
  serves_refused (Err f) s e = go old s
    where
      go : (old : Option (List ℕ)) → Serves old new (Err f) → IfSome old (λ bytes. Refuses 65536 bytes f)
      go None s = tt
      go (Some bytes) s = is_refused 65536 bytes (Err f) (unfailed bytes (Err f) s.given e s.answer)

  pub serves_exact : (r : Answer) (mark : Bool) → mark ≡ failed_to_read r → Serves old new r → IfSome old (λ bytes. (fault : TapeFault) → Refuses 65536 bytes fault → mark ≡ false → r ≡ Err fault)
  serves_exact r mark m s = go old s
    where
      go : (old : Option (List ℕ)) → Serves old new r → IfSome old (λ bytes. (fault : TapeFault) → Refuses 65536 bytes fault → mark ≡ false → r ≡ Err fault)
      go None s = tt
      go (Some bytes) s = λ fault h e. only_fault 65536 bytes r (unfailed bytes r s.given (sym m ∙ e) s.answer) fault h

  pub serves_unanswered : (r : Answer) → Serves old new r → r ≡ Err ReadFault → Gave old new IsUnanswered
  serves_unanswered r s e = go old s
    where
      here : (bytes : List ℕ) (s : ServesAll bytes new r) → ((r ≡ Err ReadFault) × StaysOpen s.given) ⊎ Answers (nat_lt 65536 (length bytes)) (reads (take 65536 bytes)) r → IsUnanswered s.given
      here bytes s (inl (is, o)) = record { few = o.few; unfinished = unfinished s.given o.unanswered }
      here bytes s (inr a) = absurd (refused_kind 65536 bytes ReadFault (refused_here 65536 bytes r ReadFault (is_refused 65536 bytes r a) e) refl)

      go : (old : Option (List ℕ)) → Serves old new r → Gave old new IsUnanswered
      go None s = tt
      go (Some bytes) s = (s.given, s.taken, here bytes s s.answer)

  pub serves_limit : (r : Answer) → Serves old new r → Gave old new (λ given. length given ≤ 65537)
  serves_limit r s = go old s
    where
      go : (old : Option (List ℕ)) → Serves old new r → Gave old new (λ given. length given ≤ 65537)
      go None s = tt
      go (Some bytes) s = (s.given, s.taken, s.count)

  pub serves_prompt : (r : Answer) → Serves old new r → Gave old new (IsPrompt 511)
  serves_prompt r s = go old s
    where
      go : (old : Option (List ℕ)) → Serves old new r → Gave old new (IsPrompt 511)
      go None s = tt
      go (Some bytes) s = (s.given, s.taken, λ n le. unfinished (take n s.given) (s.prompt n le))
