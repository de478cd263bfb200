-- What it means that a command reads its inputs in order: for its faults, for the reads that it makes, and for how much
-- it reads.
use Rattle.std.specs.Prelude.{ℕ, ◌≡◌, ◌||◌, ◌⊎◌, true, Result, Err, IfErr, List, Option}
use Rattle.command_parts.specs.Answers.{IsLaterFault, IsMemoryFault, NeverFails}
use Rattle.command_parts.specs.Faults.{IsDeclarationInputFault, IsEventsInputFault, IsTapeInputFault, fails_to_read, is_fault_of_declaration, is_fault_of_tape}
use Rattle.command_parts.specs.Inputs.{Input, IsGoodDeclaration, IsGoodEvents, IsGoodTape, TakesAtMost, TakesTape}
use Rattle.command_parts.specs.declared.status.Fault.{Fault}
use Rattle.command_parts.specs.declared.status.Fault.TheVariants.{NoMemory}
use Rattle.search_commands.specs.SearchFaults.{IsSearchFault}
use Rattle.diagnostics.specs.CertificateFaults.{IsCertificateInputFault}
use Rattle.diagnostics.specs.CertificateInputs.{IsGoodCertificate, TakesCertificate}

-- The work that a command does once its inputs are good.
pub data Work : Type 0 where
  -- the command judges or watches
  Tells : Work
  -- the command searches for a certificate
  Searches : Work
  -- the command migrates a certificate
  Migrates : Work

-- The faults that a command may have in its work: a write failed, memory was refused, or the search has the fault.
abbrev pub later_fault : Work → Fault → Type 0
later_fault Tells = IsLaterFault IsMemoryFault
later_fault Searches = IsLaterFault IsSearchFault
later_fault Migrates = IsLaterFault NeverFails

-- What the answer of a command says about its one input. The parameters say which faults the input may have, when it is
-- good, how much of it may be read, and which faults the work may have.
pub record OneInOrder {T : Type 0} (IsFault : Input → Fault → Type 0) (IsGood : Option (List ℕ) → Type 0) (Takes : Option (List ℕ) → Option (List ℕ) → Type 0)
    (IsLater : Fault → Type 0) (one : Input) (result : Result T Fault) : Type 0 where
  -- a fault is one of the input or, after a good input, one of the work
  pub faults : IfErr result (λ f. IsFault one f ⊎ (IsGood one.had × IsLater f))
  -- a read failed if and only if the answer says so
  pub reads : one.failed ≡ fails_to_read result
  -- the input is not read past its limit
  pub takes : Takes one.had one.left

-- What the answer of a command says about a tape and about a declaration that is read after it. The parameter
-- `untouched` says that the declaration is not touched.
pub record TwoInOrder {T : Type 0} (IsLater : Fault → Type 0) (tape text : Input) (untouched : Type 0) (result : Result T Fault) : Type 0 where
  -- a fault is that of the first input that has one or, if all are good, one of the work
  pub faults : IfErr result (λ f. IsTapeInputFault tape f ⊎ (IsGoodTape tape.had × (IsDeclarationInputFault text f ⊎ (IsGoodDeclaration text.had × IsLater f))))
  -- a read failed if and only if the answer says so
  pub reads : tape.failed || text.failed ≡ fails_to_read result
  -- the declaration is not read after a tape that is refused, or whose read failed,
  pub unread : IfErr result (λ f. is_fault_of_tape f ≡ true → untouched)
  pub unread_after_failure : tape.failed ≡ true → untouched
  -- it is read only after a good tape
  pub declaration_after_tape : untouched ⊎ IsGoodTape tape.had
  -- no input is read past its limit
  pub takes_tape : TakesTape tape.had tape.left
  pub takes_declaration : TakesAtMost 16385 text.had text.left

-- What the answer of a command says about a tape, a declaration and a third input, each of which is read after the one
-- before it. The parameters say which faults the third input may have, when it is good, how much of it may be read, and
-- that the declaration or the third input is not touched.
pub record ThreeInOrder {T : Type 0} (IsFault : Input → Fault → Type 0) (IsGood : Option (List ℕ) → Type 0) (Takes : Option (List ℕ) → Option (List ℕ) → Type 0)
    (IsLater : Fault → Type 0) (tape text third : Input) (text_untouched third_untouched : Type 0) (result : Result T Fault) : Type 0 where
  -- a fault is that of the first input that has one or, if all are good, one of the work
  pub faults : IfErr result (λ f. IsTapeInputFault tape f ⊎ (IsGoodTape tape.had × (IsDeclarationInputFault text f ⊎ (IsGoodDeclaration text.had
      × (IsFault third f ⊎ (IsGood third.had × IsLater f))))))
  -- a read failed if and only if the answer says so
  pub reads : (tape.failed || text.failed) || third.failed ≡ fails_to_read result
  -- no input is read after one that is refused, or whose read failed,
  pub unread : IfErr result (λ f. is_fault_of_tape f ≡ true → text_untouched × third_untouched)
  pub unread_after_failure : tape.failed ≡ true → text_untouched × third_untouched
  pub unread_third : IfErr result (λ f. is_fault_of_declaration f ≡ true → third_untouched)
  pub unread_third_after_failure : text.failed ≡ true → third_untouched
  -- an input is read only after good ones
  pub declaration_after_tape : text_untouched ⊎ IsGoodTape tape.had
  pub third_after_declaration : third_untouched ⊎ IsGoodDeclaration text.had
  -- if memory is refused, the third input was not read, or the memory was needed to read it, or it is good
  pub wanted : result ≡ Err NoMemory → third_untouched ⊎ (IsFault third NoMemory ⊎ IsGood third.had)
  -- no input is read past its limit
  pub takes_tape : TakesTape tape.had tape.left
  pub takes_declaration : TakesAtMost 16385 text.had text.left
  pub takes_third : Takes third.had third.left

-- What the answer of a command says about a tape alone.
abbrev pub TapeInOrder : {T : Type 0} → (Fault → Type 0) → Input → Result T Fault → Type 0
TapeInOrder IsLater tape result = OneInOrder IsTapeInputFault IsGoodTape TakesTape IsLater tape result

-- What the answer of a command says about a certificate alone.
abbrev pub CertificateInOrder : {T : Type 0} → (Fault → Type 0) → Input → Result T Fault → Type 0
CertificateInOrder IsLater certificate result = OneInOrder IsCertificateInputFault IsGoodCertificate TakesCertificate IsLater certificate result

-- What the answer of a command says about a tape, a declaration and a certificate.
abbrev pub CertifiedInOrder : {T : Type 0} → (Fault → Type 0) → Input → Input → Input → Type 0 → Type 0 → Result T Fault → Type 0
CertifiedInOrder IsLater tape text certificate text_untouched certificate_untouched result =
    ThreeInOrder IsCertificateInputFault IsGoodCertificate TakesCertificate IsLater tape text certificate text_untouched certificate_untouched result

-- What the answer of a command says about a tape, a declaration and a text of events.
abbrev pub RunInOrder : {T : Type 0} → (Fault → Type 0) → Input → Input → Input → Type 0 → Type 0 → Result T Fault → Type 0
RunInOrder IsLater tape text list text_untouched list_untouched result =
    ThreeInOrder IsEventsInputFault IsGoodEvents (TakesAtMost 65537) IsLater tape text list text_untouched list_untouched result
