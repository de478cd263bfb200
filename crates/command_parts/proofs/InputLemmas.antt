-- Texts that were read up to a limit, and what they hold.
use Rattle.std.proofs.Common.{ℕ, ◌≡◌, ◌+◌, ◌<◌, Bool, List, [], refl, length, take, sym, ◌∙◌, ap, subst, arith, inl, inr}
use Rattle.std.specs.Prelude.{◌∷◌, Option, Some, None, IfSome}
use Rattle.std.specs.Io.KnownBytes.{Consumes}
use Rattle.std.proofs.lemmas.Bool.{cases_lt}
use Rattle.std.proofs.lemmas.List.{length-take-le, take_all}
use Rattle.peripherals.specs.declared.Event.{Event}
use Rattle.peripherals.specs.EventText.{Spells, FailsAtLine as EventsFailAtLine, Fails as FailsAsEvents}
use Rattle.peripherals.specs.declared.event_text.EventsFault.{EventsFault}
use Rattle.peripherals.specs.declared.event_text.EventsFault.TheVariants as events_fault
use Rattle.declaration.specs.Declaration.{Declaration}
use Rattle.declaration.specs.Text.{Declares, HasFault, Fails as FailsAsDeclaration}
use Rattle.declaration.specs.declared.DeclarationFault.{DeclarationFault}
use Rattle.declaration.specs.declared.DeclarationFault.TheVariants as fault
use Rattle.command_parts.specs.Faults.{IsEventsFault, IsEventsInputFault, IsDeclarationFault, IsDeclarationInputFault, fault_of_events, fault_of_declaration}
use Rattle.declaration.proofs.AnswerLemmas.{declares_short, too_long}
use Rattle.streams.specs.Taking.{StandsAt}
use Rattle.streams.specs.Text.{text_lines}
use Rattle.command_parts.specs.Inputs.{HasCome, HasEvents, HasDeclaration, TakesAtMost, input}

-- bytes that were read up to one more than a limit: all there are, or more than the limit
pub all_or_more : (P : List ℕ → Type 0) (had : Option (List ℕ)) (text : List ℕ) (most : ℕ) → IfSome had (λ bytes. text ≡ take (most + 1) bytes) →
    P text → ((bytes : List ℕ) → most < length text → most < length bytes → P text → P bytes) → IfSome had P
all_or_more P None text most is holds long = tt
all_or_more P (Some bytes) text most is holds long = elim (cases_lt most (length bytes)) [
  | inl more ↦ (let taken : length (take (most + 1) bytes) ≡ most + 1 = length-take-le (most + 1) bytes (omega arith) in let same : length text ≡ length (take (most + 1) bytes) = ap length is in long bytes (omega (arith, taken, same)) more holds)
  | inr fits ↦ subst P (is ∙ take_all (most + 1) bytes (omega arith)) holds
]

pub has_events : (had : Option (List ℕ)) (text : List ℕ) (events : List Event) → IfSome had (λ bytes. text ≡ take 65537 bytes) → Spells text events → HasEvents had events
has_events had text events is spells = all_or_more (λ bytes. Spells bytes events) had text 65536 is spells (λ bytes long more s. absurd (let short = s.short in omega (arith, short, long)))

-- where these bytes came, some did
has_come : (failed : Bool) (had left : Option (List ℕ)) (text : List ℕ) → Consumes had left text → 0 < length text → HasCome (input failed had left)
has_come failed None left text taken some = tt
has_come failed (Some bytes) left text taken some = (text, taken, some)

-- an empty text has no line
no_line : (text : List ℕ) (before : List (List ℕ)) (line : List ℕ) (number : ℕ) → StandsAt (text_lines text) before line number → 0 < length text
no_line (c ∷ text) before line number s = omega arith
no_line [] [] line number s = absurd (let e = s.stands in cc)
no_line [] (b ∷ before) line number s = absurd (let e = s.stands in cc)

pub events_fault_is : (fault : EventsFault) (failed : Bool) (had left : Option (List ℕ)) (text : List ℕ) → Consumes had left text → IfSome had (λ bytes. text ≡ take 65537 bytes) → FailsAsEvents text fault →
    IsEventsInputFault (input failed had left) (fault_of_events fault)
events_fault_is events_fault.NoMemory failed had left text taken is fails = has_come failed had left text taken (no_line text fails.before fails.line fails.number fails.good.stands)
events_fault_is events_fault.TooMany failed had left text taken is fails = all_or_more (λ bytes. IsEventsFault bytes events_fault.TooMany) had text 65536 is fails (λ bytes long more f. inl more)
events_fault_is (events_fault.BadLine n) failed had left text taken is fails = all_or_more (λ bytes. EventsFailAtLine bytes (events_fault.BadLine n)) had text 65536 is fails (λ bytes long more f. absurd (let short = f.good.short in omega (arith, short, long)))

pub has_declaration : (had : Option (List ℕ)) (text : List ℕ) (d : Declaration) → IfSome had (λ bytes. text ≡ take 16385 bytes) → Declares text d → HasDeclaration had d
has_declaration had text d is declares = all_or_more (λ bytes. Declares bytes d) had text 16384 is declares (λ bytes long more s. absurd (let short = declares_short text d s in omega (arith, short, long)))

-- bytes have the fault of as many of them as were read: where these are too long, so are all
same_fault : (first : DeclarationFault) (had : Option (List ℕ)) (text : List ℕ) → IfSome had (λ bytes. text ≡ take 16385 bytes) → HasFault text first → IfSome had (λ bytes. HasFault bytes first)
same_fault first had text is fails =
    all_or_more (λ bytes. HasFault bytes first) had text 16384 is fails (λ bytes long more f. record { is = too_long bytes more ∙ (sym (too_long text long) ∙ f.is) })

pub declaration_fault_is : (fault : DeclarationFault) (failed : Bool) (had left : Option (List ℕ)) (text : List ℕ) → Consumes had left text → IfSome had (λ bytes. text ≡ take 16385 bytes) → FailsAsDeclaration text fault →
    IsDeclarationInputFault (input failed had left) (fault_of_declaration fault)
declaration_fault_is fault.NoMemory failed had left text taken is fails = has_come failed had left text taken (no_line text fails.before fails.line fails.number fails.stands)
declaration_fault_is first failed had left text taken is fails = same_fault first had text is fails

-- of a source that isn't read nothing is taken
pub takes_no_text : (most : ℕ) (had : Option (List ℕ)) → TakesAtMost most had had
takes_no_text most None = tt
takes_no_text most (Some bytes) = ([], refl, omega arith)
