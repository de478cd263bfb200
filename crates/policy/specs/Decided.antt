-- Each rule as a test, on the instruction that was fetched, the running routine and the cells. Private contracts alone
-- cite this.
use Rattle.std.specs.Prelude.{◌≡◌, ℕ, ◌==◌, Bool, true, false, not, ◌&&◌, ◌||◌, nat_lt, if◌then◌else◌, Option, Some, None, List, [], ◌∷◌}
use Rattle.std.specs.List.{list_all}
use Rattle.wordset.specs.Words.{Words, minus}
use Rattle.processor.specs.Cells.{Cells}
use Rattle.processor.specs.Machine.{State, steps_pointer}
use Rattle.instruct.specs.Operates.{is_halt}
use Rattle.instruct.specs.declared.Operation.{Operation}
use Rattle.instruct.specs.declared.Operation.TheVariants.{And, Tad, Isz, Dca, Jms, Jmp}
use Rattle.processor.specs.declared.fetch.Reference.{Reference}
use Rattle.processor.specs.declared.fetch.DecodedInstruction.{DecodedInstruction}
use Rattle.processor.specs.declared.fetch.DecodedInstruction.TheVariants.{Refers, Operate2, Unsupported}
use Rattle.policy.specs.declared.rules.Rule.{Rule}
use Rattle.policy.specs.declared.rules.Rule.TheVariants as rule
use Rattle.declaration.specs.Declaration.{Routine, Declaration, Assertion, PlaceAssertion, ReturnAssertion}
use Rattle.policy.specs.Calls.{Calls, returned}
use Rattle.policy.specs.Rules.{word_of}

-- The cell is the running routine's own entry.
abbrev pub is_own : Routine → ℕ → Bool
is_own None a = false
is_own (Some e) a = e == a

abbrev pub is_isz : Operation → Bool
is_isz Isz = true
is_isz _ = false

abbrev pub is_dca : Operation → Bool
is_dca Dca = true
is_dca _ = false

-- ISZ and DCA store at the effective address.
abbrev pub stores : Operation → Bool
stores Isz = true
stores Dca = true
stores _ = false

-- AND, TAD and ISZ read there.
abbrev pub loads : Operation → Bool
loads And = true
loads Tad = true
loads Isz = true
loads _ = false

-- A JMS is the only instruction that calls a routine.
abbrev pub is_jms : Operation → Bool
is_jms Jms = true
is_jms _ = false

-- A JMP is the only instruction that can return from a routine or abandon all calls.
abbrev pub is_jmp : Operation → Bool
is_jmp Jmp = true
is_jmp _ = false

-- If the first holds, so does the second.
abbrev pub implies : Bool → Bool → Bool
implies a b = if a then b else true

-- A reference by this operation, direct or indirect, may write its routine's own entry, which is this cell.
abbrev pub may_write_own : Declaration → Operation → Bool → ℕ → Bool
may_write_own d o indirect a = is_isz o || (is_dca o && (not indirect && d.moves a))

-- Such a reference may write the cell.
abbrev pub may_write : Declaration → Operation → Bool → Routine → ℕ → Bool
may_write d o indirect running a = d.variable a || (may_write_own d o indirect a && is_own running a)

-- The pointer that is stepped and the cell that is stored in may be written.
abbrev pub writes : Declaration → Reference → Routine → Bool
writes d r running =
    implies (steps_pointer r.indirect r.named) (may_write d r.operation r.indirect running r.named) &&
    implies (stores r.operation) (may_write d r.operation r.indirect running r.place)

-- A JMS goes to an entry.
abbrev pub calls_entry : Declaration → Reference → Bool
calls_entry d r = implies (is_jms r.operation) (d.entry r.place)

-- The last call is one of e, and the word in e is a declared distance after that call.
abbrev pub finds_call : Declaration → ℕ → ℕ → Calls → Bool
finds_call d e word [] = false
finds_call d e word (k ∷ ks) =
    (k.entry == e) && (nat_lt (minus word k.after) 64 && d.offset e (minus word k.after))

-- A JMP I through an entry.
abbrev pub is_return : Declaration → Reference → Bool
is_return d r = is_jmp r.operation && (r.indirect && d.entry r.named)

-- It returns from its own routine's last call.
abbrev pub returns : Declaration → Reference → Cells → Calls → Bool
returns d r memory ks = implies (is_return d r) (finds_call d r.named (memory r.named) ks)

-- The cell is on the list of reads, if there is one.
abbrev pub is_listed : Option Words → ℕ → Bool
is_listed None a = true
is_listed (Some cells) a = cells a

-- The cell is on the list of reads, or is the running routine's own entry.
abbrev pub may_load : Declaration → Routine → ℕ → Bool
may_load d running a = is_listed d.reads a || is_own running a

-- The pointer and the operand may be read.
abbrev pub reads : Declaration → Reference → Routine → Bool
reads d r running =
    implies r.indirect (may_load d running r.named) && implies (loads r.operation) (may_load d running r.place)

-- The least rule on memory references that one violates.
abbrev pub broken_by_reference : Declaration → Reference → Routine → Cells → Calls → Option Rule
broken_by_reference d r running memory ks =
    if not (writes d r running) then Some rule.WritesDeclared
    else (if not (calls_entry d r) then Some rule.CallsEntries
    else (if not (returns d r memory ks) then Some rule.ReturnsToItsCall
    else (if not (reads d r running) then Some rule.ReadsListed
    else None)))

-- The least rule that an instruction in the running routine's body violates, where fixed code is as it
-- was.
abbrev pub broken_by : Declaration → DecodedInstruction → ℕ → Routine → Cells → Calls → Option Rule
broken_by d (Refers r) pc running memory ks = broken_by_reference d r running memory ks
broken_by d (Operate2 w) pc running memory ks =
    if is_halt w && not (d.stop pc || d.pause pc) then Some rule.HaltsDeclared else None
broken_by d (Unsupported w) pc running memory ks = Some rule.StaysInBody
broken_by d _ pc running memory ks = None

-- What is asserted is so.
abbrev pub is_so : Assertion → State → Bool
is_so a s = a.words (word_of a.subject s)

-- What is to hold at the program counter is so.
abbrev pub each_holds : List PlaceAssertion → State → Bool
each_holds holds s = list_all (λ h. implies (h.places s.pc) (is_so h.assertion s)) holds

-- What is to hold when the routine of an entry returns by an offset is so.
abbrev pub each_holds_by : List ReturnAssertion → ℕ → ℕ → State → Bool
each_holds_by returns e o s = list_all (λ r. implies ((r.entry == e) && r.offsets o) (is_so r.assertion s)) returns

-- What is to hold at a return through this entry is so.
abbrev pub holds_at_return : Declaration → ℕ → State → Calls → Bool
holds_at_return d e s [] = true
holds_at_return d e s (k ∷ ks) = implies (k.entry == e) (each_holds_by d.returns e (minus (s.memory e) k.after) s)

-- If the instruction is a return, what is declared to hold at it holds.
abbrev pub returns_hold : Declaration → DecodedInstruction → State → Calls → Bool
returns_hold d (Refers r) s ks = implies (is_return d r) (holds_at_return d r.named s ks)
returns_hold d _ s ks = true

-- All that is asserted is so.
abbrev pub assertions_hold : Declaration → DecodedInstruction → State → Calls → Bool
assertions_hold d i s ks = each_holds d.holds s && returns_hold d i s ks

-- A JMS into an entry.
abbrev pub is_call : Declaration → Reference → Bool
is_call d r = is_jms r.operation && d.entry r.place

-- A JMP to a place for which calls may be abandoned.
abbrev pub is_abandon : Declaration → Reference → Bool
is_abandon d r = is_jmp r.operation && d.abandon r.place

-- The call stack after an instruction, where the address after it is this one.
abbrev pub followed : Declaration → DecodedInstruction → ℕ → Calls → Calls
followed d (Refers r) after ks =
    if is_call d r then record { entry = r.place; after = after } ∷ ks
    else (if is_return d r then returned ks
    else (if is_abandon d r then [] else ks))
followed d _ after ks = ks

-- The instruction is a JMS into an entry.
abbrev pub IsCall : Declaration → DecodedInstruction → Type 0
IsCall d (Refers r) = is_call d r ≡ true
IsCall d _ = ⊥
