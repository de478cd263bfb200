-- What a fetch gives: the instruction at the program counter, with the effective address of a memory reference.
use Rattle.std.specs.Prelude.{ℕ, ◌≡◌, Bool}
use Rattle.instruct.specs.declared.Operation.{Operation}
use Rattle.instruct.specs.declared.Operation.TheVariants as operation
use Rattle.instruct.specs.declared.Profile.{Profile}
use Rattle.instruct.specs.Instructions.{Meaning, And, Tad, Isz, Dca, Jms, Jmp, Group1, Group2, Group3, Device, Undefined, reference}
use Rattle.processor.specs.Cells.{Cells}
use Rattle.processor.specs.Machine.{State, instruction, place}
use Rattle.processor.specs.declared.fetch.Reference.{Reference}
use Rattle.processor.specs.declared.fetch.DecodedInstruction.{DecodedInstruction}
use Rattle.processor.specs.declared.fetch.DecodedInstruction.TheVariants as fetch

-- A memory reference with its effective address.
abbrev pub refers : Operation → Bool → ℕ → Cells → DecodedInstruction
refers o i c memory = fetch.Refers (record { operation = o; indirect = i; named = c; place = place i c memory })

-- What is fetched where the word has this meaning: a memory reference with its effective address, or the word itself
-- as a word of its kind.
abbrev pub decoded : Meaning → ℕ → Cells → DecodedInstruction
decoded (And i c) word memory = refers operation.And i c memory
decoded (Tad i c) word memory = refers operation.Tad i c memory
decoded (Isz i c) word memory = refers operation.Isz i c memory
decoded (Dca i c) word memory = refers operation.Dca i c memory
decoded (Jms i c) word memory = refers operation.Jms i c memory
decoded (Jmp i c) word memory = refers operation.Jmp i c memory
decoded (Group1 w) word memory = fetch.Operate1 word
decoded (Group2 w) word memory = fetch.Operate2 word
decoded (Group3 o) word memory = fetch.Operate3 word
decoded (Device a) word memory = fetch.Device word
decoded Undefined word memory = fetch.Unsupported word

-- What the machine is about to do in a state: the word at the program counter as a machine of this profile decodes it, with
-- the effective address that the memory of this state gives.
abbrev pub fetched : Profile → State → DecodedInstruction
fetched profile s = decoded (instruction profile s) (s.memory s.pc) s.memory

-- The meaning of a reference by an operation.
abbrev pub refers_by : Operation → Reference → Meaning
refers_by o r = reference o r.indirect r.named

-- The effective address of a reference is the one that these cells give.
abbrev pub IsPlaced : Cells → Reference → Type 0
IsPlaced memory r = r.place ≡ place r.indirect r.named memory
