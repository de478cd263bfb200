-- What a fetched instruction says of the word at the program counter.
use Rattle.std.proofs.Common.{ℕ, ◌≡◌, refl, Bool}
use Rattle.instruct.specs.declared.Operation.{Operation}
use Rattle.instruct.specs.declared.Operation.TheVariants as operation
use Rattle.instruct.specs.declared.Instruction.TheVariants.{Operate1, Operate2, Operate3, Iot, Unsupported}
use Rattle.instruct.specs.declared.Profile.{Profile}
use Rattle.instruct.specs.Instructions.{Meaning, And, Tad, Isz, Dca, Jms, Jmp, Group1, Group2, Group3, Device, Undefined, meaning_of, kind_of, reference}
use Rattle.processor.specs.Cells.{Cells}
use Rattle.processor.specs.Machine.{State, instruction}
use Rattle.processor.specs.Fetch.{refers, refers_by, decoded, fetched, IsPlaced}
use Rattle.processor.specs.declared.fetch.DecodedInstruction.{DecodedInstruction}
use Rattle.processor.specs.declared.fetch.DecodedInstruction.TheVariants as fetch

-- what it says: the meaning of a reference and its effective address, else the word and its kind
abbrev pub Tells : DecodedInstruction → Meaning → ℕ → Cells → Type 0
Tells (fetch.Refers r) m word memory = (m ≡ refers_by r.operation r) × IsPlaced memory r
Tells (fetch.Operate1 w) m word memory = (w ≡ word) × (kind_of m ≡ Operate1)
Tells (fetch.Operate2 w) m word memory = (w ≡ word) × (kind_of m ≡ Operate2)
Tells (fetch.Operate3 w) m word memory = (w ≡ word) × (kind_of m ≡ Operate3)
Tells (fetch.Device w) m word memory = (w ≡ word) × (kind_of m ≡ Iot)
Tells (fetch.Unsupported w) m word memory = (w ≡ word) × (m ≡ Undefined)

tells : (m : Meaning) (word : ℕ) (memory : Cells) → Tells (decoded m word memory) m word memory
tells (And i c) word memory = (refl, refl)
tells (Tad i c) word memory = (refl, refl)
tells (Isz i c) word memory = (refl, refl)
tells (Dca i c) word memory = (refl, refl)
tells (Jms i c) word memory = (refl, refl)
tells (Jmp i c) word memory = (refl, refl)
tells (Group1 w) word memory = (refl, refl)
tells (Group2 w) word memory = (refl, refl)
tells (Group3 o) word memory = (refl, refl)
tells (Device a) word memory = (refl, refl)
tells Undefined word memory = (refl, refl)

pub fetch_tells : (p : Profile) (s : State) (i : DecodedInstruction) → i ≡ fetched p s → Tells i (instruction p s) (s.memory s.pc) s.memory
fetch_tells p s i is = rw is (tells (instruction p s) (s.memory s.pc) s.memory)

-- a word of group 2 or a device word, and the kind of its meaning where it stands
pub fetched_group2 : (p : Profile) (s : State) (w : ℕ) → fetch.Operate2 w ≡ fetched p s → (w ≡ s.memory s.pc) × (kind_of (meaning_of p s.pc w) ≡ Operate2)
fetched_group2 p s w is =
    let told = fetch_tells p s (fetch.Operate2 w) is in
    (told.0, rw told.0 told.1)

pub fetched_device : (p : Profile) (s : State) (w : ℕ) → fetch.Device w ≡ fetched p s → (w ≡ s.memory s.pc) × (kind_of (meaning_of p s.pc w) ≡ Iot)
fetched_device p s w is =
    let told = fetch_tells p s (fetch.Device w) is in
    (told.0, rw told.0 told.1)

-- a word that refers to memory
by_operation : (o : Operation) (i : Bool) (c word : ℕ) (memory : Cells) → decoded (reference o i c) word memory ≡ refers o i c memory
by_operation operation.And i c word memory = refl
by_operation operation.Tad i c word memory = refl
by_operation operation.Isz i c word memory = refl
by_operation operation.Dca i c word memory = refl
by_operation operation.Jms i c word memory = refl
by_operation operation.Jmp i c word memory = refl

pub reference_fetched : (m : Meaning) (o : Operation) (i : Bool) (c word : ℕ) (memory : Cells) → m ≡ reference o i c → decoded m word memory ≡ refers o i c memory
reference_fetched m o i c word memory is = rw is (by_operation o i c word memory)
