-- The trace of a run: a line for each instruction that was carried out.
use Rattle.std.specs.Prelude.{ℕ, ◌+◌, Bool, true, false, if◌then◌else◌, List, [], ◌∷◌, ◌++◌, codes}
use Rattle.word12.specs.Words.{octal_text}
use Rattle.instruct.specs.declared.Profile.{Profile}
use Rattle.instruct.specs.declared.Profile.TheVariants.{Pdp8I, Pdp8E}
use Rattle.instruct.specs.Names.{name_of}
use Rattle.processor.specs.Machine.{State}
use Rattle.peripherals.specs.declared.Event.{Event}
use Rattle.peripherals.specs.declared.Seen.{Seen}
use Rattle.peripherals.specs.declared.Seen.TheVariants.{Ran, Halted}
use Rattle.peripherals.specs.Devices.{WorldState, word_at_pc}
use Rattle.peripherals.specs.EventOutcomes.{seen_of}

-- The address, the word there and its name.
abbrev pub place_text : Profile → ℕ → ℕ → List ℕ
place_text profile at word = octal_text at ++ codes " " ++ octal_text word ++ codes " " ++ name_of profile word

-- An 8/E has an MQ register that a program sees.
abbrev pub mq_text : Profile → ℕ → List ℕ
mq_text Pdp8I mq = []
mq_text Pdp8E mq = codes " MQ=" ++ octal_text mq

-- A link as the digit 0 or 1.
abbrev pub link_text : ℕ → List ℕ
link_text link = (48 + link) ∷ []

-- The accumulator, the link and the MQ register.
abbrev pub effect_text : Profile → State → List ℕ
effect_text profile s = codes " AC=" ++ octal_text s.ac ++ (codes " L=" ++ link_text s.link) ++ mq_text profile s.mq

-- The line of an instruction: where it stood and what it was, and the registers after it.
abbrev pub trace_line : Profile → ℕ → ℕ → State → List ℕ
trace_line profile at word s = place_text profile at word ++ effect_text profile s ++ codes "\n"

-- An instruction was carried out.
abbrev pub is_traced : Seen → Bool
is_traced Ran = true
is_traced Halted = true
is_traced _ = false

-- The line for what was seen: none if no instruction was carried out.
abbrev pub line_of : Profile → Seen → ℕ → ℕ → State → List ℕ
line_of profile what at word s = if is_traced what then trace_line profile at word s else []

-- What an event that leads from w to x adds to the trace.
abbrev pub trace_of : Profile → WorldState → Event → WorldState → List ℕ
trace_of profile w e x = line_of profile (seen_of profile w e) w.state.pc (word_at_pc w) x.state

-- These lines, where a trace is requested.
abbrev pub traced : Bool → List ℕ → List ℕ
traced trace lines = if trace then lines else []
