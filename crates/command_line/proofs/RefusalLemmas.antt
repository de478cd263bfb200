-- Why words are refused, from what a function finds wrong with them.
use Rattle.std.proofs.Common.{◌≡◌, ◌∙◌, ◌+◌, ◌++◌, ◌<◌, ℕ, Bool, true, false, List, Option, None, Some, inl, inr, ap, drop, get_or, length, map, refl, subst, sym, true≢false}
use Rattle.std.proofs.lemmas.List.{append_assoc, drop_more, map-append}
use Rattle.std.specs.Borrow.{Bor}
use Rattle.std.specs.List.{list_any}
use Rattle.std.specs.Prelude.{codes, is_some}
use Rattle.std.specs.Str.{bytes_eq}
use Rattle.clap.specs.declared.parser.matches.ArgMatches.{ArgMatches}
use Rattle.command_line.specs.declared.fault.CommandLineFault.{CommandLineFault}
use Rattle.command_line.specs.declared.fault.CommandLineFault.TheVariants as fault
use Rattle.command_line.specs.declared.command_name.CommandName.{CommandName}
use Rattle.command_line.specs.declared.command_name.CommandName.TheVariants as kind
use Rattle.command_line.specs.declared.fault.Misuse.{Misuse}
use Rattle.command_line.specs.declared.place_options.PlaceOptions.{PlaceOptions}
use Rattle.command_line.specs.declared.program_command.ProgramCommand.{ProgramCommand}
use Rattle.command_line.specs.declared.program_command.ProgramCommand.TheVariants.{Verify, Watch, Guess, Refute, Declare, Report, Check}
use Rattle.command_line.specs.Options.{ArePlacesGiven, named, number_or, sources_given, value, values}
use Rattle.command_line.specs.Outputs.{result_name, result_operand}
use Rattle.command_line.specs.OctalPlaces.{NamesNoOctalCells, NamesNoOctalPlace, NamesOctalCells}
use Rattle.command_line.specs.Refusals.{AreInputs, AreInputsBeside, AreOfInputs, AreStepsRefused, IsFoundRefused, IsLineRefused, IsMisused, IsNumberRefused, IsOfParser, IsPlaceMisused, IsRefused, IsRefusedBy, IsRefusedWithin, are_distinct, result_options, step_limit}
use Rattle.command_line.specs.Requests.{IsOperated, input_names}

-- What one more operand or option gives stands behind the inputs so far.
pub named_more : (found : ArgMatches) (names : List (Bor (List ℕ))) (i : ℕ) (none : Bor (List ℕ)) (inputs more : List (Bor (List ℕ)))
    → i < length names → map (λ it. it.now) more ≡ values found (get_or names i none).now
    → map (λ it. it.now) (inputs ++ more) ++ named found (map (λ it. it.now) (drop (i + 1) names)) ≡ map (λ it. it.now) inputs ++ named found (map (λ it. it.now) (drop i names))
named_more found names i none inputs more h e =
    ap (λ l. l ++ named found (map (λ (it : Bor (List ℕ)). it.now) (drop (i + 1) names)))
    (map-append (λ (it : Bor (List ℕ)). it.now) inputs more ∙ ap (λ l. map (λ (it : Bor (List ℕ)). it.now) inputs ++ l) e)
    ∙ (append_assoc (map (λ (it : Bor (List ℕ)). it.now) inputs) (values found (get_or names i none).now) (named found (map (λ (it : Bor (List ℕ)). it.now) (drop (i + 1) names)))
    ∙ ap (λ (l : List (Bor (List ℕ))). map (λ (it : Bor (List ℕ)). it.now) inputs ++ named found (map (λ (it : Bor (List ℕ)). it.now) l)) (sym (drop_more names i none h)))

-- A number that is given and that is none between two others is refused.
pub number_refused : (least most otherwise : ℕ) (text : Option (List ℕ)) → number_or least most otherwise text ≡ None → IsNumberRefused least most text
number_refused least most otherwise None e = absurd (true≢false (ap is_some e))
number_refused least most otherwise (Some text) e = e

-- Operands and options that OUT is none of may give inputs, if they are different and none is an option for a result.
pub of_inputs : (found : ArgMatches) (names : List (List ℕ)) → are_distinct (result_options ++ names) ≡ true → list_any (bytes_eq (codes "OUT")) names ≡ false → AreOfInputs found names
of_inputs found names distinct out = record { distinct = distinct; out = λ is. absurd (true≢false (sym is ∙ out)) }

-- The inputs that a function reads are what these operands and options give.
pub are_inputs : (found : ArgMatches) (names inputs : List (List ℕ)) → AreOfInputs found names → inputs ≡ named found names → AreInputs found inputs
are_inputs found names inputs are e = record { names = names; are = are; given = e }

no_out : (b c : Bool) → (b ≡ true → c ≡ true) → c ≡ false → b ≡ false
no_out true c h e = absurd (true≢false (sym (h refl) ∙ e))
no_out false c h e = refl

-- The inputs of a command whose result goes to OUT are beside that operand.
pub beside_out : (called : CommandName) (found : ArgMatches) (inputs : List (List ℕ)) → result_operand called found ≡ codes "OUT" → AreInputs found inputs
    → AreInputsBeside called found inputs
beside_out called found inputs e are = record {
  names = are.names;
  are = are.are;
  beside = λ without. subst (λ name. list_any (bytes_eq name) are.names ≡ false) (sym e) (no_out _ _ are.are.out without);
  given = are.given;
}

inputs_beside : (called : ProgramCommand) (sourced : Bool) → list_any (bytes_eq (result_name (kind.Program called) sourced)) (input_names called sourced) ≡ false
inputs_beside Verify true = refl
inputs_beside Verify false = refl
inputs_beside Watch true = refl
inputs_beside Watch false = refl
inputs_beside Guess true = refl
inputs_beside Guess false = refl
inputs_beside Refute true = refl
inputs_beside Refute false = refl
inputs_beside Declare true = refl
inputs_beside Declare false = refl
inputs_beside Report true = refl
inputs_beside Report false = refl
inputs_beside Check true = refl
inputs_beside Check false = refl

-- The inputs of a command on a program are beside the operand for its result.
pub beside_result : (called : ProgramCommand) (found : ArgMatches) (inputs : List (List ℕ)) → AreOfInputs found (input_names called (is_some (sources_given found)))
    → inputs ≡ named found (input_names called (is_some (sources_given found))) → AreInputsBeside (kind.Program called) found inputs
beside_result called found inputs are e = record {
  names = input_names called (is_some (sources_given found));
  are = are;
  beside = λ without. inputs_beside called (is_some (sources_given found));
  given = e;
}

-- What is wrong with an option for cells or for a place, read as octal digits, is wrong with what is found.
pub place_refused : (found : ArgMatches) (places : PlaceOptions) (wrong : Misuse) → sources_given found ≡ None → ArePlacesGiven found places
    → IsPlaceMisused NamesOctalCells NamesNoOctalCells NamesNoOctalPlace places wrong → IsMisused wrong found
place_refused found places wrong without are (which, e, refused) = subst (λ it. IsMisused it found) (sym e) (without, places, are, refused)

-- What an error of the parser becomes is a refusal of the line.
pub parser_refused : (words : List (List ℕ)) (refused : CommandLineFault) → IsOfParser refused → IsLineRefused words refused
parser_refused words (fault.CommandLine error) is = tt
parser_refused words fault.Memory is = tt
parser_refused words (fault.Misuse wrong) is = absurd is
parser_refused words (fault.Start wrong) is = absurd is
parser_refused words (fault.Switches wrong) is = absurd is
parser_refused words (fault.NoOperand name) is = absurd is
parser_refused words (fault.Steps most) is = absurd is

-- What is found behind a command's name and refused is a refusal of the line.
pub found_refused : (words : List (List ℕ)) (refused : CommandLineFault) → IsFoundRefused words refused → IsLineRefused words refused
found_refused words (fault.CommandLine error) is = tt
found_refused words fault.Memory is = tt
found_refused words (fault.Misuse wrong) is = is
found_refused words (fault.Start wrong) is = is
found_refused words (fault.Switches wrong) is = is
found_refused words (fault.NoOperand name) is = is
found_refused words (fault.Steps most) is = is

-- A number of steps is refused by the command of which at most so many may be requested.
pub steps_refused : (called : CommandName) (most : ℕ) (found : ArgMatches) (refused : CommandLineFault) → step_limit called ≡ Some most → AreStepsRefused most found refused → IsRefusedBy called found refused
steps_refused called most found (fault.Steps told) limit is = (limit ∙ ap Some (sym is.0), subst (λ n. IsNumberRefused 1 n (value found (codes "steps"))) (sym is.0) is.1)
steps_refused called most found (fault.CommandLine error) limit is = absurd is
steps_refused called most found fault.Memory limit is = absurd is
steps_refused called most found (fault.Misuse wrong) limit is = absurd is
steps_refused called most found (fault.Start wrong) limit is = absurd is
steps_refused called most found (fault.Switches wrong) limit is = absurd is
steps_refused called most found (fault.NoOperand name) limit is = absurd is

-- What is refused whichever command it is, if at most so many steps may be requested of it, is refused by such a command.
pub refused_within : (called : CommandName) (most : ℕ) (found : ArgMatches) (refused : CommandLineFault) → step_limit called ≡ Some most → IsRefusedWithin most found refused → IsRefused called found refused
refused_within called most found refused limit (inl any) = inl any
refused_within called most found refused limit (inr steps) = inr (steps_refused called most found refused limit steps)

-- What `watch` refuses is refused by a command with an operator.
pub operated_refused : (called : ProgramCommand) (found : ArgMatches) (refused : CommandLineFault) → IsOperated called found true → IsRefused (kind.Program Watch) found refused
    → IsRefused (kind.Program called) found refused
operated_refused Watch found refused is by = by
operated_refused Verify found refused is by = absurd (true≢false is)
operated_refused Guess found refused is by = absurd (true≢false is)
operated_refused Refute found refused is by = absurd (true≢false is)
operated_refused Declare found refused is by = absurd (true≢false is)
operated_refused Report found refused is by = absurd (true≢false is)
operated_refused Check found refused is by = absurd (true≢false is)
