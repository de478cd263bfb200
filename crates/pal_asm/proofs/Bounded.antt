-- What a source means holds words.
use Rattle.std.proofs.Common.{refl, ℕ, ◌+◌, ◌<◌, List, [], ◌∷◌, Bool, Option, Result, Ok, Err}
use Rattle.std.specs.Prelude.{map, nat_lt}
use Rattle.std.specs.List.{AllByRecursion, list_all}
use Rattle.std.specs.Result.{result_map_both}
use Rattle.std.proofs.lemmas.Bool.{cond_both, ltb-true}
use Rattle.instruct.specs.declared.Profile.{Profile}
use Rattle.instruct.specs.declared.Profile.TheVariants.{Pdp8I, Pdp8E}
use Rattle.pal_text.specs.declared.tokens.TokenKind.{TokenKind}
use Rattle.pal_text.specs.declared.tokens.TokenKind.TheVariants as kind
use Rattle.pal_text.specs.declared.tokens.Token.{Token}
use Rattle.pal_text.specs.declared.grammar.Form.{Form}
use Rattle.pal_text.specs.declared.grammar.Form.TheVariants as form
use Rattle.pal_text.specs.declared.statement.PartEnd.{PartEnd}
use Rattle.pal_text.specs.Characters.{characters}
use Rattle.pal_text.specs.Grammar.{is_joiner, Said}
use Rattle.pal_text.specs.Names.{bytes_of}
use Rattle.pal_text.specs.Statements.{Piece}
use Rattle.pal_text.proofs.Rises.{all_append}
use Rattle.pal_acts.specs.declared.act.Sign.{Sign}
use Rattle.pal_acts.specs.declared.act.Sign.TheVariants.{Or}
use Rattle.pal_acts.specs.declared.act.ExpressionTerm.{ExpressionTerm}
use Rattle.pal_acts.specs.declared.act.ExpressionTerm.TheVariants.{Number}
use Rattle.pal_acts.specs.declared.act.SignedTerm.{SignedTerm}
use Rattle.pal_acts.specs.declared.act.Act.TheVariants as act
use Rattle.pal_acts.specs.declared.act.SourcePlace.{SourcePlace}
use Rattle.pal_acts.specs.declared.fault_code.FaultCode.{FaultCode}
use Rattle.pal_acts.specs.Acts.{PlacedAct, placed, place}
use Rattle.pal_acts.specs.Permanent.{permanent_symbols, common_symbols, further_symbols}
use Rattle.pal_acts.proofs.Bounds.{IsWordTerm, Numbers, HasNumbers, Entries, entries_of, holds_words}
use Rattle.pal_asm.specs.declared.number.Radix.{Radix}
use Rattle.pal_asm.specs.declared.number.Radix.TheVariants.{Octal}
use Rattle.pal_asm.specs.Numbers.{base, radix_after, worth, is_digit_of, number}
use Rattle.pal_asm.specs.Expressions.{sign_of, term_by, term, in_front, joins, expression}
use Rattle.pal_asm.specs.Acts.{tag_act, said_acts, acts_with, statement_acts, Does, ends, goes_on}
use Rattle.pal_asm.specs.Sources.{TextLine, Reads, no_part, broken, last_part, next_part}
use Rattle.pal_asm.specs.Laws.{MeantAreWords}

-- a number that is read is a word
abbrev Read : Result ℕ FaultCode → Type 0
Read (Ok w) = w < 4096
Read (Err c) = Unit {0}

abbrev ReadTerm : Result ExpressionTerm FaultCode → Type 0
ReadTerm (Ok t) = IsWordTerm t
ReadTerm (Err c) = Unit {0}

abbrev ReadAll : Result (List SignedTerm) FaultCode → Type 0
ReadAll (Ok js) = Numbers js
ReadAll (Err c) = Unit {0}

number_read : (b : ℕ) (cs : List ℕ) → Read (number b cs)
number_read b cs = cond_both (list_all (is_digit_of b) cs) _ _ Read (λ is. cond_both (nat_lt (worth b cs) 4096) _ _ Read (λ lt. ltb-true (worth b cs) 4096 lt) (λ not. tt)) (λ not. tt)

number_term_read : (r : Result ℕ FaultCode) → Read r → ReadTerm (result_map_both Number (λ c. c) r)
number_term_read (Ok w) h = h
number_term_read (Err c) h = tt

term_read : (b : ℕ) (source : List ℕ) (t : Token) (k : TokenKind) → ReadTerm (term_by b source t k)
term_read b source t kind.Number = number_term_read (number b (characters (bytes_of source t))) (number_read b (characters (bytes_of source t)))
term_read b source t _ = tt

front_read : (s : Sign) (r : Result ExpressionTerm FaultCode) (others : Result (List SignedTerm) FaultCode) → ReadTerm r → ReadAll others → ReadAll (in_front s r others)
front_read s (Err c) others h k = tt
front_read s (Ok t) (Err c) h k = tt
front_read s (Ok t) (Ok js) h k = (h, k)

joins_read : (b : ℕ) (source : List ℕ) (s : Sign) (ts : List Token) → ReadAll (joins b source s ts)
joins_read b source s [] = tt
joins_read b source s (t ∷ ts) =
    cond_both (is_joiner t.kind) _ _ ReadAll (λ is. joins_read b source (sign_of t.kind) ts)
    (λ not. front_read s (term b source t) (joins b source Or ts) (term_read b source t t.kind) (joins_read b source Or ts))

-- ---- acts

abbrev Each : List PlacedAct → Type 0
Each acts = AllByRecursion HasNumbers acts

tags_hold : (p : SourcePlace) (source : List ℕ) (ts : List Token) → Each (map (tag_act p source) ts)
tags_hold p source [] = tt
tags_hold p source (t ∷ ts) = (tt, tags_hold p source ts)

said_hold : (p : SourcePlace) (last : Bool) (source : List ℕ) (name : Option Token) (js : List SignedTerm) (f : Form) → Numbers js → Each (said_acts p last source name js f)
said_hold p last source name js form.Origin h = (h, tt)
said_hold p last source name js form.Assign h = (h, tt)
said_hold p last source name js form.Word h = (h, tt)
said_hold p last source name js form.Pause h = cond_both last (placed p [] act.LastPause ∷ []) [] Each (λ is. (tt, tt)) (λ is. tt)
said_hold p last source name js _ h = tt

with_hold : (p : SourcePlace) (last : Bool) (source : List ℕ) (tags : List Token) (said : Said) (r : Result (List SignedTerm) FaultCode) → ReadAll r → Each (acts_with p last source tags said r)
with_hold p last source tags said (Err c) h = (tt, tt)
with_hold p last source tags said (Ok js) h = all_append HasNumbers (map (tag_act p source) tags) (said_acts p last source said.name js said.form) (tags_hold p source tags) (said_hold p last source said.name js said.form h)

statement_hold : (p : SourcePlace) (b : ℕ) (last : Bool) (source : List ℕ) (tags : List Token) (said : Said) → Each (statement_acts p b last source tags said)
statement_hold p b last source tags said =
    with_hold p last source tags said (expression b source said.operand) (joins_read b source Or said.operand)

does_hold : (n : ℕ) (last : Bool) (source : List ℕ) (r r' : Radix) (ps : List Piece) (acts : List PlacedAct) (c : PartEnd) → Does n last source r ps acts r' c → Each acts
does_hold n last source r r' ps acts c (ends q p qs tags said d s e) = statement_hold (place n p.mark.line) (base q) last source tags said
does_hold n last source r r' ps acts c (goes_on q q' p qs tags said later d s e h) =
    all_append HasNumbers (statement_acts (place n p.mark.line) (base q) last source tags said) later (statement_hold (place n p.mark.line) (base q) last source tags said)
    (does_hold n last source (radix_after q said.form) q' qs later d h)

reads_hold : (n : ℕ) (r : Radix) (parts : List (List ℕ)) (acts : List PlacedAct) (lines : List TextLine) → Reads n r parts acts lines → Each acts
reads_hold n r parts acts lines (no_part m q) = tt
reads_hold n r parts acts lines (broken m q p ps line is) = (tt, tt)
reads_hold n r parts acts lines (last_part m q q' p ps mine c does e) = does_hold m _ p q q' _ mine c does
reads_hold n r parts acts lines (next_part m q q' p ps mine more ls c does e h) = all_append HasNumbers mine more (does_hold m _ p q q' _ mine c does) (reads_hold (m + 1) q' ps more ls h)

-- ---- permanent symbols

permanent_words : (profile : Profile) → Entries (permanent_symbols profile)
unfolding permanent_symbols common_symbols further_symbols
permanent_words Pdp8I = entries_of (permanent_symbols Pdp8I) refl
permanent_words Pdp8E = entries_of (permanent_symbols Pdp8E) refl

pub meant_are_words : MeantAreWords
meant_are_words profile parts symbols image means =
    holds_words (permanent_symbols profile) 1024 means.acts symbols image (permanent_words profile) (reads_hold 1 Octal parts means.acts means.lines means.reads) means.so
