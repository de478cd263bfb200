-- The tags of a statement and what stands after them, by how many tags there are.
use Rattle.std.proofs.Common.{◌≡◌, ◌∙◌, sym, ap, refl, ℕ, ◌-◌, ◌≤◌, List, [], ◌∷◌, ◌++◌, append_assoc, Bool, true, false, if◌then◌else◌, arith, length, take, drop, get_or, Result, Ok, Err}
use Rattle.std.specs.Prelude.{nat_eq, map}
use Rattle.std.specs.List.{AllByRecursion}
use Rattle.std.proofs.lemmas.Bool.{ne_eqb}
use Rattle.std.proofs.lemmas.List.{take_all}
use Rattle.pal_text.specs.declared.tokens.TokenKind.{TokenKind}
use Rattle.pal_text.specs.declared.tokens.TokenKind.TheVariants as kind
use Rattle.pal_text.specs.declared.tokens.Token.{Token}
use Rattle.pal_text.specs.declared.statement.Statement.{Statement}
use Rattle.pal_text.specs.Grammar.{is_direction, Said, IsStatement, nothing, origin, assign, assign_direction, decimal, octal, pause, word, tagged}
use Rattle.pal_text.proofs.Rises.{all_take, all_drop}
use Rattle.pal_acts.specs.declared.act.SignedTerm.{SignedTerm}
use Rattle.pal_acts.specs.declared.act.Act.{Act}
use Rattle.pal_acts.specs.declared.act.Act.TheVariants as act
use Rattle.pal_acts.specs.declared.act.SourcePlace.{SourcePlace}
use Rattle.pal_acts.specs.declared.fault_code.FaultCode.{FaultCode}
use Rattle.pal_acts.specs.Acts.{PlacedAct, placed}
use Rattle.pal_asm.specs.Expressions.{expression}
use Rattle.pal_asm.specs.Acts.{tag_by, tag_act, said_acts, acts_with, statement_acts}
use Rattle.pal_asm.specs.SourceInCode.{Says, names_in, after_tags, operand_by, assign_by, body_by}

record Apart (ts names : List Token) (said : Said) : Type 0 where
  names_are : names_in (length names) ts ≡ names
  operand_is : operand_by said.form (after_tags (length names) ts) ≡ said.operand
  body_is : (p : SourcePlace) (last : Bool) (source : List ℕ) (js : List SignedTerm) → body_by p last source (after_tags (length names) ts) said.form js ≡ said_acts p last source said.name js said.form

no_names : (ts : List Token) → names_in 0 ts ≡ []
no_names [] = refl
no_names (t ∷ []) = refl
no_names (t ∷ u ∷ ts) = refl

no_tags : (ts : List Token) → after_tags 0 ts ≡ ts
no_tags [] = refl
no_tags (t ∷ []) = refl
no_tags (t ∷ u ∷ ts) = refl

direction_by : (k : TokenKind) (p : SourcePlace) (source : List ℕ) (t : Token) (js : List SignedTerm) → is_direction k ≡ true → assign_by p source t js k ≡ placed p js act.AssignDirection ∷ []
direction_by kind.Symbol p source t js h = cc
direction_by _ p source t js h = refl

-- a statement without a tag
bare : (ts : List Token) (said : Said) → operand_by said.form ts ≡ said.operand → ((p : SourcePlace) (last : Bool) (source : List ℕ) (js : List SignedTerm) → body_by p last source ts said.form js ≡ said_acts p last source said.name js said.form) → Apart ts [] said
bare ts said h k = record {
  names_are = no_names ts;
  operand_is = ap (operand_by said.form) (no_tags ts) ∙ h;
  body_is = λ p last source js. ap (λ l. body_by p last source l said.form js) (no_tags ts) ∙ k p last source js;
}

more_is : (t : Token) (tags : List Token) → nat_eq (length (t ∷ tags)) 0 ≡ false
more_is t tags = ne_eqb (length (t ∷ tags)) 0 (λ e. omega (arith, e))

less_is : (t : Token) (tags : List Token) → length (t ∷ tags) - 1 ≡ length tags
less_is t tags = omega arith

apart : (ts names : List Token) (said : Said) → IsStatement ts names said → Apart ts names said
apart ts names said nothing = bare ts said refl (λ p last source js. refl)
apart ts names said (origin t e is h) = bare (t ∷ e) said refl (λ p last source js. refl)
apart ts names said (assign t u e is equals h) = bare (t ∷ u ∷ e) said refl (λ p last source js. ap (assign_by p source t js) is)
apart ts names said (assign_direction t u e is equals h) = bare (t ∷ u ∷ e) said refl (λ p last source js. direction_by t.kind p source t js is)
apart ts names said (decimal t is) = bare (t ∷ []) said refl (λ p last source js. refl)
apart ts names said (octal t is) = bare (t ∷ []) said refl (λ p last source js. refl)
apart ts names said (pause t is) = bare (t ∷ []) said refl (λ p last source js. refl)
apart ts names said (word e h) = bare e said refl (λ p last source js. refl)
apart ts names said (tagged t u own tags q name comma s) =
    let k : Apart own tags q = apart own tags q s in
    let off : after_tags (length (t ∷ tags)) (t ∷ u ∷ own) ≡ after_tags (length tags) own =
    ap (λ b. if b then t ∷ u ∷ own else after_tags (length (t ∷ tags) - 1) own) (more_is t tags) ∙ ap (λ n. after_tags n own) (less_is t tags) in
    record {
      names_are = ap (λ b. if b then [] else t ∷ names_in (length (t ∷ tags) - 1) own) (more_is t tags) ∙ ap (λ n. t ∷ names_in n own) (less_is t tags) ∙ ap (λ l. t ∷ l) k.names_are;
      operand_is = ap (operand_by q.form) off ∙ k.operand_is;
      body_is = λ p last source js. ap (λ l. body_by p last source l q.form js) off ∙ k.body_is p last source js;
    }

module _ (ts : List Token) (s : Statement) (says : Says ts s) where
  parts : Apart ts says.names says.said
  parts = apart ts says.names says.said says.reads

  expression_is : (b : ℕ) (source : List ℕ) (r : Result (List SignedTerm) FaultCode) (body tokens : List Token) → body ≡ after_tags s.tags ts → tokens ≡ operand_by s.form body → r ≡ expression b source tokens → expression b source (says.said.operand) ≡ r
  expression_is b source r body tokens after is reads =
      sym (reads ∙ ap (expression b source) (is ∙ (λ i. operand_by (says.form i) (after i)) ∙ ap (λ n. operand_by says.said.form (after_tags n ts)) says.tags ∙ parts.operand_is))

  -- its numbers are good
  pub kept_all : (b : ℕ) (last : Bool) (source : List ℕ) (p : SourcePlace) (js : List SignedTerm) (body tokens : List Token) (old mid new : List PlacedAct) → body ≡ after_tags s.tags ts → tokens ≡ operand_by s.form body
      → Ok js ≡ expression b source tokens → mid ≡ old ++ map (tag_act p source) (names_in s.tags ts) → new ≡ mid ++ body_by p last source body s.form js
      → new ≡ old ++ statement_acts p b last source says.names says.said
  kept_all b last source p js body tokens old mid new after is reads tags rest =
      let names : names_in s.tags ts ≡ says.names = ap (λ n. names_in n ts) says.tags ∙ parts.names_are in
      let acts : body_by p last source body s.form js ≡ said_acts p last source says.said.name js says.said.form =
      (λ i. body_by p last source (after i) (says.form i) js) ∙ ap (λ n. body_by p last source (after_tags n ts) says.said.form js) says.tags ∙ parts.body_is p last source js in
      rest ∙ (λ i. tags i ++ acts i) ∙ append_assoc old (map (tag_act p source) (names_in s.tags ts)) (said_acts p last source says.said.name js says.said.form)
      ∙ ap (λ l. old ++ (map (tag_act p source) l ++ said_acts p last source says.said.name js says.said.form)) names
      ∙ ap (λ r. old ++ acts_with p last source says.names says.said r) (sym (expression_is b source (Ok js) body tokens after is reads))

  -- one is bad
  pub kept_none : (b : ℕ) (last : Bool) (source : List ℕ) (p : SourcePlace) (c : FaultCode) (body tokens : List Token) (old new : List PlacedAct) → body ≡ after_tags s.tags ts → tokens ≡ operand_by s.form body
      → Err c ≡ expression b source tokens → new ≡ old ++ placed p [] (act.Wrong c) ∷ [] → new ≡ old ++ statement_acts p b last source says.names says.said
  kept_none b last source p c body tokens old new after is reads kept =
      kept ∙ ap (λ r. old ++ acts_with p last source says.names says.said r) (sym (expression_is b source (Err c) body tokens after is reads))

-- a tag taken off the front
pub tag_off : (xs : List Token) (n : ℕ) → 2 ≤ length xs → (n ≡ 0 → ⊥) → after_tags n xs ≡ after_tags (n - 1) (take (length xs - 2) (drop 2 xs))
tag_off [] n h some = absurd (omega arith)
tag_off (x ∷ []) n h some = absurd (omega arith)
tag_off (x ∷ y ∷ xs) n h some =
    let all : take (length (x ∷ y ∷ xs) - 2) xs ≡ xs = take_all (length (x ∷ y ∷ xs) - 2) xs (omega arith) in
    ap (λ b. if b then x ∷ y ∷ xs else after_tags (n - 1) xs) (ne_eqb n 0 some) ∙ ap (after_tags (n - 1)) (sym all)

name_off : (xs : List Token) (n : ℕ) (d : Token) → 2 ≤ length xs → (n ≡ 0 → ⊥) → names_in n xs ≡ get_or xs 0 d ∷ names_in (n - 1) (take (length xs - 2) (drop 2 xs))
name_off [] n d h some = absurd (omega arith)
name_off (x ∷ []) n d h some = absurd (omega arith)
name_off (x ∷ y ∷ xs) n d h some =
    let all : take (length (x ∷ y ∷ xs) - 2) xs ≡ xs = take_all (length (x ∷ y ∷ xs) - 2) xs (omega arith) in
    ap (λ b. if b then [] else x ∷ names_in (n - 1) xs) (ne_eqb n 0 some) ∙ ap (λ l. x ∷ names_in (n - 1) l) (sym all)

pub tag_kept : (p : SourcePlace) (source : List ℕ) (xs : List Token) (n : ℕ) (d : Token) (a : Act) (acts new : List PlacedAct) → 2 ≤ length xs → (n ≡ 0 → ⊥) → a ≡ tag_by source (get_or xs 0 d) (get_or xs 0 d).kind
    → new ≡ acts ++ placed p [] a ∷ [] → new ++ map (tag_act p source) (names_in (n - 1) (take (length xs - 2) (drop 2 xs))) ≡ acts ++ map (tag_act p source) (names_in n xs)
tag_kept p source xs n d a acts new h some does kept =
    let later : List PlacedAct = map (tag_act p source) (names_in (n - 1) (take (length xs - 2) (drop 2 xs))) in
    ap (λ l. l ++ later) kept ∙ append_assoc acts (placed p [] a ∷ []) later
    ∙ ap (λ x. acts ++ (placed p [] x ∷ later)) does
    ∙ ap (λ l. acts ++ map (tag_act p source) l) (sym (name_off xs n d h some))

pub rest_within : (P : Token → Type 0) (xs : List Token) → AllByRecursion P xs → AllByRecursion P (take (length xs - 2) (drop 2 xs))
rest_within P xs all = all_take P (length xs - 2) (drop 2 xs) (all_drop P 2 xs all)
