-- What holds of each act that a statement can do holds of all that it does.
use Rattle.std.proofs.Common.{◌≡◌, refl, ℕ, List, [], ◌∷◌, Bool, Option, Some, None, Result, Ok, Err}
use Rattle.std.specs.Prelude.{map}
use Rattle.std.specs.List.{AllByRecursion}
use Rattle.std.proofs.lemmas.Bool.{cond_both}
use Rattle.pal_text.specs.declared.tokens.TokenKind.{TokenKind}
use Rattle.pal_text.specs.declared.tokens.TokenKind.TheVariants as kind
use Rattle.pal_text.specs.declared.tokens.Token.{Token}
use Rattle.pal_text.specs.declared.grammar.Form.{Form}
use Rattle.pal_text.specs.declared.grammar.Form.TheVariants as form
use Rattle.pal_text.specs.Grammar.{Said}
use Rattle.pal_text.proofs.Rises.{all_append}
use Rattle.pal_acts.specs.declared.act.SignedTerm.{SignedTerm}
use Rattle.pal_acts.specs.declared.act.Act.{Act}
use Rattle.pal_acts.specs.declared.act.Act.TheVariants as act
use Rattle.pal_acts.specs.declared.act.SourcePlace.{SourcePlace}
use Rattle.pal_acts.specs.declared.fault_code.FaultCode.{FaultCode}
use Rattle.pal_acts.specs.declared.fault_code.FaultCode.TheVariants.{DuplicateTag}
use Rattle.pal_acts.specs.Acts.{PlacedAct, placed}
use Rattle.pal_asm.specs.Expressions.{name_of, expression}
use Rattle.pal_asm.specs.Acts.{tag_by, tag_act, assigned, said_acts, acts_with, statement_acts}

no_word : (source : List ℕ) (name : Option Token) → assigned source name ≡ act.Word → ⊥
no_word source (Some t) e = cc
no_word source None e = cc

module _ (P : PlacedAct → Type 0) (p : SourcePlace) (idle : (e : List SignedTerm) (a : Act) → (a ≡ act.Word → ⊥) → P (placed p e a)) where
  abbrev Each : List PlacedAct → Type 0
  Each acts = AllByRecursion P acts

  tag_holds : (source : List ℕ) (t : Token) (k : TokenKind) → P (placed p [] (tag_by source t k))
  tag_holds source t kind.Symbol = idle [] (act.Tag (name_of source t)) (λ e. cc)
  tag_holds source t _ = idle [] (act.Wrong DuplicateTag) (λ e. cc)

  tags_hold : (source : List ℕ) (ts : List Token) → Each (map (tag_act p source) ts)
  tags_hold source [] = tt
  tags_hold source (t ∷ ts) = (tag_holds source t t.kind, tags_hold source ts)

  said_holds : (last : Bool) (source : List ℕ) (name : Option Token) (js : List SignedTerm) (f : Form) → (f ≡ form.Word → P (placed p js act.Word)) → Each (said_acts p last source name js f)
  said_holds last source name js form.Origin h = (idle js act.Origin (λ e. cc), tt)
  said_holds last source name js form.Assign h = (idle js (assigned source name) (no_word source name), tt)
  said_holds last source name js form.Word h = (h refl, tt)
  said_holds last source name js form.Pause h = cond_both last (placed p [] act.LastPause ∷ []) [] (λ l. Each l) (λ is. (idle [] act.LastPause (λ e. cc), tt)) (λ is. tt)
  said_holds last source name js _ h = tt

  with_holds : (last : Bool) (source : List ℕ) (tags : List Token) (s : Said) (r : Result (List SignedTerm) FaultCode) → ((js : List SignedTerm) → s.form ≡ form.Word → P (placed p js act.Word)) → Each (acts_with p last source tags s r)
  with_holds last source tags s (Err c) h = (idle [] (act.Wrong c) (λ e. cc), tt)
  with_holds last source tags s (Ok js) h = all_append P (map (tag_act p source) tags) (said_acts p last source s.name js s.form) (tags_hold source tags) (said_holds last source s.name js s.form (h js))

  pub statement_holds : (b : ℕ) (last : Bool) (source : List ℕ) (tags : List Token) (s : Said) → ((js : List SignedTerm) → s.form ≡ form.Word → P (placed p js act.Word)) → Each (statement_acts p b last source tags s)
  statement_holds b last source tags s h =
      with_holds last source tags s (expression b source s.operand) h
