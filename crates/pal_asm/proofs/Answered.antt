-- Each source has a meaning or a fault.
use Rattle.std.proofs.Common.{◌≡◌, ◌≢◌, ◌∙◌, sym, ap, refl, ℕ, ◌+◌, List, [], ◌∷◌, ◌++◌, Bool, Option, Some, None, inl, inr, ◌⊎◌, length}
use Rattle.std.specs.Prelude.{nat_eq}
use Rattle.pal_text.specs.declared.statement.Statement.{Statement}
use Rattle.pal_text.specs.declared.statement.PartEnd.{PartEnd}
use Rattle.pal_text.specs.declared.statement.Ending.{Ending}
use Rattle.pal_text.specs.declared.statement.Ending.TheVariants.{Dollar, Pause, Bytes}
use Rattle.pal_text.specs.declared.names.Name.{Name}
use Rattle.pal_text.specs.Names.{part_tokens}
use Rattle.pal_text.specs.Statements.{Piece, pieces, own, closing, Stand}
use Rattle.pal_text.specs.Statements as stands
use Rattle.pal_text.proofs.Answered.{Answers, answered, part_closed}
use Rattle.pal_acts.specs.declared.act.Act.TheVariants as act
use Rattle.pal_acts.specs.declared.act.SourcePlace.{SourcePlace}
use Rattle.pal_acts.specs.declared.fault_code.FaultCode.{FaultCode}
use Rattle.pal_acts.specs.declared.fault_code.FaultCode.TheVariants.{IllegalCharacter}
use Rattle.pal_acts.specs.Acts.{PlacedAct, placed, place}
use Rattle.pal_acts.specs.Sources.{IsSource}
use Rattle.pal_acts.specs.Faults.{IsRefused}
use Rattle.pal_acts.proofs.Answered.{each_source_is_answered as acts_are_answered}
use Rattle.pal_asm.specs.declared.number.Radix.{Radix}
use Rattle.pal_asm.specs.declared.number.Radix.TheVariants.{Octal}
use Rattle.pal_asm.specs.declared.fault.PalFault.{PalFault}
use Rattle.pal_asm.specs.Numbers.{base, radix_after}
use Rattle.pal_asm.specs.Acts.{statement_acts, Does, ends, goes_on}
use Rattle.pal_asm.specs.Sources.{fault_at, size_fault, TextLine, part_lines, PartDoes, Reads, no_part, broken, last_part, next_part, Means, IsFault}
use Rattle.pal_asm.specs.Laws.{EachSourceIsAnswered}

-- what the statements of a part do, where the first has this number
module _ (n : ℕ) (last : Bool) (source : List ℕ) where
  abbrev Done : Radix → List Piece → PartEnd → Type 0
  Done r ps c = (acts : List PlacedAct) × (r' : Radix) × Does n last source r ps acts r' c

  does_all : (r : Radix) (ps : List Piece) (ss : List Statement) (c : PartEnd) → Stand (part_tokens source) (length source) ps ss c → Done r ps c
  does_all r ps ss c (stands.ends p qs s d f e) = (
    statement_acts (place n p.mark.line) (base r) last source f.names f.said,
    radix_after r f.said.form,
    ends r p qs f.names f.said d f.reads (ap (closing (length source) (own (part_tokens source) p) p.mark) (sym (ap (λ (s : Statement). s.form) f.is)) ∙ e),
  )
  does_all r ps ss c (stands.goes_on p qs s rs d f e more) =
      let rest : Done (radix_after r f.said.form) qs d = does_all (radix_after r f.said.form) qs rs d more in (
        statement_acts (place n p.mark.line) (base r) last source f.names f.said ++ rest.0,
        rest.1,
        goes_on r rest.1 p qs f.names f.said rest.0 d f.reads (ap (closing (length source) (own (part_tokens source) p) p.mark) (sym (ap (λ (s : Statement). s.form) f.is)) ∙ e) rest.2,
      )

-- parts have acts and lines
abbrev Read : ℕ → Radix → List (List ℕ) → Type 0
Read n r parts = (acts : List PlacedAct) × (lines : List TextLine) × Reads n r parts acts lines

read_on : (n : ℕ) (r r' : Radix) (p : List ℕ) (ps : List (List ℕ)) (acts : List PlacedAct) (c : PartEnd) → PartDoes n (nat_eq (length ps) 0) r p acts r' c → c.ending ≢ Dollar → Read (n + 1) r' ps → Read n r (p ∷ ps)
read_on n r r' p ps acts c does open' rest = (acts ++ rest.0, part_lines n p c ++ rest.1, next_part n r r' p ps acts rest.0 rest.1 c does open' rest.2)

by_ending : (n : ℕ) (r r' : Radix) (p : List ℕ) (ps : List (List ℕ)) (acts : List PlacedAct) (c : PartEnd) → PartDoes n (nat_eq (length ps) 0) r p acts r' c → (e : Ending) → c.ending ≡ e → Read (n + 1) r' ps → Read n r (p ∷ ps)
by_ending n r r' p ps acts c does Dollar is rest = (acts, part_lines n p c, last_part n r r' p ps acts c does is)
by_ending n r r' p ps acts c does Pause is rest = read_on n r r' p ps acts c does (λ k. let both : Pause ≡ Dollar = sym is ∙ k in cc) rest
by_ending n r r' p ps acts c does Bytes is rest = read_on n r r' p ps acts c does (λ k. let both : Bytes ≡ Dollar = sym is ∙ k in cc) rest

by_part : (n : ℕ) (r : Radix) (p : List ℕ) (ps : List (List ℕ)) → Answers (part_tokens p) (length p) (pieces 0 0 (part_tokens p)) → ((r' : Radix) → Read (n + 1) r' ps) → Read n r (p ∷ ps)
by_part n r p ps (inl k) rest =
    let done : Done n (nat_eq (length ps) 0) p r (pieces 0 0 (part_tokens p)) k.1 = does_all n (nat_eq (length ps) 0) p r (pieces 0 0 (part_tokens p)) k.0 k.1 k.2 in
    by_ending n r done.1 p ps done.0 k.1 done.2 k.1.ending refl (rest done.1)
by_part n r p ps (inr k) rest = (placed (place n k.0) [] (act.Wrong IllegalCharacter) ∷ [], [], broken n r p ps k.0 k.1)

all_read : (n : ℕ) (r : Radix) (parts : List (List ℕ)) → Read n r parts
all_read n r [] = ([], [], no_part n r)
all_read n r (p ∷ ps) = by_part n r p ps (answered (part_tokens p) (length p) (pieces 0 0 (part_tokens p)) (part_closed p)) (λ r'. all_read (n + 1) r' ps)

module _ (perm : List (Name × ℕ)) (parts : List (List ℕ)) where
  abbrev Answered : Type 0
  Answered = ((own : List (Name × ℕ)) × (image : List (Option ℕ)) × Means perm parts own image) ⊎ ((fault : PalFault) × IsFault perm parts fault)

  by_acts : size_fault parts ≡ None → (read : Read 1 Octal parts)
      → ((own : List (Name × ℕ)) × (image : List (Option ℕ)) × IsSource perm 1024 read.0 own image) ⊎ ((at : SourcePlace) × (code : FaultCode) × IsRefused perm 1024 read.0 at code) → Answered
  by_acts sizes read (inl k) = inl (k.0, k.1, record { acts = read.0; lines = read.1; sizes = sizes; reads = read.2; so = k.2 })
  by_acts sizes read (inr k) = inr (fault_at k.1 k.0.part k.0.line, inr (record { acts = read.0; lines = read.1; sizes = sizes; reads = read.2; so = k.2 }))

  by_sizes : (o : Option PalFault) → size_fault parts ≡ o → Answered
  by_sizes (Some fault) e = inr (fault, inl e)
  by_sizes None e = by_acts e (all_read 1 Octal parts) (acts_are_answered perm 1024 (all_read 1 Octal parts).0)

pub each_source_is_answered : EachSourceIsAnswered
each_source_is_answered perm parts = by_sizes perm parts (size_fault parts) refl
