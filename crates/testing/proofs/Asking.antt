-- The call of `is_refused`, as a walk makes it: what it takes, and that what it gives back is a truth value.
use Rattle.std.proofs.Common.{ℕ, List, [], ◌∷◌, refl, zero, suc}
use seplogic.Ra.Ura.{Ura}
use mir.Syntax.{Body, seq}
use mir.Val.{Val, vptr}
use base.Logic.{SProp, ent, sep}
use base.Fml.{Lft, Share, flft}
use prog.Memory.{Memory}
use prog.Routine.{Routine}
use types.Logic.{Logic, sem}
use contract.Monad.{Fun}
use types.Kit.{‵, ◌$◌, ◌∵◌, !, qed, move, join, fjoin, feq_i, done}
use denote.RattleType.{RattleType}
use denote.Memory.{hidden_shr}
use denote.Steps.{nothing}
use denote.Triple.Statement.{Contract}
use denote.Triple.Spec.{triple_of}
use Rattle.std.specs.contracts.cell.Cell as cell
use Rattle.testing.specs.contracts.refusing.Plan as plan
use Rattle.testing.specs.contracts.refusing.is_refused as asked

-- the cell that has the plan
abbrev pub PlanCell : RattleType
PlanCell = cell.the_row plan.the_row

-- the code after so many statements
abbrev pub rest_of : ℕ → Body → Body
rest_of zero body = body
rest_of (suc n) (seq first others) = rest_of n others
rest_of (suc n) body = body

module _ {M : Type 1} {𝓤 : Ura M} (𝓛 : Logic 𝓤) (at_mem : Memory → SProp 𝓤) (run : Routine → Fun 𝓤) where
  abbrev pub Asks : Contract 𝓤
  Asks = triple_of 𝓛 asked.signature (asked.spec 𝓛 at_mem run)

  abbrev pub asks_at : Lft → Share → ℕ × ℕ → Asks.Ghost
  asks_at κ q at = (((κ, tt), (q, tt), tt, (record { ref_ptr = at; now = record { value = tt } }, tt), (vptr at.0 at.1 ∷ [], tt)), tt)

  pub asks-takes : (κ : Lft) (q : Share) (at : ℕ × ℕ) → ent 𝓤 (sep 𝓤 (sem 𝓛 (hidden_shr PlanCell κ (record { value = tt }) at.0 at.1)) (𝓛.A.lft κ q)) (Asks.pre (asks_at κ q at))
  asks-takes κ q at =
      qed 𝓛 (‵ (hidden_shr PlanCell κ (record { value = tt }) at.0 at.1) ∷ ‵ (flft κ q) ∷ []) ∵
      feq_i ! (List Val) (vptr at.0 at.1 ∷ []) (vptr at.0 at.1 ∷ []) refl $ fjoin ! $
      nothing ! $ move ! (1 ∷ []) $ fjoin ! $ nothing ! $ move ! (2 ∷ []) $ join ! $ join ! $ nothing ! $ move ! (1 ∷ []) $ done !
