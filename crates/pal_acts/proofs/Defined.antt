-- Acts have one list of symbols.
use Rattle.std.proofs.Common.{◌≡◌, ◌∙◌, sym, ap, refl, ℕ, List, [], ◌∷◌, Result, Ok}
use Rattle.pal_text.specs.declared.names.Name.{Name}
use Rattle.pal_acts.specs.declared.fault_code.FaultCode.{FaultCode}
use Rattle.pal_acts.specs.Acts.{PlacedAct}
use Rattle.pal_acts.specs.Meaning.{next_taken, Defines, nothing, one_more}

-- what stood before the last of some acts
pub record Came (perm : List (Name × ℕ)) (limit : ℕ) (before : List PlacedAct) (next : PlacedAct) (new : List (Name × ℕ)) : Type 0 where
  pub own : List (Name × ℕ)
  pub defines : Defines perm limit before own
  pub taken_is : next_taken perm limit own before next ≡ Ok new

abbrev CameBy : List (Name × ℕ) → ℕ → List PlacedAct → List (Name × ℕ) → Type 0
CameBy perm limit [] own = own ≡ []
CameBy perm limit (next ∷ before) new = Came perm limit before next new

came_by : (perm : List (Name × ℕ)) (limit : ℕ) (acts : List PlacedAct) (own : List (Name × ℕ)) → Defines perm limit acts own → CameBy perm limit acts own
came_by perm limit acts own nothing = refl
came_by perm limit acts all (one_more before next own new h e) = record { own = own; defines = h; taken_is = e }

pub came : (perm : List (Name × ℕ)) (limit : ℕ) (before : List PlacedAct) (next : PlacedAct) (new : List (Name × ℕ)) → Defines perm limit (next ∷ before) new → Came perm limit before next new
came perm limit before next new d = came_by perm limit (next ∷ before) new d

pub none_came : (perm : List (Name × ℕ)) (limit : ℕ) (own : List (Name × ℕ)) → Defines perm limit [] own → own ≡ []
none_came perm limit own d = came_by perm limit [] own d

abbrev ok : List (Name × ℕ) → Result (List (Name × ℕ)) FaultCode
ok x = Ok x

one_ok : (x y : List (Name × ℕ)) → ok x ≡ ok y → x ≡ y
one_ok x y e = cc

-- acts have one list of symbols
pub unique : (perm : List (Name × ℕ)) (limit : ℕ) (acts : List PlacedAct) (s u : List (Name × ℕ)) → Defines perm limit acts s → Defines perm limit acts u → s ≡ u
unique perm limit [] s u d e = none_came perm limit s d ∙ sym (none_came perm limit u e)
unique perm limit (next ∷ before) s u d e =
    let b : Came perm limit before next s = came perm limit before next s d in
    let c : Came perm limit before next u = came perm limit before next u e in
    let old : b.own ≡ c.own = unique perm limit before b.own c.own b.defines c.defines in
    one_ok s u (sym b.taken_is ∙ ap (λ o. next_taken perm limit o before next) old ∙ c.taken_is)
