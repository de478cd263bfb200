-- The end of what a source gives.
use Rattle.std.proofs.Common.{ℕ, ◌≡◌, List, [], Option, Some, None, refl, sym, ap, ◌∙◌, unwrap_or}
use Rattle.std.specs.Option.{ForSome}
use Rattle.std.specs.Io.KnownBytes.{IsAtEnd}

pub known_end : (o : Option (List ℕ)) → ForSome o (λ bytes. bytes ≡ []) → IsAtEnd o
known_end None none = tt
known_end (Some bytes) none = none bytes refl

pub end_known : (o : Option (List ℕ)) → IsAtEnd o → ForSome o (λ bytes. bytes ≡ [])
end_known None is = λ bytes e. absurd (cc)
end_known (Some all) is = λ bytes e. sym (ap (λ (o : Option (List ℕ)). unwrap_or o []) e) ∙ is
