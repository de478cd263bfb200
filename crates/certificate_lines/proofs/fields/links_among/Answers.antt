use Rattle.std.proofs.Common.{◌≡◌, ℕ, zero, suc, ◌<◌, ◌==◌, false, refl, arith}
use Rattle.std.specs.Prelude.{if◌then◌else◌}
use Rattle.wordset.specs.Words.{Words}
use Rattle.domain.specs.Offsets.{offsets_in}
use Rattle.certificate_lines.proofs.fields.links_among.Goals as goal

of_two : (s : Words) (k : ℕ) → k < 2 → (if k == 0 then s 0 else (if k == 1 then s 1 else false)) ≡ s k
of_two s zero h = refl
of_two s (suc zero) h = refl
of_two s (suc (suc k)) h = absurd (omega arith)

pub returns : goal.returns
returns c = λ k h. rw (c.contains.ensures, c.contains-2.ensures) (of_two (offsets_in c.args.digits) k h)
