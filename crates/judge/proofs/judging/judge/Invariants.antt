use Rattle.std.proofs.Common.{◌≡◌, ◌<◌, ◌-◌, ℕ, true}
use Rattle.certificate_lines.specs.Certificate.{claimed}
use Rattle.judge.specs.Asked.{HoldsBetween}
use Rattle.judge.specs.Judged.{judged}
use Rattle.judge.specs.Bodies.{Tells}
use Rattle.judge.specs.Caches.{Shows}
use Rattle.judge.proofs.OrderLemmas.{NextNamed}
use Rattle.judge.proofs.judging.judge.Given as goal

abbrev pub invariant-loop-address : goal.invariant-loop-address
invariant-loop-address g l =
    ((a : ℕ) → a < l.next → claimed (g.C.Claims.claims l.claims) a ≡ true → HoldsBetween (judged l.image l.declaration (g.C.Claims.claims l.claims)) 1 16 a) ×
    Tells (g.C.Claims.claims l.claims) l.body ×
    NextNamed (g.C.Claims.claims l.claims) l.next l.named ×
    Shows (g.C.Claims.claims l.claims) l.rooms.even ×
    Shows (g.C.Claims.claims l.claims) l.rooms.odd

abbrev pub decreases-loop-address : goal.decreases-loop-address
decreases-loop-address g l =
    4096 - l.next
