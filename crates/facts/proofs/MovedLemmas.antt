-- The fact after DCA moved the return word.
use Rattle.std.proofs.Common.{◌≡◌, refl}
use Rattle.wordset.specs.Words.{Words, one}
use Rattle.domain.specs.Locations.{Ac}
use Rattle.domain.specs.Facts.{Fact}
use Rattle.domain.specs.Moves.{taking, offsets_between}
use Rattle.transfer.specs.Outcomes.{moved}

pub is_moved : (f g h : Fact) (zero known sites own offsets : Words) → g ≡ taking Ac zero f → zero ≡ one 0 → h ≡ record g { offsets = offsets } → offsets ≡ offsets_between sites known → sites ≡ own → own ≡ f.sites → h ≡ moved known f
is_moved f g h zero known sites own offsets taken cleared counted are put is = rw (counted, are, put, is, taken, cleared) refl
