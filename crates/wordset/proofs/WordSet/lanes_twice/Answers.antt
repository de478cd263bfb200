use Rattle.std.proofs.Common.{◌∙◌, ap}
use Rattle.std.specs.Simd.Lanes.{put_chunk}
use Rattle.wordset.specs.Lanes.{twice}
use Rattle.wordset.proofs.WordSet.lanes_twice.Goals as goal

pub returns : goal.returns
returns c = c.put-2.ensures ∙ ap (λ t. put_chunk 64 t c.self.inside.lanes) c.put.ensures ∙ ap twice c.self.view_is
