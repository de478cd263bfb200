use Rattle.std.proofs.Common.{◌∙◌, ap, set, get_or}
use Rattle.pal_text.specs.Names.{named}
use Rattle.pal_text.proofs.InPlace.{in_place_more}
use Rattle.pal_text.proofs.names.name_tokens.Goals as goal

pub loop-token-preserved : goal.loop-token-preserved
loop-token-preserved c =
    ap (λ k. set c.loop-token.tokens c.loop-token.token-index (record (get_or c.loop-token.tokens c.loop-token.token-index _) { kind = k })) c.told_kind-token.ensures
    ∙ in_place_more (named c.args.source.now) c.args.tokens.now c.loop-token.tokens c.loop-token.token-index _ c.loop-token.invariant c.loop-token-test.true
