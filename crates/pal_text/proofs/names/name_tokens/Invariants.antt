use Rattle.std.proofs.Common.{◌≡◌, ◌++◌, take, drop}
use Rattle.std.specs.Prelude.{map}
use Rattle.pal_text.specs.Names.{named}
use Rattle.pal_text.proofs.names.name_tokens.Given as goal

abbrev pub invariant-loop-token : goal.invariant-loop-token
invariant-loop-token l = l.tokens ≡ map (named l.source) (take l.token-index l.fn.tokens) ++ drop l.token-index l.fn.tokens
