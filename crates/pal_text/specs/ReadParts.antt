-- What a part that was read has, as its calls show it.
use Rattle.std.specs.Prelude.{List}
use Rattle.pal_text.specs.declared.part.Part.{Part}
use Rattle.pal_text.specs.declared.tokens.Token.{Token}
use Rattle.pal_text.specs.Names.{part_tokens}

-- The tokens of all its bytes. Those that it holds are the front of these.
abbrev pub tokens_in : {A : Type 0} → Part A → List Token
tokens_in part = part_tokens part.source.now
