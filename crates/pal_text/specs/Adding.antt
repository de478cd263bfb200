-- How tokens are read, one character after another, for private contracts. That these are the tokens is proved of it. Lists
-- of bytes and of tokens have the newest first here, except for `all_read`.
use Rattle.std.specs.Prelude.{ℕ, Bool, ◌||◌, ◌&&◌, if◌then◌else◌, List, [], ◌∷◌, length, reverse, Option, Some, None, nat_eq}
use Rattle.pal_text.specs.declared.characters.Meaning.{Meaning}
use Rattle.pal_text.specs.declared.characters.Meaning.TheVariants.{Ignored, LineEnd, Character}
use Rattle.pal_text.specs.declared.tokens.TokenKind.{TokenKind}
use Rattle.pal_text.specs.declared.tokens.TokenKind.TheVariants.{End}
use Rattle.pal_text.specs.declared.tokens.Token.{Token}
use Rattle.pal_text.specs.Characters.{char, line, in_comment, meaning_after}
use Rattle.pal_text.specs.Tokens.{is_space, longer, absorbs, kind_of, token, end_token}

-- Of two neighbours of which one is a space that does not count, the other.
abbrev pub without_space : Token → Token → Option Token
without_space last next =
    if is_space next.kind && absorbs last.kind then Some last else
    if is_space last.kind && absorbs next.kind then Some next else None

abbrev pub with_kind : Token → Token → Option TokenKind → Option Token
with_kind last next (Some k) = Some (record { kind = k; line = last.line; start = last.start; end = next.end })
with_kind last next None = without_space last next

-- The one token that two neighbours make; none if both stand.
abbrev pub joined : Token → Token → Option Token
joined last next = with_kind last next (longer last.kind next.kind)

abbrev pub one_or_both : Token → Token → List Token → Option Token → List Token
one_or_both next t ts (Some one) = one ∷ ts
one_or_both next t ts None = next ∷ t ∷ ts

-- The tokens with one more at the end. A space at the front of the first statement does not count.
abbrev pub added : Token → List Token → List Token
added next [] = if is_space next.kind then [] else next ∷ []
added next (t ∷ ts) = one_or_both next t ts (joined t next)

-- The tokens with what a byte brings: a line's end ends a statement, and a comment brings nothing.
abbrev pub grown : ℕ → ℕ → Bool → Meaning → List Token → List Token
grown at n comment Ignored ts = ts
grown at n comment LineEnd ts = added (token End n at) ts
grown at n comment (Character c) ts = if comment || nat_eq c (char "/") then ts else added (token (kind_of c) n at) ts

-- The tokens of these bytes.
abbrev pub tokens : List ℕ → List Token
tokens [] = []
tokens (b ∷ before) = grown (length before) (line before) (in_comment before) (meaning_after before b) (tokens before)

abbrev pub ended : List ℕ → List Token
ended before = added (end_token before) (tokens before)

-- The tokens of a part in order.
abbrev pub all_read : List ℕ → List Token
all_read source = reverse (ended (reverse source))
