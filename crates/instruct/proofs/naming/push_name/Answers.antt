use Rattle.std.proofs.Common.{◌≡◌, ◌++◌, ◌==◌, length, false, ◌∷◌, [], sym, lit<}
use Rattle.instruct.proofs.Spaces.{next_name}
use Rattle.instruct.proofs.naming.push_name.Goals as goal

pub returns-else-is_empty-clause-names : goal.returns-else-is_empty-clause-names
returns-else-is_empty-clause-names c = λ names spaced.
    let after_space : c.push.new.self.bytes ≡ c.args.text.now.bytes ++ 32 ∷ [] = c.push.ensures.ascii (lit< tt) in
    let some : (length c.args.text.now.bytes == 0) ≡ false = sym c.if-is_empty.ensures in
    rw (c.push_str-else-is_empty.ensures.bytes, after_space) (next_name names c.args.text.now.bytes c.args.name.now some spaced)
