use Rattle.std.proofs.Common.{◌≡◌, ℕ, ◌∙◌, sym, ap, Bool, ◌&&◌, ◌||◌}
use Rattle.instruct.specs.Operates.{operate1_of}
use Rattle.wordset.specs.Words.{images_at}
use Rattle.wordset.specs.Links.{links_of}
use Rattle.wordset.specs.Lanes.{words}
use Rattle.wordset.proofs.WordSet.map_each.Goals as goal
use Rattle.wordset.proofs.Tests.{some_of_two}
use Rattle.std.proofs.Math.Path.{fun_ext}

both : (p q f g r s : Bool) → r ≡ (p && f) → s ≡ (q && g) → (r || s) ≡ ((p && f) || (q && g))
both p q f g r s a b = ap (λ x. x || s) a ∙ ap (λ x. (p && f) || x) b

pub returns-clause-words : goal.returns-clause-words
returns-clause-words c =
    let image = λ (l v : ℕ). images_at (λ ac. (operate1_of c.args.word (ac, l)).0) (words c.args.self.now) v in
    fun_ext (λ v. ap (λ t. t v) c.union.ensures
    ∙ both c.args.links.clear c.args.links.set (image 0 v) (image 1 v) (words c.operate_if-low.result.0 v) (words c.operate_if-high.result.0 v) (c.operate_if-low.ensures.words v) (c.operate_if-high.ensures.words v)
    ∙ sym (some_of_two (λ l. links_of c.args.links l && image l v)))

pub returns-clause-links : goal.returns-clause-links
returns-clause-links c =
    let image = λ (l k : ℕ). images_at (λ ac. (operate1_of c.args.word (ac, l)).1) (words c.args.self.now) k in
    fun_ext (λ k. ap (λ t. t k) c.union-2.ensures
    ∙ both c.args.links.clear c.args.links.set (image 0 k) (image 1 k) (links_of c.operate_if-low.result.1 k) (links_of c.operate_if-high.result.1 k) (c.operate_if-low.ensures.links k) (c.operate_if-high.ensures.links k)
    ∙ sym (some_of_two (λ l. links_of c.args.links l && image l k)))
