-- Facts that are kept with their addresses.
use Rattle.std.proofs.Common.{◌≡◌, ℕ, Some, None, List, [], ◌∷◌, sym, ap, ◌∙◌, subst}
use Rattle.wordset.specs.Words.{Words}
use Rattle.domain.specs.Brief.{brief_words}
use Rattle.domain.specs.Facts.{Fact, OfEquations}
use Rattle.domain.specs.FactInCode.{fact_in_code}
use Rattle.certificate_lines.specs.Certificate.{Certificate}
use Rattle.judge.specs.Landing.{with_sites, sited}
use Rattle.judge.specs.Shapes.{HasShape}
use Rattle.judge.specs.Caches.{IsOnlyAt, IsOnlyAhead, Shows, StandsAhead}
use Rattle.judge.specs.declared.cache.FactCache.{FactCache}

some_same : {a b : ℕ} → Some a ≡ Some b → a ≡ b
some_same h = cc

none_some : {a : ℕ} → None ≡ Some a → ⊥
none_some h = cc

-- other sites
pub shows_sited : (c : Certificate) (s t : FactCache) (w : Words) → Shows c s → fact_in_code t.fact ≡ with_sites w (fact_in_code s.fact) → t.sites ≡ s.sites → t.address ≡ s.address → Shows c t
shows_sited c s t w shows is own same a there =
    let before : IsOnlyAt c s a = shows a (sym same ∙ there) in
    let also : with_sites (brief_words t.sites) (fact_in_code t.fact) ≡ with_sites (brief_words s.sites) (fact_in_code s.fact) =
    ap (λ (b : _). with_sites (brief_words b) (fact_in_code t.fact)) own ∙ ap (λ (g : Fact). with_sites (brief_words s.sites) g) is in
    let shape : HasShape (fact_in_code s.fact) = before.shape in
    record {
      only = before.only ∙ ap (λ (g : Fact). g ∷ []) (sym also);
      shape = subst HasShape (sym is) (record { terms = shape.terms; short = shape.short; few = shape.few });
    }

-- with its own sites it is what is claimed
pub as_claimed : (c : Certificate) (s : FactCache) (a : ℕ) (f : Fact) → Shows c s → s.address ≡ Some a → f ≡ with_sites (brief_words s.sites) (fact_in_code s.fact) → c.facts a ≡ f ∷ []
as_claimed c s a f shows there is = (shows a there).only ∙ ap (λ (g : Fact). g ∷ []) (sym is)

pub shape_claimed : (c : Certificate) (s : FactCache) (a : ℕ) (f : Fact) → Shows c s → s.address ≡ Some a → f ≡ with_sites (brief_words s.sites) (fact_in_code s.fact) → HasShape f
shape_claimed c s a f shows there is =
    let shape : HasShape (fact_in_code s.fact) = (shows a there).shape in
    subst HasShape (sym is) (record { terms = shape.terms; short = shape.short; few = shape.few })

-- ahead by the rules of equations
pub sited_ahead : (c : Certificate) (sites : Words) (s : FactCache) (a : ℕ) (f : Fact) → c.rules ≡ OfEquations → c.facts a ≡ f ∷ [] → fact_in_code s.fact ≡ with_sites sites f → s.address ≡ Some a → StandsAhead c sites s
sited_ahead c sites s a f equations only is there b here =
    subst (λ (x : ℕ). IsOnlyAhead c sites s x) (some_same (sym there ∙ here)) (record {
      rules = equations;
      only = ap (λ (k : _). sited k sites (c.facts a)) equations ∙ (ap (λ (fs : List Fact). sited OfEquations sites fs) only ∙ ap (λ (g : Fact). g ∷ []) (sym is));
    })
