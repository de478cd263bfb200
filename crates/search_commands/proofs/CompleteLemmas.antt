-- What `complete` writes.
use Rattle.std.proofs.Common.{ℕ, ◌≡◌, ◌||◌, Bool, true, false, List, Option, refl, inl, inr, take, arith}
use Rattle.std.specs.Prelude.{Some, None, IfSome}
use Rattle.std.proofs.lemmas.Bool.{or_left}
use Rattle.wordset.specs.Words.{Words}
use Rattle.peripherals.specs.Loading.{image_of}
use Rattle.declaration.specs.Declaration.{Declaration}
use Rattle.declaration.specs.Text.{Declares}
use Rattle.declaration.proofs.AnswerLemmas.{declares_short}
use Rattle.policy.specs.Runs.{IsSafe}
use Rattle.command_parts.specs.declared.status.Status.{Status}
use Rattle.command_parts.specs.declared.status.Status.TheVariants.{Done, Refused}
use Rattle.command_parts.proofs.InputLemmas.{all_or_more}
use Rattle.search_commands.proofs.DeclareLemmas.{refused_not_done}
use Rattle.search_commands.specs.Adding.{AddsOnly, IsNoWider, lists}
use Rattle.search_commands.specs.CompleteText.{Completes, CompletesBy, IsExtensionBy, IsFit}
use Rattle.search_commands.specs.Keeping.KeepsLines.{unchanged}

-- a declaration allows nothing that it does not allow, whatever is proposed
adds_nothing : (d proposed : Declaration) → AddsOnly d proposed d
adds_nothing d proposed = λ a small. record {
  body = λ r is. or_left (d.body r a) (proposed.body r a) is;
  offset = λ o low is. or_left (d.offset a o) (proposed.offset a o) is;
  entry = λ is. or_left (d.entry a) (proposed.entry a) is;
  variable = λ is. or_left (d.variable a) (proposed.variable a) is;
  stop = λ is. or_left (d.stop a) (proposed.stop a) is;
  pause = λ is. or_left (d.pause a) (proposed.pause a) is;
  read = λ is. or_left (lists d.reads a) (lists proposed.reads a) is;
  moves = λ is. or_left (d.moves a) (proposed.moves a) is;
  abandon = λ is. or_left (d.abandon a) (proposed.abandon a) is;
}

-- so it extends itself
extends_own : (d : Declaration) → IsNoWider d d
extends_own d = record { start_is = refl; profile_is = refl; adds = adds_nothing d d; listed = refl }

-- what is found to be such an extension shows that the text is fit
pub fit_if : {D : Type 0} (declared : D → Declaration) (bytes : List ℕ) (given proposed : Declaration) (text : List ℕ) (found : Option D) (d : D) → found ≡ Some d →
    IfSome found (λ more. IsExtensionBy bytes given proposed (declared more) text) → IsFit bytes given proposed text
fit_if declared bytes given proposed text found d is extends = (declared d, rw is at extends)

-- and its text is that of an extension of it, in which nothing is added
pub own_extension : (given proposed : Declaration) (text : List ℕ) → Declares text given → IsFit text given proposed text
own_extension given proposed text declares = (
  given,
  record { declares = declares; extends = extends_own given; adds = adds_nothing given proposed; keeps = unchanged text },
)

-- with a certificate for the declaration itself
pub own_completes : (reads : Bool) (image : List (Option ℕ)) (d : Declaration) (text : List ℕ) → Declares text d → IsSafe (image_of image) d →
    Completes text reads image d Done text
own_completes reads image d text declares safe = record {
  is = record { declaration = d; declares = declares; extends = extends_own d; keeps = unchanged text };
  unlisted = λ off a small listed. listed;
  ends = inl refl;
  safe = λ done. safe;
}

-- with a certificate for what extends it
pub shown_completes : (image : List (Option ℕ)) (bytes : List ℕ) (given proposed more : Declaration) (text : List ℕ) → IsExtensionBy bytes given proposed more text →
    IsSafe (image_of image) more → CompletesBy bytes image given proposed Done text
shown_completes image bytes given proposed more text is safe = record { is = (more, is); ends = inl refl; safe = λ done. safe }

-- without one
pub lacking_completes : (image : List (Option ℕ)) (bytes : List ℕ) (given proposed : Declaration) (text : List ℕ) → IsFit bytes given proposed text →
    CompletesBy bytes image given proposed Refused text
lacking_completes image bytes given proposed text is = record { is = is; ends = inr refl; safe = λ done. refused_not_done done }

listed_before : (given : Bool) (proposed : Option Words) (a : ℕ) → proposed ≡ None → (given || lists proposed a) ≡ true → given ≡ true
listed_before true proposed a none listed = refl
listed_before false proposed a none listed = rw none at listed

-- what completes a declaration by what is proposed completes it; reads are listed in what is proposed only if that is
-- requested
pub completes_by : (reads : Bool) (image : List (Option ℕ)) (bytes : List ℕ) (given proposed : Declaration) (status : Status) (text : List ℕ) →
    (reads ≡ false → proposed.reads ≡ None) → CompletesBy bytes image given proposed status text → Completes bytes reads image given status text
completes_by reads image bytes given proposed status text off by = record {
  is = record { declaration = by.is.0; declares = by.is.1.declares; extends = by.is.1.extends; keeps = by.is.1.keeps };
  unlisted = λ is a small listed. listed_before (lists given.reads a) proposed.reads a (off is) ((by.is.1.adds a small).read listed);
  ends = by.ends;
  safe = by.safe;
}

-- a text that was read up to one byte more than a declaration may have is everything that its source had
pub whole_text : (had : Option (List ℕ)) (text : List ℕ) (d : Declaration) → IfSome had (λ bytes. text ≡ take 16385 bytes) → Declares text d → IfSome had (λ bytes. bytes ≡ text)
whole_text had text d is declares =
    all_or_more (λ bytes. bytes ≡ text) had text 16384 is refl (λ bytes long more e. absurd (let short = declares_short text d declares in omega (arith, short, long)))
