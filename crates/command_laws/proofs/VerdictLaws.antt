-- Inputs have at most one verdict, and a migrated certificate has that of its original.
use Rattle.std.proofs.Common.{ℕ, ◌≡◌, ◌≤◌, List, [], ◌∷◌, length, take, Option, Some, refl, sym, ap, ◌∙◌, subst}
use Rattle.std.specs.Prelude.{Result, Ok, Err}
use Rattle.bin_tape.proofs.OneAnswer.{one_tape}
use Rattle.peripherals.specs.Loading.{image_of}
use Rattle.declaration.specs.Declaration.{Declaration}
use Rattle.declaration.proofs.AnswerLemmas.{one_declaration}
use Rattle.domain.specs.Facts.{Rules}
use Rattle.certificate_lines.specs.declared.Version.{Version}
use Rattle.certificate_lines.specs.declared.Version.TheVariants.{One, Two, Three}
use Rattle.certificate_lines.specs.Pieces.{most_bytes}
use Rattle.certificate_lines.specs.Certificate.{Certificate}
use Rattle.certificate.specs.Exact.{AreLines}
use Rattle.certificate_lines.specs.Found.{Follow}
use Rattle.certificate_lines.specs.Laws.{bytes_of}
use Rattle.certificate_lines.specs.Lines.{Line, rules_of}
use Rattle.certificate_lines.specs.Made.{migrated, with_mq}
use Rattle.certificate_lines.specs.Reading.{Text, certificate_of}
use Rattle.certificate.proofs.SumExactLemmas.{spelling_law}
use Rattle.certificate.proofs.SumMadeLemmas.{line_two}
use Rattle.judge.specs.Landing.{Case}
use Rattle.judge.specs.declared.judging.Refusal.{Refusal}
use Rattle.judge.proofs.FirstLemmas.{one_first}
use Rattle.judge.proofs.ReadingLemmas.{none_fails}
use Rattle.facts.specs.declared.Condition.{Condition}
use Rattle.search_commands.specs.GuessText.{IsGuess}
use Rattle.diagnostics.specs.CheckText.{IsCheckedSo, IsVerdict, checked_case, verdict_status, verdict_text, yes_text}
use Rattle.diagnostics.specs.CertificateInputs.{IsTextOf}
use Rattle.command_laws.specs.Laws.{ChecksAreOne, GuessIsAccepted, GuessIsRead, MigratedIsCheckedAlike}
use Rattle.command_parts.specs.declared.status.Status.{Status}
use Rattle.command_parts.specs.declared.status.Status.TheVariants.{Done}

abbrev Verdict : Type 0
Verdict = Result (Unit {0}) Refusal

abbrev refusal : Condition → ℕ → Refusal
refusal v a = record { condition = v; address = a }

same_refusal : {v u : Condition} {a b : ℕ} → v ≡ u → a ≡ b → refusal v a ≡ refusal u b
same_refusal e k = rw (e, k) refl

abbrev judged_as : List (Option ℕ) → Declaration → Certificate → Case
judged_as image d c = record { image = image_of image; declaration = d; certificate = c }

-- ---- a case has at most one verdict

same_verdict : (j : Case) (v w : Verdict) → IsVerdict j v → IsVerdict j w → v ≡ w
same_verdict j (Ok u) (Ok w) holds also = refl
same_verdict j (Ok u) (Err r) holds first = absurd (none_fails holds.valid first)
same_verdict j (Err r) (Ok w) first holds = absurd (none_fails holds.valid first)
same_verdict j (Err r) (Err s) first second =
    let alike = one_first j r.condition s.condition r.address s.address first second in
    let whole : refusal r.condition r.address ≡ refusal s.condition s.address = same_refusal alike.0 alike.1 in
    ap Err whole

same_case : {i k : List (Option ℕ)} {d e : Declaration} {c f : Certificate} → i ≡ k → d ≡ e → c ≡ f → judged_as i d c ≡ judged_as k e f
same_case words promised claims = rw (words, promised, claims) refl

module _ (t d : List ℕ) (c e : List ℕ) (line line' : List ℕ) (status status' : Status) (x : IsCheckedSo (Some t) (Some d) (Some c) line status) (y : IsCheckedSo (Some t) (Some d) (Some e) line' status')
    (same : certificate_of x.lines ≡ certificate_of y.lines) where
  promised_is : x.declaration ≡ y.declaration
  promised_is = one_declaration d x.declaration y.declaration x.declares y.declares

  case_is : checked_case x.image x.declaration x.lines ≡ checked_case y.image y.declaration y.lines
  case_is = same_case (one_tape (take 65536 t) x.image y.image x.tape y.tape) promised_is same

  verdict_is : x.is.verdict ≡ y.is.verdict
  verdict_is =
      same_verdict (checked_case x.image x.declaration x.lines) x.is.verdict y.is.verdict x.is.is
      (subst (λ (j : Case). IsVerdict j y.is.verdict) (sym case_is) y.is.is)

  one_answer : (line ≡ line') × (status ≡ status')
  one_answer = (
    x.is.line_is ∙ ap (λ v. verdict_text x.declaration v) verdict_is ∙ ap (λ p. verdict_text p y.is.verdict) promised_is ∙ sym y.is.line_is,
    x.is.status_is ∙ ap verdict_status verdict_is ∙ sym y.is.status_is,
  )

lines_alike : (c e : Text) → AreLines c → AreLines e → bytes_of c ≡ bytes_of e → certificate_of c ≡ certificate_of e
lines_alike c e one other same = ap certificate_of (spelling_law.texts c e one other same)

pub checks_are_one : ChecksAreOne
checks_are_one t d c line line' status status' x y =
    one_answer t d c c line line' status status' x y (lines_alike x.lines y.lines x.claims.lines_are y.claims.lines_are (sym x.claims.text_is ∙ y.claims.text_is))

-- ---- what `guess` writes

-- what `guess` writes is checked with a yes, if it is within the limit that is read
guess_checked : (t d guess : List ℕ) (g : IsGuess (Some t) (Some d) guess) → length guess ≤ most_bytes → IsCheckedSo (Some t) (Some d) (Some guess) (yes_text g.declaration) Done
guess_checked t d guess g few = record {
  image = g.image;
  tape = g.tape;
  declaration = g.declaration;
  declares = g.declares;
  lines = g.is.lines;
  claims = record { lines_are = g.is.lines_are; text_is = g.is.guess_is; few = few };
  is = record { verdict = Ok tt; is = g.is.accepted; line_is = refl; status_is = refl };
}

pub guess_is_accepted : GuessIsAccepted
guess_is_accepted t d guess line status g checked =
    sym (checks_are_one t d guess (yes_text g.declaration) line Done status (guess_checked t d guess g checked.claims.few) checked).1

pub guess_is_read : GuessIsRead
guess_is_read t d guess g few = (yes_text g.declaration, guess_checked t d guess g few)

-- ---- what `migrate` writes

-- lines that may follow one another in version 1 may do so in version 2
follow_two : (before ls : List Line) → Follow One before ls → Follow Two before ls
follow_two before [] h = tt
follow_two before (l ∷ ls) h =
    (line_two l h.0, record { stands = h.1.stands; order = h.1.order; room = h.1.room }, follow_two (l ∷ before) ls h.2)

follow_mq : (v : Version) (ls : List Line) → Follow v [] ls → Follow (with_mq v) [] ls
follow_mq One ls h = follow_two [] ls h
follow_mq Two ls h = h
follow_mq Three ls h = h

migrated_lines : (c : Text) → AreLines c → AreLines (migrated c)
migrated_lines c h = record { order = follow_mq c.version c.lines h.order; has_end = h.has_end }

-- the rules stay the same, and so do the claims
same_rules : (v : Version) → rules_of v ≡ rules_of (with_mq v)
same_rules One = refl
same_rules Two = refl
same_rules Three = refl

migrated_claims : (c : Text) → certificate_of c ≡ certificate_of (migrated c)
migrated_claims c = ap (λ (r : Rules). record (certificate_of c) { rules = r }) (same_rules c.version)

pub migrated_is_checked_alike : MigratedIsCheckedAlike
migrated_is_checked_alike t d c m line line' status status' moved x y =
    let read : IsTextOf c moved.lines = moved.claims in
    let lines : x.lines ≡ moved.lines = spelling_law.texts x.lines moved.lines x.claims.lines_are read.lines_are (sym x.claims.text_is ∙ read.text_is) in
    let both : bytes_of (migrated x.lines) ≡ bytes_of (migrated moved.lines) = ap (λ (l : Text). bytes_of (migrated l)) lines in
    let same : bytes_of (migrated x.lines) ≡ bytes_of y.lines = both ∙ sym moved.text_is ∙ y.claims.text_is in
    let are : AreLines (migrated x.lines) = migrated_lines x.lines x.claims.lines_are in
    one_answer t d c m line line' status status' x y (migrated_claims x.lines ∙ lines_alike (migrated x.lines) y.lines are y.claims.lines_are same)
