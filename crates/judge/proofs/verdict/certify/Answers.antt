use Rattle.std.proofs.Common.{◌≡◌, ◌≢◌, Err, ap, inl, inr, refl, rules}
use Rattle.declaration.specs.declared.DeclarationFault.TheVariants as declaration_fault
use Rattle.certificate_lines.specs.declared.CertificateFault.TheVariants as certificate_fault
use Rattle.certificate_lines.specs.Reading.{reading}
use Rattle.judge.specs.declared.verdict.CertifyFault.TheVariants as fault
use Rattle.judge.specs.Certifying.{Parts, AreRead, declaration_of}
use Rattle.judge.proofs.ReadingLemmas.{are_read, first_too, none_fails, not_both, one_fault, one_refusal, valid_too}
use Rattle.judge.proofs.AnswerLemmas.{ok_or_err, same_fault}
use Rattle.judge.proofs.verdict.certify.Goals as goal

-- the tape has a fault, so nothing of it can be good

pub returns-in-Err-clause-declaration_told : goal.returns-in-Err-clause-declaration_told
returns-in-Err-clause-declaration_told g c = λ f tape fails no. absurd (ok_or_err (c.read_tape.ensures.only tape.0 tape.1) c.in-Err.is)

pub returns-in-Err-clause-certificate_told : goal.returns-in-Err-clause-certificate_told
returns-in-Err-clause-certificate_told g c = λ f tape declares has. absurd (ok_or_err (c.read_tape.ensures.only tape.0 tape.1) c.in-Err.is)

pub returns-in-Err-clause-judged : goal.returns-in-Err-clause-judged
returns-in-Err-clause-judged g c = λ v tape declares is. absurd (ok_or_err (c.read_tape.ensures.only tape.0 tape.1) c.in-Err.is)

pub returns-in-Err-clause-refusal_told : goal.returns-in-Err-clause-refusal_told
returns-in-Err-clause-refusal_told g c = λ r fails. absurd (ok_or_err (c.read_tape.ensures.only fails.0.image fails.1.is_tape) c.in-Err.is)

pub returns-in-Err-clause-valid_told : goal.returns-in-Err-clause-valid_told
returns-in-Err-clause-valid_told g c = λ valid. absurd (ok_or_err (c.read_tape.ensures.only valid.0.image valid.1.is_tape) c.in-Err.is)

-- the tape was read, so it has no fault

pub returns-in-Err-NoMemory-clause-tape_told : goal.returns-in-Err-NoMemory-clause-tape_told
returns-in-Err-NoMemory-clause-tape_told g c = λ f refused. absurd (ok_or_err c.in-Ok.is (c.read_tape.ensures.exact f refused))

pub returns-in-Err-NoMemory-parse-clause-tape_told : goal.returns-in-Err-NoMemory-parse-clause-tape_told
returns-in-Err-NoMemory-parse-clause-tape_told g c = λ f refused. absurd (ok_or_err c.in-Ok.is (c.read_tape.ensures.exact f refused))

pub returns-in-Ok-judge-clause-tape_told : goal.returns-in-Ok-judge-clause-tape_told
returns-in-Ok-judge-clause-tape_told g c = λ f refused. absurd (ok_or_err c.in-Ok.is (c.read_tape.ensures.exact f refused))

pub returns-in-Err-judge-clause-tape_told : goal.returns-in-Err-judge-clause-tape_told
returns-in-Err-judge-clause-tape_told g c = λ f refused. absurd (ok_or_err c.in-Ok.is (c.read_tape.ensures.exact f refused))

-- the declaration has a fault, which isn't a want of memory

pub returns-in-Err-parse : goal.returns-in-Err-parse
returns-in-Err-parse g c =
    let other : c.in-Err-parse.fault ≢ declaration_fault.NoMemory = search rules in
    record {
      read = tt;
      valid = tt;
      safe = tt;
      refused = ((c.in-Ok.image, c.in-Ok.ensures.tape), c.in-Err-parse.ensures.refused, other);
      tape_told = λ f refused. absurd (ok_or_err c.in-Ok.is (c.read_tape.ensures.exact f refused));
      declaration_told = λ f tape fails no. elim (c.in-Err-parse.ensures.exact f fails no) [
        | inl is ↦ inr (ap fault.Declaration (same_fault refl refl is))
        | inr is ↦ absurd (other (same_fault refl refl is))
      ];
      certificate_told = λ f tape declares has. absurd (other (c.in-Err-parse.ensures.only declares.0 declares.1));
      judged = λ v tape declares is. absurd (other (c.in-Err-parse.ensures.only declares.0 declares.1));
      refusal_told = λ r fails. absurd (other (c.in-Err-parse.ensures.only (declaration_of fails.0) fails.1.declares));
      valid_told = λ valid. absurd (other (c.in-Err-parse.ensures.only (declaration_of valid.0) valid.1.declares));
    }

-- the certificate has a fault, which isn't a want of memory

pub returns-in-Err-parse-2 : goal.returns-in-Err-parse-2
returns-in-Err-parse-2 g c =
    let other : c.in-Err-parse-2.fault ≢ certificate_fault.NoMemory = search rules in
    let has : reading c.args.certificate.now ≡ Err c.in-Err-parse-2.fault =
    elim c.in-Err-parse-2.ensures.refused [ inl is ↦ absurd (other is) | inr has ↦ has ] in
    record {
      read = tt;
      valid = tt;
      safe = tt;
      refused = ((c.in-Ok.image, c.in-Ok.ensures.tape), (_, c.in-Ok-parse.ensures.found), has);
      tape_told = λ f refused. absurd (ok_or_err c.in-Ok.is (c.read_tape.ensures.exact f refused));
      declaration_told = λ f tape fails no. elim (c.in-Ok-parse.ensures.exact f fails no) [
        | inl is ↦ absurd (ok_or_err refl is)
        | inr is ↦ absurd (ok_or_err refl is)
      ];
      certificate_told = λ f tape declares fails. inr (ap fault.Certificate (one_fault c.args.certificate.now c.in-Err-parse-2.fault f has fails));
      judged = λ ls tape declares is. not_both c.args.certificate.now ls c.in-Err-parse-2.fault is has;
      refusal_told = λ r fails. not_both c.args.certificate.now _ c.in-Err-parse-2.fault fails.1.is_certificate has;
      valid_told = λ valid. not_both c.args.certificate.now _ c.in-Err-parse-2.fault valid.1.is_certificate has;
    }

-- the certificate was read, so it has no fault

pub returns-in-Ok-judge-clause-certificate_told : goal.returns-in-Ok-judge-clause-certificate_told
returns-in-Ok-judge-clause-certificate_told g c = λ f tape declares fails. not_both c.args.certificate.now _ f c.in-Ok-parse-2.ensures.read fails

pub returns-in-Err-judge-clause-certificate_told : goal.returns-in-Err-judge-clause-certificate_told
returns-in-Err-judge-clause-certificate_told g c = λ f tape declares fails. not_both c.args.certificate.now _ f c.in-Ok-parse-2.ensures.read fails

-- every condition holds

pub returns-in-Ok-judge-clause-read : goal.returns-in-Ok-judge-clause-read
returns-in-Ok-judge-clause-read g c =
    are_read _ c.in-Ok.ensures.tape c.in-Ok-parse.ensures.found c.in-Ok-parse.ensures.routines c.in-Ok-parse-2.ensures.read

pub returns-in-Ok-judge-clause-refusal_told : goal.returns-in-Ok-judge-clause-refusal_told
returns-in-Ok-judge-clause-refusal_told g c =
    let q : Parts = record { image = c.in-Ok.image; declaration = c.in-Ok-parse.declaration; certificate = c.in-Ok-parse-2.certificate } in
    let read : AreRead c.args.tape.now c.args.declaration.now c.args.certificate.now q =
    are_read q c.in-Ok.ensures.tape c.in-Ok-parse.ensures.found c.in-Ok-parse.ensures.routines c.in-Ok-parse-2.ensures.read in
    λ r fails. absurd (none_fails c.in-Ok-judge.ensures.exact
    (first_too fails.0 q fails.1 read r fails.2))

-- a condition refuses

pub returns-in-Err-judge-clause-refused : goal.returns-in-Err-judge-clause-refused
returns-in-Err-judge-clause-refused g c =
    let q : Parts = record { image = c.in-Ok.image; declaration = c.in-Ok-parse.declaration; certificate = c.in-Ok-parse-2.certificate } in
    let read : AreRead c.args.tape.now c.args.declaration.now c.args.certificate.now q =
    are_read q c.in-Ok.ensures.tape c.in-Ok-parse.ensures.found c.in-Ok-parse.ensures.routines c.in-Ok-parse-2.ensures.read in
    (q, read, c.in-Err-judge.ensures.exact)

pub returns-in-Err-judge-clause-refusal_told : goal.returns-in-Err-judge-clause-refusal_told
returns-in-Err-judge-clause-refusal_told g c =
    let q : Parts = record { image = c.in-Ok.image; declaration = c.in-Ok-parse.declaration; certificate = c.in-Ok-parse-2.certificate } in
    let read : AreRead c.args.tape.now c.args.declaration.now c.args.certificate.now q =
    are_read q c.in-Ok.ensures.tape c.in-Ok-parse.ensures.found c.in-Ok-parse.ensures.routines c.in-Ok-parse-2.ensures.read in
    λ r fails. inr (ap fault.Refused (one_refusal fails.0 q fails.1 read r c.in-Err-judge.refusal fails.2 c.in-Err-judge.ensures.exact))

pub returns-in-Err-judge-clause-valid_told : goal.returns-in-Err-judge-clause-valid_told
returns-in-Err-judge-clause-valid_told g c =
    let q : Parts = record { image = c.in-Ok.image; declaration = c.in-Ok-parse.declaration; certificate = c.in-Ok-parse-2.certificate } in
    let read : AreRead c.args.tape.now c.args.declaration.now c.args.certificate.now q =
    are_read q c.in-Ok.ensures.tape c.in-Ok-parse.ensures.found c.in-Ok-parse.ensures.routines c.in-Ok-parse-2.ensures.read in
    λ valid. absurd (none_fails (valid_too valid.0 q valid.1 read valid.2) c.in-Err-judge.ensures.exact)
