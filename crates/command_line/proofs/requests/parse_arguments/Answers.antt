use Rattle.std.proofs.Common.{◌≡◌, Err, rules, subst}
use Rattle.std.proofs.lemmas.Result.{err_from_is_err_and}
use Rattle.command_line.proofs.RefusalLemmas.{found_refused, parser_refused}
use Rattle.command_line.specs.CommandLines.{IsRequestGiven}
use Rattle.command_line.specs.Refusals.{IsRefused}
use Rattle.command_line.proofs.requests.parse_arguments.Goals as goal

pub returns : goal.returns
returns g c = record {
  table = c.in_ok-table.table;
  matches = c.in_ok-matches.matches;
  parsed = c.in_ok-matches.ensures.matches;
  called = c.in-Some.name.now;
  named = c.in-Some.ensures.name;
  found = c.in-Some.found.now;
  rows = c.in-Some.ensures.rows;
  requested = subst (λ called. IsRequestGiven called c.in-Some.found.now c.in_ok-request.request) c.called_of.ensures c.in_ok-request.ensures;
  explained = c.is_given-explained.ensures;
}

pub returns-in_err-matches : goal.returns-in_err-matches
returns-in_err-matches g c = let p = err_from_is_err_and c.from_residual-in_err-matches.result c.from_residual-in_err-matches.ensures.1 in rw p.1 (parser_refused _ p.0 p.2)

pub returns-in_err-request : goal.returns-in_err-request
returns-in_err-request g c =
    let told : c.from_residual-in_err-request.result ≡ Err c.in_err-request.field-0.0 = search rules in
    rw told (found_refused _ _ (record {
      table = c.in_ok-table.table;
      matches = c.in_ok-matches.matches;
      parsed = c.in_ok-matches.ensures.matches;
      called = c.in-Some.name.now;
      named = c.in-Some.ensures.name;
      found = c.in-Some.found.now;
      rows = c.in-Some.ensures.rows;
      why = subst (λ called. IsRefused called c.in-Some.found.now c.in_err-request.field-0.0) c.called_of.ensures c.in_err-request.ensures;
    }))
