use Rattle.command_line.proofs.requests.explain_request.Goals as goal

pub returns : goal.returns
returns c = record { code_is = c.get_str-code.ensures; number_is = c.get_str-number.ensures }
