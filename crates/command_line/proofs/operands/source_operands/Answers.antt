use Rattle.std.proofs.Common.{◌∙◌, ap}
use Rattle.std.specs.Prelude.{is_some}
use Rattle.command_line.proofs.TaskLemmas.{after_source, some_now}
use Rattle.command_line.proofs.operands.source_operands.Goals as goal

pub returns : goal.returns
returns c = (
  rw c.in_ok-copied.ensures c.requires,
  after_source c.args.called c.args.found.now c.is_watched_with_operator-operated.result c.is_some.result _ _ _ _ _ c.is_watched_with_operator-operated.ensures
      (c.is_some.ensures ∙ (some_now c.last_name-needed.result ∙ ap is_some c.last_name-needed.ensures)) c.get_str-first.ensures c.get_str-second.ensures
      c.operands_behind-behind.ensures.declaration c.operands_behind-behind.ensures.last c.source_declaration-declaration.ensures c.in_ok-check_operands.ensures.others,
)
