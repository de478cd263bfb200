use Rattle.command_laws.proofs.VerdictLaws.{checks_are_one, guess_is_accepted, guess_is_read, migrated_is_checked_alike}
use Rattle.command_laws.proofs.laws.checks_are_one.Goals as goal

pub returns : goal.returns
returns c = record { one = checks_are_one; guessed = guess_is_accepted; read = guess_is_read; migrated = migrated_is_checked_alike }
