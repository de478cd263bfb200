use Rattle.search_commands.proofs.AgreeLemmas.{certified_is_checked, checked_is_certified, no_is_never_yes}
use Rattle.search_commands.proofs.laws.answers_agree.Goals as goal

pub returns : goal.returns
returns g c = record { verified = no_is_never_yes _; certified = certified_is_checked; checked = checked_is_certified }
