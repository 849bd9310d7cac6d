use Rattle.verified_runs.proofs.Commands.{verified_commands_fail_at_entry_alone as law}
use Rattle.verified_runs.proofs.laws.verified_commands_fail_at_entry_alone.Goals as goal

pub returns : goal.returns
returns c = law
