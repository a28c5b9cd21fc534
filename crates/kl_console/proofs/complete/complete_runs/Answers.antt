use Rattle.kl_console.proofs.Completing.{complete_run}
use Rattle.kl_console.proofs.complete.complete_runs.Goals as goal

pub returns : goal.returns
returns c = record { complete = complete_run }
