use Rattle.kl_console.proofs.OneOutput.{one_print}
use Rattle.kl_console.proofs.unique.one_output.Goals as goal

pub returns : goal.returns
returns c = record { one = one_print }
