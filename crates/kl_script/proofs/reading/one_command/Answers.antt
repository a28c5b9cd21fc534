use Rattle.kl_script.proofs.Unique.{Spells-same}
use Rattle.kl_script.proofs.reading.one_command.Goals as goal

pub returns : goal.returns
returns c = Spells-same
