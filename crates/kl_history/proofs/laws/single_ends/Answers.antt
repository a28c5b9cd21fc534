use Rattle.kl_history.proofs.Drawn.{ends_once}
use Rattle.kl_history.proofs.laws.single_ends.Goals as goal

pub returns : goal.returns
returns c = ends_once
