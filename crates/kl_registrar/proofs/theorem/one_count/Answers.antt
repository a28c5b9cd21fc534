use Rattle.kl_registrar.proofs.Counted.{counted}
use Rattle.kl_registrar.proofs.theorem.one_count.Goals as goal

pub returns : goal.returns
returns c past = counted past
