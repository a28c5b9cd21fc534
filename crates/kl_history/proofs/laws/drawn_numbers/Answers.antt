use Rattle.kl_history.proofs.Drawn.{numbers_once}
use Rattle.kl_history.proofs.laws.drawn_numbers.Goals as goal

pub returns : goal.returns
returns c = numbers_once
