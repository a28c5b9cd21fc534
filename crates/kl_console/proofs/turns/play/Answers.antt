use Rattle.kl_console.proofs.Playing.{ends_unbegun}
use Rattle.kl_console.proofs.turns.play.Goals as goal

pub returns-in_default-clause-ends : goal.returns-in_default-clause-ends
returns-in_default-clause-ends g c = ends_unbegun _
