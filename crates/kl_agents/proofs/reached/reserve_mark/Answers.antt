use Rattle.std.proofs.Common.{rules}
use Rattle.kl_agents.proofs.Marks.{reserved}
use Rattle.kl_agents.proofs.reached.reserve_mark.Goals as goal

pub returns-in_ok-insert-clause-place : goal.returns-in_ok-insert-clause-place
returns-in_ok-insert-clause-place c = reserved _ _ c.args.target (search rules) c.in_ok-insert.ensures.updates
