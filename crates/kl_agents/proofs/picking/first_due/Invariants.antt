use Rattle.std.proofs.Common.{◌≡◌}
use Rattle.kl_agents.specs.Picking.{first_due}
use Rattle.kl_agents.proofs.FirstDue.{first_of}
use Rattle.kl_agents.proofs.picking.first_due.Given as goal

-- the first so far, and of those that are left, is that of all
abbrev pub invariant-loop-agent : goal.invariant-loop-agent
invariant-loop-agent l = first_of l.first (first_due l.openings l.now l.agent-iterator) ≡ first_due l.openings l.now l.agents.entries
