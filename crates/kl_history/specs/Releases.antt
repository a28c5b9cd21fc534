-- When the key share V of an agent may be released.
use Rattle.std.specs.Prelude.{◌≡◌, ℕ, ◌+◌, true, false, List, Some}
use Rattle.kl_states.specs.declared.op.Op.{Op}
use Rattle.kl_states.specs.Ops.{is_owed}
use Rattle.kl_history.specs.Records.{Past, own, releases_made, is_unsettled}
use Rattle.kl_history.specs.States.{handed_for, IsDue, IsOp}

-- The release has the next number; V is due, and the agent's state says so, which adds that the agent is live; it names the
-- installed generation, and the poll of the last finding, a pass; and no release that was made since the agent's last Install by
-- Add is open.
pub record MayRelease (past : Past) (number : ℕ) (agent : List ℕ) (generation poll : ℕ) : Type 0 where
  pub next : number ≡ releases_made past + 1
  pub due : IsDue (own past agent)
  pub op : Op
  pub state : IsOp (own past agent) op
  pub owed : is_owed op ≡ true
  pub named : generation ≡ due.installation.generation
  pub stands : poll ≡ due.pass.poll
  pub alone : (n p : ℕ) → handed_for n (own past agent) ≡ Some p → is_unsettled past n ≡ false
