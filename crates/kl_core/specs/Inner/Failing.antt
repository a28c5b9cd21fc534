-- What a book posts of agents that fail.
use Rattle.std.specs.Prelude.{◌≡◌, ℕ, ◌+◌, ◌≤◌}
use Rattle.std.specs.BTreeMap.{BTreeMap, btree_map_len}
use Rattle.kl_notice.specs.Outbox.{OutboxFields}
use Rattle.kl_history.specs.Records.{Past}
use Rattle.kl_history.specs.Notices.{notices_of}
use Rattle.kl_agents.specs.declared.entry.Opening.{Opening}

-- The notices of the records are posted, and there is room for one at the end of each open poll and of each release that waits for
-- its settlement.
pub record IsTold (past : Past) (o : OutboxFields) (of_polls : BTreeMap ℕ Opening) (waiting : ℕ) : Type 0 where
  pub posted : o.posted ≡ notices_of past
  pub room : btree_map_len of_polls + waiting ≤ o.spare
