-- What follows of how a release is settled.
use Rattle.std.specs.Prelude.{ℕ, Bool, true, if◌then◌else◌, Option, Some, None}
use Rattle.std.specs.BTreeMap.{BTreeMap, Updates, IsUnchanged}
use Rattle.kl_states.specs.declared.outcome.Outcome.{Outcome}
use Rattle.kl_states.specs.declared.outcome.Outcome.TheVariants.{Arrived, Missed}
use Rattle.kl_notice.specs.declared.notice.FailWhy.{FailWhy}
use Rattle.kl_notice.specs.declared.notice.FailWhy.TheVariants.{Undelivered}
use Rattle.kl_agents.specs.declared.entry.Entry.{Entry}
use Rattle.kl_agents.specs.declared.entry.Handed.{Handed}
use Rattle.kl_agents.specs.declared.reached.Target.{Target}
use Rattle.kl_agents.specs.Reached.{target_cmp, target_of}
use Rattle.kl_agents.specs.Steps.{is_handed, reaches_boot, settled}

-- what is kept of an agent once this release of it was settled, current or not
abbrev pub settled_by : ℕ → Handed → Outcome → Bool → Entry → Entry
settled_by n h o current e = settled o current (reaches_boot n h e) e

-- the boot that V reaches by how this release is settled, where that was made since its agent was added
abbrev pub arrival : ℕ → Handed → Outcome → Option Entry → Option Target
arrival n h Arrived (Some e) = if is_handed n e then Some (target_of h.agent e.added h.pass.boot) else None
arrival n h _ _ = None

-- a mark more, where there is a boot
abbrev pub MarkedIf : BTreeMap Target Bool → BTreeMap Target Bool → Option Target → Type 0
MarkedIf old new None = IsUnchanged old new
MarkedIf old new (Some t) = Updates target_cmp old new t (Some true)

-- what is kept of an agent, where what changed it is current
abbrev pub only_if : Bool → Option Entry → Option Entry
only_if current e = if current then e else None

-- why an agent fails, where it fails by how a release is settled
abbrev pub settle_why : Outcome → Option FailWhy
settle_why Missed = Some Undelivered
settle_why _ = None
