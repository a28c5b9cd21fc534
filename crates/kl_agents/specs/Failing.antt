-- That an agent fails by what is kept of it.
use Rattle.std.specs.Prelude.{if◌then◌else◌, ℕ, List, Option, Some, None}
use Rattle.kl_notice.specs.declared.notice.FailWhy.{FailWhy}
use Rattle.kl_history.specs.Notices.{Failure, has_failed}
use Rattle.kl_agents.specs.declared.entry.Entry.{Entry}

-- the failure of an agent, by what is kept of it from now on, where something gives a reason
abbrev pub failure_of : List ℕ → Option Entry → Option FailWhy → Option Failure
failure_of a (Some e) (Some why) = if has_failed e.end then Some (record { agent = a; generation = e.generation; why = why }) else None
failure_of a _ _ = None
