-- Failures, and the notice that each makes.
use Rattle.std.specs.Prelude.{ℕ, ◌+◌, Bool, true, false, List, [], ◌∷◌, ◌++◌, length, if◌then◌else◌, ◌&&◌, Option, Some, None}
use Rattle.std.specs.Option.{option_map}
use Rattle.kl_states.specs.declared.op.Op.TheVariants as op
use Rattle.kl_states.specs.declared.op.Op.{Op}
use Rattle.kl_notice.specs.declared.notice.Notice.{Notice}
use Rattle.kl_notice.specs.declared.notice.FailWhy.{FailWhy}
use Rattle.kl_notice.specs.declared.notice.FailWhy.TheVariants as failed_by
use Rattle.kl_history.specs.declared.record.Record.{Record}
use Rattle.kl_history.specs.declared.record.Record.TheVariants as record_of
use Rattle.kl_history.specs.Records.{History, Past, past_of, Beginning, start_of, Handing, handing_of, own}
use Rattle.kl_history.specs.LookBacks.{Installed, installed}
use Rattle.kl_history.specs.States.{ended, is_live}

-- what fails: the agent, its installed generation, and why
pub record Failure : Type 0 where
  pub agent : List ℕ
  pub generation : ℕ
  pub why : FailWhy

-- the reason that a record can give for a failure, and the agent that it belongs to
abbrev pub agent_and_reason : Past → Record → Option (List ℕ × FailWhy)
agent_and_reason earlier (record_of.Verdict p e s v c) = option_map (λ (b : Beginning). (b.agent, failed_by.Verdict v)) (start_of earlier p)
agent_and_reason earlier (record_of.Lost p w c) = option_map (λ (b : Beginning). (b.agent, failed_by.Losses)) (start_of earlier p)
agent_and_reason earlier (record_of.Settled n o c) = option_map (λ (h : Handing). (h.agent, failed_by.Undelivered)) (handing_of earlier n)
agent_and_reason earlier _ = None

-- the state is one of those in which an agent has failed
abbrev pub has_failed : Option Op → Bool
has_failed (Some op.Failed) = true
has_failed (Some op.InvalidQuote) = true
has_failed _ = false

-- the failure of an agent that was live before a record and has failed after it
abbrev pub downfall : List ℕ → FailWhy → Past → Past → Option Failure
downfall a why before after =
    if is_live before && has_failed (ended after)
    then option_map (λ (i : Installed). record { agent = a; generation = i.generation; why = why }) (installed after)
    else None

-- the failure that a record brings, where it brings a live agent to a state in which it has failed
abbrev pub failure : Past → Record → Option Failure
failure earlier r = elim (agent_and_reason earlier r) [ None ↦ None | Some b ↦ downfall b.0 b.1 (own earlier b.0) (own (r ∷ earlier) b.0) ]

-- the notice of a number that tells a failure
abbrev pub notice_of : ℕ → Failure → Notice
notice_of n f = record { number = n; agent = f.agent; generation = f.generation; why = f.why }

-- the failure that a notice tells
abbrev pub told_by : Notice → Failure
told_by n = record { agent = n.agent; generation = n.generation; why = n.why }

-- each failure has a notice with the next number, from 1
abbrev pub with_failure : List Notice → Option Failure → List Notice
with_failure ns None = ns
with_failure ns (Some f) = ns ++ notice_of (length ns + 1) f ∷ []

-- the notices of a history, the oldest first: one for each failure
abbrev pub notices_of : Past → List Notice
notices_of [] = []
notices_of (r ∷ earlier) = with_failure (notices_of earlier) (failure earlier r)

abbrev pub notices : History → List Notice
notices H = notices_of (past_of H)
