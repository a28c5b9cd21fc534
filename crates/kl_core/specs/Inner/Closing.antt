-- What follows of what closes a poll.
use Rattle.std.specs.Prelude.{ℕ, Bool, Option, Some, None}
use Rattle.kl_quote.specs.Size.{total_bytes}
use Rattle.std.specs.Option.{option_map}
use Rattle.kl_appraise.specs.declared.kept.Kept.{Kept}
use Rattle.kl_appraise.specs.declared.judged.Boot.{Boot}
use Rattle.kl_appraise.specs.declared.judged.Outcome.TheVariants as finding
use Rattle.kl_notice.specs.declared.notice.FailWhy.{FailWhy}
use Rattle.kl_notice.specs.declared.notice.FailWhy.TheVariants as failed_by
use Rattle.kl_incr.specs.Kept.{TicketFields}
use Rattle.kl_incr.specs.Appraisal.{IsAppraisal}
use Rattle.kl_history.specs.declared.record.Record.{Record}
use Rattle.kl_core.specs.declared.closed.ClosedAs.{ClosedAs}
use Rattle.kl_core.specs.declared.closed.ClosedAs.TheVariants as closed_as
use Rattle.kl_core.specs.declared.closing.Close.{Close}
use Rattle.kl_core.specs.declared.closing.Close.TheVariants.{Found, Lost, Dropped}
use Rattle.kl_agents.specs.declared.entry.Entry.{Entry}
use Rattle.kl_core.specs.Closes.{closed_by, record_by, lost_record, dropped_record}
use Rattle.kl_agents.specs.Steps.{found, lost}

-- by what it closes a poll, in short
abbrev pub close_as : Close → ClosedAs
close_as (Found e signed f next) = closed_by f
close_as (Lost why) = closed_as.Lost why
close_as (Dropped why) = closed_as.Dropped why

-- why the agent fails, where it fails by this
abbrev pub close_why : Close → Option FailWhy
close_why (Found e signed (finding.Verdict v) next) = Some (failed_by.Verdict v)
close_why (Found e signed finding.Restart next) = None
close_why (Lost why) = Some failed_by.Losses
close_why (Dropped why) = None

-- the record of a poll that it closes, current or not
abbrev pub close_record : ℕ → Close → Bool → Record
close_record p (Found e signed f next) = record_by p e signed f
close_record p (Lost why) = lost_record p why
close_record p (Dropped why) = dropped_record p why

-- how many bytes that record weighs
abbrev pub close_weight : Close → ℕ
close_weight (Found e signed f next) = total_bytes e.bank e.public e.quote e.list
close_weight (Lost why) = 0
close_weight (Dropped why) = 0

-- the boot that the quote of a pass signs
abbrev pub close_boot : Close → Option Boot
close_boot (Found e signed f next) = option_map (λ (k : Kept). k.boot) next
close_boot (Lost why) = None
close_boot (Dropped why) = None

-- What is kept of an agent once it closed a poll that is current, whose record stands at this place; V has reached the boot that
-- a pass signs, or not.
abbrev pub after_close : ℕ → ℕ → Bool → Close → Entry → Entry
after_close p place reached (Found e signed f next) entry = found p place f next reached entry
after_close p place reached (Lost why) entry = lost entry
after_close p place reached (Dropped why) entry = entry

-- what was found of evidence is what the rules say of it for this ticket
abbrev pub IsCloseOf : TicketFields → Close → Type 0
IsCloseOf t (Found e signed f next) = IsAppraisal t e signed f next
IsCloseOf t (Lost why) = Unit {0}
IsCloseOf t (Dropped why) = Unit {0}
