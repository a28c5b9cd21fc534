-- What is kept of an agent, and what each event makes of it.
use Rattle.std.specs.Prelude.{ℕ, ◌+◌, Bool, false, not, ◌&&◌, ◌||◌, if◌then◌else◌, ◌==◌, List, Option, None, Some, is_some}
use Rattle.std.specs.Option.{option_map, option_map_or}
use Rattle.std.specs.Ordering.{nat_cmp}
use Rattle.std.specs.Cmp.Lexicographic.{slice_cmp}
use Rattle.std.specs.BTreeMap.{BTreeMap, Updates, IsUnchanged}
use Rattle.kl_states.specs.declared.op.Op.{Op}
use Rattle.kl_states.specs.declared.op.Op.TheVariants.{Start, GetQuote, GetQuoteRetry, ProvideV, ProvideVRetry}
use Rattle.kl_states.specs.declared.op.Op.TheVariants as op
use Rattle.kl_states.specs.declared.verdict.Verdict.TheVariants.{Pass, Failed, Invalid}
use Rattle.kl_appraise.specs.declared.judged.Outcome.{Outcome as Finding}
use Rattle.kl_appraise.specs.declared.judged.Outcome.TheVariants.{Verdict, Restart}
use Rattle.kl_states.specs.declared.outcome.Outcome.{Outcome}
use Rattle.kl_states.specs.declared.outcome.Outcome.TheVariants.{Arrived, Missed, Withdrawn}
use Rattle.kl_appraise.specs.Kept.{from_of}
use Rattle.kl_appraise.specs.declared.kept.Kept.{Kept}
use Rattle.kl_appraise.specs.declared.judged.Boot.{Boot}
use Rattle.kl_agents.specs.declared.entry.Handed.{Handed}
use Rattle.kl_agents.specs.declared.entry.Passed.{Passed}
use Rattle.kl_agents.specs.declared.entry.Begun.{Begun}
use Rattle.kl_agents.specs.declared.entry.Entry.{Entry}

-- the last poll of an agent, open or not
abbrev pub latest_poll : Entry → Option ℕ
latest_poll e = option_map (λ (b : Begun). b.poll) e.latest

-- whether V is due, by what is kept of an agent
abbrev pub is_due : Entry → Bool
is_due e = e.has_v && (is_some e.pass && not e.reached)

-- the state of a live agent, by what is kept of it
abbrev pub live_op : Entry → Op
live_op e =
    if is_due e then (if e.missed == 0 then ProvideV else ProvideVRetry)
    else if e.losses == 0 then (if is_some e.latest then GetQuote else Start)
    else GetQuoteRetry

-- the state of an installed agent, by what is kept of it
abbrev pub op_of : Entry → Op
op_of e = elim e.end [ Some op ↦ op | None ↦ live_op e ]

-- what is kept of an agent that was added now
abbrev pub fresh : ℕ → ℕ → Bool → Entry
fresh g place v = record {
  generation = g;
  place = place;
  has_v = v;
  end = None;
  losses = 0;
  pass = None;
  reached = false;
  accepted = 0;
  latest = None;
  missed = 0;
  added = g;
  handed = None;
}

-- what is kept of an agent that was installed once more
abbrev pub renewed : ℕ → ℕ → Entry → Entry
renewed g place e = record (fresh g place e.has_v) { added = e.added; handed = e.handed }

-- what is kept of an agent after its tenant stopped it
abbrev pub stopped : Entry → Entry
stopped e = record e { end = Some op.TenantFailed }

-- what is kept of an agent after a poll of it began at a moment
abbrev pub polled : ℕ → ℕ → Entry → Entry
polled p at e = record e { latest = Some (record { poll = p; at = at }) }

-- what is kept of an agent after a current loss: the fifth in a row fails it
abbrev pub lost : Entry → Entry
lost e = record e { losses = e.losses + 1; end = if e.losses + 1 == 5 then Some op.Failed else e.end }

-- the pass of a poll, whose record stands at this place, by what is kept of the list that it accepts
abbrev pub passed_by : ℕ → ℕ → Option Kept → Option Passed
passed_by p place = option_map (λ (k : Kept). record { poll = p; place = place; boot = k.boot })

-- What is kept of an agent after a poll of it was closed by a current finding, whose record stands at this place; after a pass
-- also what is kept of the list that it accepts, and whether V has reached its boot.
abbrev pub found : ℕ → ℕ → Finding → Option Kept → Bool → Entry → Entry
found p place (Verdict (Pass cut)) next reached e = record e { losses = 0; pass = passed_by p place next; accepted = from_of next; reached = reached }
found p place (Verdict (Failed why)) next reached e = record e { losses = 0; pass = None; end = Some op.Failed }
found p place (Verdict (Invalid why)) next reached e = record e { losses = 0; pass = None; end = Some op.InvalidQuote }
found p place Restart next reached e = record e { losses = 0; pass = None; accepted = 0 }

-- what is kept of an agent after V was released to it
abbrev pub handed : ℕ → Entry → Entry
handed n e = record e { handed = Some n }

-- the boots are the same
abbrev pub is_boot : Boot → Boot → Bool
is_boot b c = b.reset == c.reset && b.restart == c.restart

-- the release is the agent's last since it was added
abbrev pub is_handed : ℕ → Entry → Bool
is_handed n e = option_map_or (λ m. m == n) e.handed false

-- V, once this release of the agent arrives, has reached the boot of its last pass
abbrev pub reaches_boot : ℕ → Handed → Entry → Bool
reaches_boot n h e = option_map_or (λ (k : Passed). is_handed n e && is_boot k.boot h.pass.boot) e.pass false

-- what is kept of an agent after a current delivery of V was missed: the fifth in a row fails it
abbrev pub missed_once : Entry → Entry
missed_once e = record e { missed = e.missed + 1; end = if e.missed + 1 == 5 then Some op.Failed else e.end }

-- what is kept of an agent after a release of it was settled, current or not
abbrev pub settled : Outcome → Bool → Bool → Entry → Entry
settled Arrived current hit e = record e { missed = if current then 0 else e.missed; reached = e.reached || hit }
settled Missed current hit e = if current then missed_once e else e
settled (Withdrawn why) current hit e = e

-- what is kept of an agent changes where there is something new
abbrev pub NotedIf : BTreeMap (List ℕ) Entry → BTreeMap (List ℕ) Entry → List ℕ → Option Entry → Type 0
NotedIf old new a None = IsUnchanged old new
NotedIf old new a (Some e) = Updates (slice_cmp nat_cmp) old new a (Some e)
