-- The lines that a session prints: words with one space between two, numbers in decimal, and a newline at the end.
use Rattle.std.specs.Prelude.{ℕ, Bool, true, false, List, [], ◌∷◌, ◌++◌, length, flat_map, codes, decimal, Option, Some, None}
use Rattle.base64.specs.Engines.{standard}
use Rattle.base64.specs.GeneralPurpose.{encode_of}
use Rattle.hex.specs.Hex.{encode_lower}
use Rattle.kl_states.specs.declared.op.Op.{Op}
use Rattle.kl_states.specs.declared.op.State.{State}
use Rattle.kl_states.specs.Ops.{number_of, name_of}
use Rattle.kl_states.specs.Ends.{lost_text, drop_text, outcome_text}
use Rattle.kl_states.specs.Texts.{verdict_text}
use Rattle.kl_incr.specs.Kept.{TicketFields}
use Rattle.kl_appraise.specs.Kept.{from_of}
use Rattle.kl_core.specs.declared.closed.Closed.{Closed}
use Rattle.kl_core.specs.declared.closed.ClosedAs.{ClosedAs}
use Rattle.kl_core.specs.declared.closed.ClosedAs.TheVariants.{Verdict, Restart, Lost, Dropped}
use Rattle.kl_core.specs.declared.refusal.Refusal.{Refusal}
use Rattle.kl_core.specs.declared.refusal.Refusal.TheVariants.{Memory}
use Rattle.kl_core.specs.declared.settlement.Settlement.{Settlement}
use Rattle.kl_core.specs.Shares.{ShareFields}
use Rattle.kl_core.specs.Texts.{refusal_text}
use Rattle.kl_notice.specs.declared.notice.Notice.{Notice}
use Rattle.kl_notice.specs.Texts.{notice_text}
use Rattle.kl_policy.specs.Texts.{named_text}
use Rattle.kl_registrar.specs.Calls.{Registration}
use Rattle.kl_registrar.specs.declared.fault.RegFault.{RegFault}
use Rattle.kl_registrar.specs.Texts.{fault_text}
use Rattle.kl_script.specs.Words.{field_of}
use Rattle.kl_session.specs.declared.naming.NoTerms.{NoTerms}
use Rattle.kl_session.specs.declared.naming.NoTerms.TheVariants.{Policy, Mask, Static}

abbrev pub newline : List ℕ
newline = 10 ∷ []

-- ---- refusals

-- why a command names no terms
abbrev pub no_terms_text : NoTerms → List ℕ
no_terms_text (Policy why) = codes "policy " ++ named_text why
no_terms_text Mask = codes "mask"
no_terms_text Static = codes "static"

-- a command was refused, for this reason
abbrev pub refused_line : List ℕ → List ℕ
refused_line why = codes "refused " ++ why ++ newline

-- what is said of a refusal of the desk; nothing is said of want of memory, which ends a session
abbrev pub says_refused : Refusal → Option (List ℕ)
says_refused Memory = None
says_refused why = Some (refused_line (refusal_text why))

-- what is said of a refusal of the registrar
abbrev pub reg_refused_line : RegFault → List ℕ
reg_refused_line why = refused_line (fault_text why)

-- ---- what was done

-- the terms of an agent were installed
abbrev pub installed_line : List ℕ → ℕ → List ℕ
installed_line agent generation = codes "installed " ++ agent ++ codes " generation " ++ decimal generation ++ newline

-- this was done to an agent
abbrev pub done_line : List ℕ → List ℕ → List ℕ
done_line what agent = what ++ codes " " ++ agent ++ newline

abbrev pub stopped_line : List ℕ → List ℕ
stopped_line agent = done_line (codes "stopped") agent

abbrev pub removed_line : List ℕ → List ℕ
removed_line agent = done_line (codes "removed") agent

-- the moment was set
abbrev pub now_line : ℕ → List ℕ
now_line moment = codes "now " ++ decimal moment ++ newline

-- a poll began
abbrev pub polled_line : TicketFields → List ℕ
polled_line t =
    codes "poll " ++ decimal t.poll ++ codes " " ++ t.agent ++ codes " generation " ++ decimal t.generation
    ++ codes " nonce " ++ t.nonce ++ codes " from " ++ decimal (from_of t.kept) ++ newline

-- how an agent stands
abbrev pub standing_line : List ℕ → State → List ℕ
standing_line agent s =
    codes "state " ++ agent ++ codes " " ++ decimal (number_of s.op) ++ codes " " ++ name_of s.op
    ++ codes " generation " ++ decimal s.generation ++ codes " accepted " ++ decimal s.accepted ++ newline

-- ---- closed polls

abbrev pub current_text : Bool → List ℕ
current_text true = codes "current"
current_text false = codes "stale"

-- the state of an agent, where it is installed
abbrev pub op_text : Option Op → List ℕ
op_text (Some op) = decimal (number_of op)
op_text None = codes "none"

-- by what a poll was closed
abbrev pub closed_text : ℕ → ClosedAs → Bool → List ℕ
closed_text p (Verdict v) now = codes "verdict " ++ decimal p ++ codes " " ++ verdict_text v ++ codes " " ++ current_text now
closed_text p Restart now = codes "restart " ++ decimal p ++ codes " " ++ current_text now
closed_text p (Lost why) now = codes "lost " ++ decimal p ++ codes " " ++ lost_text why ++ codes " " ++ current_text now
closed_text p (Dropped why) now = codes "dropped " ++ decimal p ++ codes " " ++ drop_text why

-- a poll was closed, after which its agent is in this state
abbrev pub closed_line : Closed → List ℕ
closed_line c = closed_text c.poll c.as_what c.current ++ codes " state " ++ op_text c.op ++ newline

-- ---- releases

-- V was handed out
abbrev pub released_line : ShareFields → List ℕ
released_line s = codes "release " ++ decimal s.number ++ codes " " ++ s.agent ++ codes " poll " ++ decimal s.poll ++ newline

-- a release was settled, after which its agent is in this state
abbrev pub settled_line : Settlement → List ℕ
settled_line x =
    codes "settled " ++ decimal x.number ++ codes " " ++ outcome_text x.outcome ++ codes " " ++ current_text x.current
    ++ codes " state " ++ op_text x.op ++ newline

-- ---- what is next

-- the agent that is polled next
abbrev pub picked_line : Option (List ℕ) → List ℕ
picked_line (Some agent) = codes "due " ++ agent ++ newline
picked_line None = codes "due none" ++ newline

-- the first notice that is not delivered
abbrev pub notice_line : Option Notice → List ℕ
notice_line (Some n) = notice_text n ++ newline
notice_line None = codes "notice none" ++ newline

-- the notice of this number is delivered
abbrev pub noticed_line : ℕ → List ℕ
noticed_line number = codes "noticed " ++ decimal number ++ newline

-- this is not the number of the first notice that is not delivered
abbrev pub no_notice_line : ℕ → List ℕ
no_notice_line number = refused_line (codes "nonotice " ++ decimal number)

-- ---- the registrar

-- an agent is registered: its blob, in base64
abbrev pub blob_line : List ℕ → List ℕ → List ℕ
blob_line agent blob = codes "blob " ++ agent ++ codes " " ++ encode_of standard blob ++ newline

abbrev pub active_line : List ℕ → List ℕ
active_line agent = done_line (codes "active") agent

-- what an agent registered: its two keys in hexadecimal, and its contact as a field
abbrev pub record_line : List ℕ → Registration → List ℕ
record_line agent r =
    codes "record " ++ agent ++ codes " " ++ encode_lower r.ek ++ codes " " ++ encode_lower r.ak ++ codes " " ++ field_of r.contact ++ newline

-- how many agents there are, and their names
abbrev pub records_line : List (List ℕ) → List ℕ
records_line ids = codes "records " ++ decimal (length ids) ++ flat_map (λ id. codes " " ++ id) ids ++ newline

abbrev pub forgotten_line : List ℕ → List ℕ
forgotten_line agent = done_line (codes "forgotten") agent
