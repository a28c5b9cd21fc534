-- Which histories are legal: each record meets its row, by the records before it, and what is kept has room.
use Rattle.std.specs.Prelude.{◌≡◌, ℕ, ◌+◌, ◌*◌, ◌-◌, ◌≤◌, ◌<◌, ⊤, Bool, true, false, List, [], ◌∷◌, length, count_by, Some, None, IsSome}
use Rattle.std.specs.List.{sum_by}
use Rattle.kl_quote.specs.declared.evidence.Evidence.{Evidence}
use Rattle.kl_quote.specs.Size.{total_bytes}
use Rattle.kl_appraise.specs.Terms.{TermsFields}
use Rattle.kl_appraise.specs.QuoteRules.{IsUnasked}
use Rattle.kl_appraise.specs.ListRules.{Case, check_of}
use Rattle.kl_appraise.specs.declared.judged.Outcome.TheVariants.{Verdict as Judged}
use Rattle.kl_appraise.specs.declared.judged.Outcome.TheVariants as rules
use Rattle.kl_appraise.specs.Outcome.{IsOutcome}
use Rattle.kl_history.specs.declared.record.InstallWhy.{InstallWhy}
use Rattle.kl_history.specs.declared.record.InstallWhy.TheVariants.{Add, Replace, Reactivate}
use Rattle.kl_history.specs.declared.record.Record.{Record}
use Rattle.kl_history.specs.declared.record.Record.TheVariants.{Install, Begin, Verdict, Restart, Lost, Dropped, Release, Settled, Stop, Remove}
use Rattle.kl_history.specs.Records.{History, Past, past_of, Beginning, start_of, is_open, Handing, handing_of, is_unsettled, terms_of, own, generations, polls, open_polls, open_releases}
use Rattle.kl_history.specs.LookBacks.{Installed, installed}
use Rattle.kl_history.specs.Accepted.{WasAccepted}
use Rattle.kl_history.specs.States.{is_current, is_live}
use Rattle.kl_history.specs.Releases.{MayRelease}

-- ---- Installs

abbrev pub is_add : Record → Bool
is_add (Install a g t Add) = true
is_add _ = false

abbrev pub is_remove : Record → Bool
is_remove (Remove a) = true
is_remove _ = false

-- how many agents are installed: each was added, and those that were removed are not counted
abbrev pub agents : Past → ℕ
agents past = count_by is_add past - count_by is_remove past

-- the terms are equal but for the policy
abbrev pub AgreeButForPolicy : TermsFields → TermsFields → Type 0
AgreeButForPolicy old new = new ≡ record old { policy = new.policy }

-- An Add is of an agent that is not installed, where fewer than 1,024 are; a Replace changes the policy alone, and a
-- Reactivate nothing.
abbrev pub MayInstall : Past → List ℕ → TermsFields → InstallWhy → Type 0
MayInstall past a t Add = (installed (own past a) ≡ None) × (agents past < 1024)
MayInstall past a t Replace = (i : Installed) × (installed (own past a) ≡ Some i) × AgreeButForPolicy i.terms t
MayInstall past a t Reactivate = (i : Installed) × (installed (own past a) ≡ Some i) × (t ≡ i.terms)

-- ---- Polls

-- this poll is the agent's, of this generation, and open
pub record IsBusy (past : Past) (a : List ℕ) (g p : ℕ) : Type 0 where
  pub started : Beginning
  pub began : start_of past p ≡ Some started
  pub agent : started.agent ≡ a
  pub generation : started.generation ≡ g
  pub unclosed : is_open past p ≡ true

-- what a reply to an open poll is appraised as: the terms of the generation that its Begin named, its nonce, and what was
-- accepted of its agent when it began
pub record IsCaseOf (past : Past) (p : ℕ) (e : Evidence) (yes : Bool) (c : Case) : Type 0 where
  pub started : Beginning
  pub began : start_of past p ≡ Some started
  pub unclosed : is_open past p ≡ true
  pub terms : terms_of past started.generation ≡ Some c.terms
  pub nonce : c.nonce ≡ started.nonce
  pub from : c.from ≡ started.from
  pub accepted : WasAccepted p (own past started.agent) c.prefix c.boot
  pub evidence : c.evidence ≡ e
  pub signed : c.signed ≡ yes
  -- where one of rules 1 to 3 decides, the key object is not asked
  pub unasked : IsUnasked (check_of c) → yes ≡ false

-- the poll is open; the record says current just where its agent is installed with the generation that its Begin names, and
-- is live
pub record MayClose (past : Past) (p : ℕ) (now : Bool) : Type 0 where
  pub started : Beginning
  pub began : start_of past p ≡ Some started
  pub unclosed : is_open past p ≡ true
  pub current : now ≡ is_current (own past started.agent) started.generation

-- the release is open; the record says current just where its agent is installed with the generation that it was made for, and
-- is live
pub record MaySettle (past : Past) (n : ℕ) (now : Bool) : Type 0 where
  pub handing : Handing
  pub released : handing_of past n ≡ Some handing
  pub unsettled : is_unsettled past n ≡ true
  pub current : now ≡ is_current (own past handing.agent) handing.generation

-- the row of a record, by the records before it
abbrev pub Row : Past → Record → Type 0
Row past (Install a g t w) = (g ≡ generations past + 1) × MayInstall past a t w
Row past (Begin p a g n at from) =
    (p ≡ polls past + 1) × (is_current (own past a) g ≡ true) × ((q : ℕ) → ¬ (IsBusy past a g q)) × (from ≡ 0)
Row past (Verdict p e s v c) = MayClose past p c × ((k : Case) × IsCaseOf past p e s k × IsOutcome k (Judged v))
Row past (Restart p e s c) = MayClose past p c × (s ≡ true) × ((k : Case) × IsCaseOf past p e s k × IsOutcome k rules.Restart)
Row past (Lost p w c) = MayClose past p c
Row past (Dropped p w) = is_open past p ≡ true
Row past (Release n a g p) = MayRelease past n a g p
Row past (Settled n o c) = MaySettle past n c
Row past (Stop a) = is_live (own past a) ≡ true
Row past (Remove a) = IsSome (installed (own past a))

-- ---- Room

-- the bytes that a record weighs: the evidence of a finding, and the policy of an Install that brings one
abbrev pub weight_of : Record → ℕ
weight_of (Verdict p e s v c) = total_bytes e.bank e.public e.quote e.list
weight_of (Restart p e s c) = total_bytes e.bank e.public e.quote e.list
weight_of (Install a g t Add) = length t.policy.source
weight_of (Install a g t Replace) = length t.policy.source
weight_of _ = 0

-- room for this many records more, besides one for the end of each open poll and release
abbrev pub HasRoom : Past → ℕ → Type 0
HasRoom past need = length past + open_polls past + open_releases past + need ≤ 1000000

-- room for this many bytes more, besides 16 MiB for the evidence of each open poll
abbrev pub HasBytes : Past → ℕ → Type 0
HasBytes past need = sum_by weight_of past + 16777216 * open_polls past + need ≤ 1073741824

pub record Fits (past : Past) : Type 0 where
  pub room : HasRoom past 0
  pub bytes : HasBytes past 0

-- ---- Legal histories

-- each record meets its row, and with it what is kept has room
abbrev pub IsLegalPast : Past → Type 0
IsLegalPast [] = ⊤
IsLegalPast (r ∷ earlier) = IsLegalPast earlier × Row earlier r × Fits (r ∷ earlier)

abbrev pub Legal : History → Type 0
Legal H = IsLegalPast (past_of H)
