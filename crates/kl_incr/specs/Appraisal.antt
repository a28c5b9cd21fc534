-- What the appraisal of a poll's evidence finds.
use Rattle.std.specs.Prelude.{◌≡◌, ℕ, [], Bool, false, List, take, Option, Some, None}
use Rattle.kl_attest.specs.Grammar.{Quoted}
use Rattle.kl_entry.specs.Entries.{EntryFields}
use Rattle.kl_keys.specs.Told.{KeysTold}
use Rattle.kl_quote.specs.declared.evidence.Evidence.{Evidence}
use Rattle.kl_states.specs.declared.outcome.DropWhy.{DropWhy}
use Rattle.kl_states.specs.declared.outcome.DropWhy.TheVariants.{Keys, Memory, End}
use Rattle.kl_states.specs.declared.verdict.Verdict.TheVariants.{Pass, Failed, Invalid}
use Rattle.kl_appraise.specs.declared.judged.Boot.{Boot}
use Rattle.kl_appraise.specs.declared.kept.Kept.{Kept}
use Rattle.kl_appraise.specs.Asking.{Asked}
use Rattle.kl_appraise.specs.Evidence.{Attests, check_under}
use Rattle.kl_appraise.specs.Kept.{Stands, kept_case}
use Rattle.kl_appraise.specs.QuoteRules.{IsUnasked}
use Rattle.kl_appraise.specs.ListRules.{Case, boot_of, Continues}
use Rattle.kl_appraise.specs.declared.judged.Outcome.{Outcome}
use Rattle.kl_appraise.specs.declared.judged.Outcome.TheVariants.{Verdict as Judged, Restart}
use Rattle.kl_appraise.specs.Outcome.{IsOutcome}
use Rattle.kl_incr.specs.Kept.{TicketFields}

-- a ticket, the evidence of its poll's reply, the key object's answer, what was found, and what is kept of the list that a
-- pass accepts
pub record AppraisedFields : Type 0 where
  pub ticket : TicketFields
  pub evidence : Evidence
  pub signed : Bool
  pub finding : Outcome
  pub next : Option Kept

-- what a reply to the ticket's poll is appraised as, where these entries were accepted under this boot when the poll began
abbrev pub case_of : TicketFields → List EntryFields → Boot → Evidence → Bool → Case
case_of t prefix boot e signed = kept_case t.terms t.nonce t.kept prefix boot e signed

-- what is kept after a pass stands for the whole list up to its cut, under the boot that the quote signs; after another
-- finding nothing is kept
abbrev pub Keeps : TicketFields → List EntryFields → Evidence → Outcome → Option Kept → Type 0
Keeps t prefix e (Judged (Pass cut)) next =
    (k : Kept) × (whole : List EntryFields) × (quoted : Quoted) × (next ≡ Some k) × Continues prefix e whole × Attests e.quote quoted
    × Stands next (take cut whole) (boot_of quoted) t.terms
Keeps t prefix e (Judged (Failed why)) next = next ≡ None
Keeps t prefix e (Judged (Invalid why)) next = next ≡ None
Keeps t prefix e Restart next = next ≡ None

-- The finding is what the seventeen rules name, whatever list was accepted when the poll began, if what the ticket keeps
-- stands for it; the signature counts as none where one of rules 1 to 3 decides; and what is kept stands.
pub record IsAppraisal (t : TicketFields) (e : Evidence) (yes : Bool) (found : Outcome) (left : Option Kept) : Type 0 where
  pub outcome : (prefix : List EntryFields) (boot : Boot) → Stands t.kept prefix boot t.terms → IsOutcome (case_of t prefix boot e yes) found
  pub unasked : IsUnasked (check_under t.terms t.nonce e yes) → yes ≡ false
  pub keeps : (prefix : List EntryFields) (boot : Boot) → Stands t.kept prefix boot t.terms → Keeps t prefix e found left

-- Why a ticket comes back: the key object was to be asked, and met a fault when it was; or memory ran out.
abbrev pub IsBlamed : DropWhy → KeysTold → KeysTold → TicketFields → Evidence → Type 0
IsBlamed Keys old new t e = (¬ IsUnasked (check_under t.terms t.nonce e false)) × Asked old new t.terms.ak e.quote None
IsBlamed Memory old new t e = new.calls.faults ≡ old.calls.faults
IsBlamed End old new t e = ⊥

-- How many entries were measured where there is no outcome: none at a fault of the key object, and none for want of memory where the
-- policy has no exclude patterns.
abbrev pub IsIdle : DropWhy → TicketFields → ℕ → ℕ → Type 0
IsIdle Keys t before after = after ≡ before
IsIdle Memory t before after = t.terms.policy.patterns ≡ [] → after ≡ before
IsIdle End t before after = ⊥
