-- Worked histories of one agent, and what is said of it in each.
use Rattle.std.specs.Prelude.{◌≡◌, ◌≢◌, ℕ, ◌≤◌, Bool, true, false, List, [], ◌∷◌, ◌++◌, length, take, codes, Some, None, IsSome}
use Rattle.kl_entry.specs.Entries.{EntryFields}
use Rattle.kl_entry.specs.Lines.{AreEntries}
use Rattle.kl_quote.specs.declared.evidence.Evidence.{Evidence}
use Rattle.kl_states.specs.declared.op.Op.{Op}
use Rattle.kl_states.specs.declared.op.Op.TheVariants as op
use Rattle.kl_states.specs.declared.outcome.DropWhy.TheVariants as dropped
use Rattle.kl_states.specs.declared.outcome.LostWhy.{LostWhy}
use Rattle.kl_states.specs.declared.outcome.LostWhy.TheVariants as lost
use Rattle.kl_states.specs.declared.outcome.Outcome.{Outcome}
use Rattle.kl_states.specs.declared.outcome.Outcome.TheVariants.{Arrived, Missed, Withdrawn}
use Rattle.kl_states.specs.declared.verdict.Verdict.{Verdict as AnyVerdict}
use Rattle.kl_states.specs.declared.verdict.Verdict.TheVariants.{Pass, Failed, Invalid}
use Rattle.kl_states.specs.declared.verdict.FailedCause.{FailedCause}
use Rattle.kl_states.specs.declared.verdict.InvalidCause.{InvalidCause}
use Rattle.kl_appraise.specs.declared.judged.Boot.{Boot}
use Rattle.kl_appraise.specs.Terms.{TermsFields}
use Rattle.kl_appraise.specs.QuoteRules.{IsUnasked}
use Rattle.kl_appraise.specs.ListRules.{Case, check_of}
use Rattle.kl_appraise.specs.Outcome.{IsVerdict, whole_case}
use Rattle.kl_history.specs.declared.record.InstallWhy.TheVariants.{Add, Replace, Reactivate}
use Rattle.kl_history.specs.declared.record.Record.{Record}
use Rattle.kl_history.specs.declared.record.Record.TheVariants.{Install, Begin, Verdict, Restart, Lost, Dropped, Release, Settled, Stop, Remove}
use Rattle.kl_history.specs.Records.{History, Past, past_of, own}
use Rattle.kl_history.specs.LookBacks.{losses, missed}
use Rattle.kl_history.specs.Accepted.{no_boot, SignsBoot, IsAccepted, WasAccepted}
use Rattle.kl_history.specs.States.{HasOp}
use Rattle.kl_history.specs.Releases.{MayRelease}
use Rattle.kl_history.specs.Legal.{AgreeButForPolicy, Row, Legal}
use Rattle.kl_notice.specs.declared.notice.Notice.{Notice}
use Rattle.kl_notice.specs.declared.notice.FailWhy.{FailWhy}
use Rattle.kl_notice.specs.declared.notice.FailWhy.TheVariants as failed_by
use Rattle.kl_history.specs.Notices.{notices}

-- ---- What is given

-- the agent
abbrev pub a1 : List ℕ
a1 = codes "a1"

-- the terms under which it is added, with a key share V, and those that replace them, with another policy; the nonce and the
-- moment of each poll
pub record Given : Type 0 where
  pub terms : TermsFields
  pub others : TermsFields
  pub nonce : ℕ → List ℕ
  pub at : ℕ → ℕ
  pub has_v : IsSome terms.v
  pub differ : AgreeButForPolicy terms others
  pub small : length terms.policy.source ≤ 16777216
  pub others_small : length others.policy.source ≤ 16777216

-- a reply to a poll: its evidence, and what the key object says of its signature
pub record Reply : Type 0 where
  pub evidence : Evidence
  pub signed : Bool

-- the rules find this of a reply's whole list, by the nonce of a poll
pub record IsFound (t : TermsFields) (nonce : List ℕ) (r : Reply) (v : AnyVerdict) : Type 0 where
  pub verdict : IsVerdict (whole_case t nonce r.evidence r.signed) v
  pub unasked : IsUnasked (check_of (whole_case t nonce r.evidence r.signed)) → r.signed ≡ false

-- ---- Records

abbrev pub added : Given → ℕ → Record
added x g = Install a1 g x.terms Add

abbrev pub replaced : Given → ℕ → Record
replaced x g = Install a1 g x.others Replace

abbrev pub reactivated : Given → ℕ → Record
reactivated x g = Install a1 g x.terms Reactivate

abbrev pub begun : Given → ℕ → ℕ → Record
begun x p g = Begin p a1 g (x.nonce p) (x.at p) 0

abbrev pub verdict : ℕ → Reply → AnyVerdict → Bool → Record
verdict p r v now = Verdict p r.evidence r.signed v now

abbrev pub lost_poll : ℕ → Record
lost_poll p = Lost p lost.Named true

-- ---- What is said of the agent

abbrev pub own_of : History → Past
own_of H = own (past_of H) a1

abbrev pub IsIn : History → Op → Type 0
IsIn H o = HasOp (own_of H) (Some o)

abbrev pub Accepts : History → List EntryFields → Boot → Type 0
Accepts H entries boot = IsAccepted (own_of H) entries boot

-- the record may come next
abbrev pub MayCome : History → Record → Type 0
MayCome H r = Row (past_of H) r

-- The poll is open, and each close of it that says whether it is current says this.
pub record ClosesAs (H : History) (p : ℕ) (now : Bool) : Type 0 where
  pub may_lose : (why : LostWhy) → MayCome H (Lost p why now)
  pub loses : (why : LostWhy) (c : Bool) → MayCome H (Lost p why c) → c ≡ now
  pub finds : (e : Evidence) (s : Bool) (v : AnyVerdict) (c : Bool) → MayCome H (Verdict p e s v c) → c ≡ now
  pub restarts : (e : Evidence) (s c : Bool) → MayCome H (Restart p e s c) → c ≡ now

-- and so the end of a delivery
pub record SettlesAs (H : History) (n : ℕ) (now : Bool) : Type 0 where
  pub may_settle : (o : Outcome) → MayCome H (Settled n o now)
  pub settles : (o : Outcome) (c : Bool) → MayCome H (Settled n o c) → c ≡ now

-- no poll of it may begin, and no release of V to it may be made
abbrev pub IsNotBegun : History → Type 0
IsNotBegun H = (p g : ℕ) (n : List ℕ) (at from : ℕ) → ¬ (MayCome H (Begin p a1 g n at from))

abbrev pub IsNotReleased : History → Type 0
IsNotReleased H = (n g p : ℕ) → ¬ (MayRelease (past_of H) n a1 g p)

-- the one notice
abbrev pub one_notice : ℕ → FailWhy → List Notice
one_notice g why = record { number = 1; agent = a1; generation = g; why = why } ∷ []

-- ---- A first pass

abbrev pub polled : Given → History
polled x = added x 1 ∷ begun x 1 1 ∷ []

abbrev pub passed : Given → Reply → History
passed x r = polled x ++ verdict 1 r (Pass 2) true ∷ []

-- The agent is polled, and the poll passes: the list is accepted up to the cut, and V may be released, also where the next
-- poll is lost before that. Each poll asks for the whole list. Once V arrived, it is due no more.
pub record FirstPass (x : Given) (r : Reply) : Type 0 where
  pub start : IsIn (added x 1 ∷ []) op.Start
  pub polling : IsIn (polled x) op.GetQuote
  pub closes : ClosesAs (polled x) 1 true
  pub legal : Legal (passed x r)
  pub state : IsIn (passed x r) op.ProvideV
  pub accepts : (es : List EntryFields) (boot : Boot) → AreEntries r.evidence.list es → SignsBoot r.evidence boot → Accepts (passed x r) (take 2 es) boot
  pub whole : (n : List ℕ) (at from : ℕ) → MayCome (passed x r) (Begin 2 a1 1 n at from) → from ≡ 0
  pub releases : MayCome (passed x r) (Release 1 a1 1 1)
  pub lost_then : IsIn (passed x r ++ begun x 2 1 ∷ lost_poll 2 ∷ []) op.ProvideV
  pub releases_then : MayCome (passed x r ++ begun x 2 1 ∷ lost_poll 2 ∷ []) (Release 1 a1 1 1)
  pub arrived : (boot : Boot) → SignsBoot r.evidence boot → IsIn (passed x r ++ Release 1 a1 1 1 ∷ Settled 1 Arrived true ∷ []) op.GetQuote
  pub none_told : notices (passed x r) ≡ []

-- Where there is no V, a pass leaves nothing due.
abbrev pub PassWithoutShare : TermsFields → List ℕ → ℕ → Reply → Type 0
PassWithoutShare t nonce at r = t.v ≡ None → IsIn (Install a1 1 t Add ∷ Begin 1 a1 1 nonce at 0 ∷ verdict 1 r (Pass 2) true ∷ []) op.GetQuote

-- ---- A late pass and a late failure

abbrev pub late : Given → Reply → AnyVerdict → History
late x r v = polled x ++ replaced x 2 ∷ verdict 1 r v false ∷ []

-- Terms are replaced, of which the policy alone changes, while a poll is open: its pass is stale and accepts nothing, the agent
-- is at its start, and the next poll is of the new generation.
pub record LatePass (x : Given) (r : Reply) : Type 0 where
  pub policy_alone : (t : TermsFields) → MayCome (polled x) (Install a1 2 t Replace) → t ≡ record x.terms { policy = t.policy }
  pub closes : ClosesAs (polled x ++ replaced x 2 ∷ []) 1 false
  pub legal : Legal (late x r (Pass 2))
  pub state : IsIn (late x r (Pass 2)) op.Start
  pub accepts : Accepts (late x r (Pass 2)) [] no_boot
  pub not_released : IsNotReleased (late x r (Pass 2))
  pub next : MayCome (late x r (Pass 2)) (begun x 2 2)

-- A late failure is stale and makes no notice; where nothing was replaced, it makes one.
pub record LateFailure (x : Given) (r : Reply) (why : FailedCause) : Type 0 where
  pub legal : Legal (late x r (Failed why))
  pub state : IsIn (late x r (Failed why)) op.Start
  pub none_told : notices (late x r (Failed why)) ≡ []
  pub in_time : IsIn (polled x ++ verdict 1 r (Failed why) true ∷ []) op.Failed
  pub told : notices (polled x ++ verdict 1 r (Failed why) true ∷ []) ≡ one_notice 1 (failed_by.Verdict (Failed why))

abbrev pub invalid : Given → Reply → InvalidCause → History
invalid x r why = polled x ++ verdict 1 r (Invalid why) true ∷ []

-- A quote that proves nothing: one notice, and no poll begins any more.
pub record InvalidQuote (x : Given) (r : Reply) (why : InvalidCause) : Type 0 where
  pub legal : Legal (invalid x r why)
  pub state : IsIn (invalid x r why) op.InvalidQuote
  pub told : notices (invalid x r why) ≡ one_notice 1 (failed_by.Verdict (Invalid why))
  pub not_begun : IsNotBegun (invalid x r why)
  pub not_released : IsNotReleased (invalid x r why)

abbrev pub failed_twice : Given → Reply → Reply → FailedCause → FailedCause → History
failed_twice x r q why why_too = polled x ++ replaced x 2 ∷ begun x 2 2 ∷ verdict 2 q (Failed why_too) true ∷ verdict 1 r (Failed why) false ∷ []

-- The stale poll of an agent that failed fails too: there is no second notice.
pub record SecondFailure (x : Given) (r q : Reply) (why why_too : FailedCause) : Type 0 where
  pub legal : Legal (failed_twice x r q why why_too)
  pub state : IsIn (failed_twice x r q why why_too) op.Failed
  pub told : notices (failed_twice x r q why why_too) ≡ one_notice 2 (failed_by.Verdict (Failed why_too))

-- ---- Removed, and added again

abbrev pub added_again : Given → Reply → History
added_again x r = polled x ++ Remove a1 ∷ added x 2 ∷ begun x 2 2 ∷ verdict 1 r (Pass 2) false ∷ []

abbrev pub gone : Given → Reply → History
gone x r = polled x ++ Remove a1 ∷ verdict 1 r (Pass 2) false ∷ []

-- The agent is removed and added again while a poll is open: its pass is stale, and the poll of the new generation stays open.
-- Where it is not added again, it has no state.
pub record AddedAgain (x : Given) (r : Reply) : Type 0 where
  pub closes : ClosesAs (polled x ++ Remove a1 ∷ added x 2 ∷ begun x 2 2 ∷ []) 1 false
  pub legal : Legal (added_again x r)
  pub state : IsIn (added_again x r) op.GetQuote
  pub accepts : Accepts (added_again x r) [] no_boot
  pub still_closes : ClosesAs (added_again x r) 2 true
  pub legal_gone : Legal (gone x r)
  pub none : HasOp (own_of (gone x r)) None

-- ---- Five losses

abbrev pub four_losses : Given → History
four_losses x =
    added x 1 ∷ begun x 1 1 ∷ lost_poll 1 ∷ begun x 2 1 ∷ lost_poll 2 ∷ begun x 3 1 ∷ lost_poll 3 ∷ begun x 4 1 ∷ lost_poll 4 ∷ []

abbrev pub five_losses : Given → History
five_losses x = four_losses x ++ begun x 5 1 ∷ lost_poll 5 ∷ []

-- The fifth loss in a row fails the agent, and makes one notice. What is dropped neither counts nor ends the count, and the next
-- poll may begin; a finding ends it. Made live again, the agent is at its start.
pub record FiveLosses (x : Given) (r : Reply) : Type 0 where
  pub four : IsIn (four_losses x) op.GetQuoteRetry
  pub four_lost : losses (own_of (four_losses x)) ≡ 4
  pub none_told : notices (four_losses x) ≡ []
  pub legal : Legal (five_losses x)
  pub state : IsIn (five_losses x) op.Failed
  pub told : notices (five_losses x) ≡ one_notice 1 failed_by.Losses
  pub not_begun : IsNotBegun (five_losses x)
  pub dropped_between : IsIn (four_losses x ++ begun x 5 1 ∷ Dropped 5 dropped.Keys ∷ []) op.GetQuoteRetry
  pub begins_then : MayCome (four_losses x ++ begun x 5 1 ∷ Dropped 5 dropped.Keys ∷ []) (begun x 6 1)
  pub then_lost : IsIn (four_losses x ++ begun x 5 1 ∷ Dropped 5 dropped.Keys ∷ begun x 6 1 ∷ lost_poll 6 ∷ []) op.Failed
  pub found_between : losses (own_of (four_losses x ++ begun x 5 1 ∷ verdict 5 r (Pass 2) true ∷ [])) ≡ 0
  pub again : MayCome (five_losses x) (reactivated x 2)
  pub unchanged : (t : TermsFields) → MayCome (five_losses x) (Install a1 2 t Reactivate) → t ≡ x.terms
  pub at_start : IsIn (five_losses x ++ reactivated x 2 ∷ []) op.Start

-- ---- Released, and replaced

abbrev pub released : Given → Reply → History
released x r = passed x r ++ Release 1 a1 1 1 ∷ []

abbrev pub settled_late : Given → Reply → History
settled_late x r = released x r ++ replaced x 2 ∷ Settled 1 Arrived false ∷ []

abbrev pub passed_again : Given → Reply → Reply → History
passed_again x r q = settled_late x r ++ begun x 2 2 ∷ verdict 2 q (Pass 2) true ∷ []

abbrev pub arrived_before : Given → Reply → Reply → History
arrived_before x r q = released x r ++ Settled 1 Arrived true ∷ replaced x 2 ∷ begun x 2 2 ∷ verdict 2 q (Pass 2) true ∷ []

abbrev pub passed_afresh : Given → Reply → Reply → History
passed_afresh x r q = released x r ++ Settled 1 Arrived true ∷ Remove a1 ∷ added x 2 ∷ begun x 2 2 ∷ verdict 2 q (Pass 2) true ∷ []

abbrev pub sent_and_replaced : Given → Reply → Reply → History
sent_and_replaced x r q = released x r ++ replaced x 2 ∷ begun x 2 2 ∷ verdict 2 q (Pass 2) true ∷ []

abbrev pub sent_and_added : Given → Reply → Reply → History
sent_and_added x r q = released x r ++ Remove a1 ∷ added x 2 ∷ begun x 2 2 ∷ verdict 2 q (Pass 2) true ∷ []

-- Terms are replaced while V is on its way: its arrival is stale, and counts for the boot that it reached. So a pass of that
-- boot leaves nothing due, and a pass of another boot does. An arrival before the replacement counts too, but not one before the
-- agent was removed and added again. Until V arrived it is not released again, but where the agent was added again: then a
-- release of before neither bars another nor counts when it arrives.
pub record ReleasedAndReplaced (x : Given) (r q : Reply) : Type 0 where
  pub busy : IsNotReleased (released x r)
  pub settles : SettlesAs (released x r ++ replaced x 2 ∷ []) 1 false
  pub legal : Legal (passed_again x r q)
  pub at_start : IsIn (settled_late x r) op.Start
  pub same_boot : (boot : Boot) → SignsBoot r.evidence boot → SignsBoot q.evidence boot → IsIn (passed_again x r q) op.GetQuote
  pub other_boot : (first second : Boot) → SignsBoot r.evidence first → SignsBoot q.evidence second → second ≢ first → IsIn (passed_again x r q) op.ProvideV
  pub in_time : (boot : Boot) → SignsBoot r.evidence boot → SignsBoot q.evidence boot → IsIn (arrived_before x r q) op.GetQuote
  pub afresh : IsIn (passed_afresh x r q) op.ProvideV
  pub busy_still : IsNotReleased (sent_and_replaced x r q)
  pub releases_anew : MayCome (sent_and_added x r q) (Release 2 a1 2 2)
  pub arrives_late : IsIn (sent_and_added x r q ++ Settled 1 Arrived false ∷ []) op.ProvideV

-- ---- Undelivered

abbrev pub missed_delivery : ℕ → History
missed_delivery n = Release n a1 1 1 ∷ Settled n Missed true ∷ []

abbrev pub four_missed : Given → Reply → History
four_missed x r = passed x r ++ missed_delivery 1 ++ missed_delivery 2 ++ missed_delivery 3 ++ missed_delivery 4

abbrev pub five_missed : Given → Reply → History
five_missed x r = four_missed x r ++ missed_delivery 5

-- The fifth delivery in a row that is missed fails the agent, and makes one notice. What is withdrawn neither counts nor ends
-- the count, and V may be released again; an arrival ends it.
pub record Undelivered (x : Given) (r : Reply) : Type 0 where
  pub one : IsIn (passed x r ++ missed_delivery 1) op.ProvideVRetry
  pub four : IsIn (four_missed x r) op.ProvideVRetry
  pub four_late : missed (own_of (four_missed x r)) ≡ 4
  pub withdrawn : IsIn (four_missed x r ++ Release 5 a1 1 1 ∷ Settled 5 (Withdrawn dropped.Keys) true ∷ []) op.ProvideVRetry
  pub releases_then : MayCome (four_missed x r ++ Release 5 a1 1 1 ∷ Settled 5 (Withdrawn dropped.Keys) true ∷ []) (Release 6 a1 1 1)
  pub then_arrived : missed (own_of (four_missed x r ++ Release 5 a1 1 1 ∷ Settled 5 Arrived true ∷ [])) ≡ 0
  pub legal : Legal (five_missed x r)
  pub state : IsIn (five_missed x r) op.Failed
  pub told : notices (five_missed x r) ≡ one_notice 1 failed_by.Undelivered

-- ---- Rebooted

-- V arrived, and then the agent is polled again
abbrev pub polled_again : Given → Reply → History
polled_again x r = released x r ++ Settled 1 Arrived true ∷ begun x 2 1 ∷ []

abbrev pub restarted : Given → Reply → Reply → History
restarted x r q = polled_again x r ++ Restart 2 q.evidence q.signed true ∷ []

abbrev pub passed_anew : Given → Reply → Reply → History
passed_anew x r q = polled_again x r ++ verdict 2 q (Pass 2) true ∷ []

-- the rules find this of the second reply, behind what the first pass accepted
abbrev pub second_case : Given → Reply → List EntryFields → Boot → Case
second_case x q es boot = record { terms = x.terms; nonce = x.nonce 2; from = 0; prefix = take 2 es; boot = boot; evidence = q.evidence; signed = q.signed }

pub record IsFoundNext (x : Given) (q : Reply) (es : List EntryFields) (boot : Boot) (v : AnyVerdict) : Type 0 where
  pub verdict : IsVerdict (second_case x q es boot) v
  pub unasked : IsUnasked (check_of (second_case x q es boot)) → q.signed ≡ false

-- The machine boots anew, and the reply shows the entries of the new boot. By a Restart nothing is accepted any more, nothing
-- is due, and polling goes on. By a pass of the whole list that list is accepted, and V is due where the boot is another.
pub record Rebooted (x : Given) (r q : Reply) (es fs : List EntryFields) (first second : Boot) : Type 0 where
  pub restart_state : IsIn (restarted x r q) op.GetQuote
  pub restart_accepts : Accepts (restarted x r q) [] no_boot
  pub restart_released : IsNotReleased (restarted x r q)
  pub restart_next : MayCome (restarted x r q) (begun x 3 1)
  pub accepted : Accepts (polled_again x r) (take 2 es) first
  pub pass_legal : IsFoundNext x q es first (Pass 2) → Legal (passed_anew x r q)
  pub pass_accepts : Accepts (passed_anew x r q) (take 2 fs) second
  pub pass_state : second ≢ first → IsIn (passed_anew x r q) op.ProvideV
  pub same_state : second ≡ first → IsIn (passed_anew x r q) op.GetQuote

-- ---- A list that is continued

-- the second poll asks from entry 2 on
abbrev pub asked_on : Given → Reply → History
asked_on x r = passed x r ++ Begin 2 a1 1 (x.nonce 2) (x.at 2) 2 ∷ []

-- A reply that begins behind the two accepted entries continues them. Where terms are replaced in between, it is still appraised
-- behind what was accepted when its poll began, and nothing is accepted after it.
pub record Continued (x : Given) (r q : Reply) (d0 d1 d3 : EntryFields) (first second : Boot) : Type 0 where
  pub accepts : Accepts (asked_on x r ++ verdict 2 q (Pass 3) true ∷ []) (d0 ∷ d1 ∷ d3 ∷ []) second
  pub was : WasAccepted 2 (own_of (asked_on x r ++ replaced x 2 ∷ [])) (d0 ∷ d1 ∷ []) first
  pub stale : Accepts (asked_on x r ++ replaced x 2 ∷ verdict 2 q (Pass 3) false ∷ []) [] no_boot

-- ---- Stopped

abbrev pub stopped : Given → Reply → History
stopped x r = polled x ++ Stop a1 ∷ verdict 1 r (Pass 2) false ∷ []

-- The tenant stops the agent, once: a poll that is open closes as stale, no other begins, and there is no notice. Made live
-- again, it is at its start.
pub record Stopped (x : Given) (r : Reply) : Type 0 where
  pub closes : ClosesAs (polled x ++ Stop a1 ∷ []) 1 false
  pub legal : Legal (stopped x r)
  pub state : IsIn (stopped x r) op.TenantFailed
  pub none_told : notices (stopped x r) ≡ []
  pub once : ¬ (MayCome (stopped x r) (Stop a1))
  pub not_begun : IsNotBegun (stopped x r)
  pub not_released : IsNotReleased (stopped x r)
  pub again : MayCome (stopped x r) (reactivated x 2)
  pub at_start : IsIn (stopped x r ++ reactivated x 2 ∷ []) op.Start

-- ---- Two agents

-- the other agent
abbrev pub b1 : List ℕ
b1 = codes "b1"

abbrev pub begun_too : Given → ℕ → Record
begun_too x p = Begin p b1 2 (x.nonce p) (x.at p) 0

-- records of two agents, of each kind, one among another
abbrev pub of_two : Given → Reply → History
of_two x r =
    added x 1
    ∷ Install b1 2 x.terms Add
    ∷ begun x 1 1
    ∷ begun_too x 2
    ∷ lost_poll 2
    ∷ begun_too x 3
    ∷ Dropped 3 dropped.Keys
    ∷ begun_too x 4
    ∷ Restart 4 r.evidence r.signed true
    ∷ begun_too x 5
    ∷ verdict 5 r (Pass 2) true
    ∷ Release 1 b1 2 5
    ∷ verdict 1 r (Pass 2) true
    ∷ Release 2 a1 1 1
    ∷ Settled 1 Missed true
    ∷ Stop b1
    ∷ Settled 2 Arrived true
    ∷ Remove b1
    ∷ []

-- A record belongs to the agent that it names, or whose poll or release it names, and to no other.
pub record OfTwo (x : Given) (r : Reply) : Type 0 where
  pub of_one : own_of (of_two x r) ≡ Settled 2 Arrived true ∷ Release 2 a1 1 1 ∷ verdict 1 r (Pass 2) true ∷ begun x 1 1 ∷ added x 1 ∷ []
  pub of_other : own (past_of (of_two x r)) b1
      ≡ Remove b1
      ∷ Stop b1
      ∷ Settled 1 Missed true
      ∷ Release 1 b1 2 5
      ∷ verdict 5 r (Pass 2) true
      ∷ begun_too x 5
      ∷ Restart 4 r.evidence r.signed true
      ∷ begun_too x 4
      ∷ Dropped 3 dropped.Keys
      ∷ begun_too x 3
      ∷ lost_poll 2
      ∷ begun_too x 2
      ∷ Install b1 2 x.terms Add
      ∷ []
