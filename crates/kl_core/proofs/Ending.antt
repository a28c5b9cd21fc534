-- A poll is closed: the record meets its row, and what is kept of agents is what the records say.
use Rattle.std.proofs.Common.{◌≡◌, ℕ, ◌+◌, ◌≤◌, Bool, true, false, List, [], ◌∷◌, ◌++◌, length, take, Option, Some, None, refl, ap, sym, ◌∙◌, subst, arith}
use Rattle.std.specs.Prelude.{⊤, is_some, IfSome, IsSome}
use Rattle.std.specs.Option.{option_map, option_map_or}
use Rattle.std.specs.Ordering.{nat_cmp}
use Rattle.std.specs.Str.{bytes_eq}
use Rattle.std.specs.Cmp.Lexicographic.{slice_cmp}
use Rattle.std.specs.BTreeMap.{BTreeMap, get, btree_map_len, Updates, is_at}
use Rattle.std.specs.Map.{lookup}
use Rattle.std.proofs.lemmas.Bool.{both_ways}
use Rattle.std.proofs.lemmas.Option.{same_Some, none-some}
use lib.Dec.{eqb}
use Rattle.kl_entry.specs.Entries.{EntryFields}
use Rattle.kl_quote.specs.declared.evidence.Evidence.{Evidence}
use Rattle.kl_states.specs.declared.verdict.Verdict.TheVariants.{Pass, Failed, Invalid}
use Rattle.kl_appraise.specs.declared.judged.Boot.{Boot}
use Rattle.kl_appraise.specs.Terms.{TermsFields}
use Rattle.kl_appraise.specs.ListRules.{boot_of}
use Rattle.kl_appraise.specs.Outcome.{IsOutcome}
use Rattle.kl_incr.specs.Kept.{TicketFields}
use Rattle.kl_appraise.specs.Kept.{Stands, from_of}
use Rattle.kl_incr.specs.Appraisal.{case_of, IsAppraisal}
use Rattle.kl_appraise.specs.declared.kept.Kept.{Kept}
use Rattle.kl_appraise.specs.declared.judged.Outcome.{Outcome as Finding}
use Rattle.kl_appraise.specs.declared.judged.Outcome.TheVariants as finding
use Rattle.kl_history.specs.declared.record.Record.{Record}
use Rattle.kl_history.specs.declared.record.Record.TheVariants.{Verdict}
use Rattle.kl_history.specs.Records.{History, Past, Beginning, begins, closes, is_open, is_poll_of, belongs, own, is_close, is_release, is_settling}
use Rattle.kl_history.specs.LookBacks.{installed}
use Rattle.kl_history.specs.Accepted.{no_boot, SignsBoot, HasAccepted, WasAccepted}
use Rattle.kl_history.specs.States.{ended, is_current, HasReached}
use Rattle.kl_history.specs.Legal.{is_add, is_remove, IsCaseOf, MayClose, Row, weight_of}
use Rattle.kl_history.proofs.OwnRecords.{own-yes}
use Rattle.kl_agents.specs.declared.entry.Entry.{Entry}
use Rattle.kl_agents.specs.declared.entry.Opening.{Opening}
use Rattle.kl_core.specs.Tickets.{IsGiven}
use Rattle.kl_core.specs.States.{Accepted}
use Rattle.kl_core.specs.Closes.{record_by}
use Rattle.kl_core.specs.Inner.Keeping.{Says, Tells, IsEntry, HasEntry, IsOpening, HasOpening, IsBook}
use Rattle.kl_core.specs.declared.closing.Close.{Close}
use Rattle.kl_core.specs.declared.closing.Close.TheVariants.{Found, Lost, Dropped}
use Rattle.kl_agents.specs.Steps.{latest_poll, found, NotedIf}
use Rattle.kl_core.specs.Inner.Closing.{close_record, close_weight, close_boot, after_close, IsCloseOf}
use Rattle.kl_agents.proofs.Texts.{eq_yes}
use Rattle.kl_core.proofs.OneMore.{Calm, Quiet, quiet_verdict, quiet_restart, quiet_lost, quiet_dropped}
use Rattle.kl_core.proofs.Ours.{says_dropped, says_passed, says_failed, says_invalid, says_restarted, says_stale_verdict, says_stale_restart, says_lost, says_stale_loss}
use Rattle.kl_core.proofs.Keeping.{agents_at, BeginsNone, entry_step, has_theirs}
use Rattle.kl_core.proofs.Findings.{restart_signed, same_outcome, same_whole, passes_from_first}
use Rattle.kl_core.proofs.Standing.{kept_installed}
use Rattle.kl_core.proofs.Growing.{book_closed}

-- ---- the row
may_close : (past : Past) (t : TicketFields) (now : Bool) → IsGiven past t → is_open past t.poll ≡ true → now ≡ is_current (own past t.agent) t.generation → MayClose past t.poll now
may_close past t now given opened current = record {
  started = record { agent = t.agent; generation = t.generation; nonce = t.nonce; at = given.at; from = from_of t.kept };
  began = given.began;
  unclosed = opened;
  current = current;
}

-- what a poll of the whole list is appraised as
is_case : (past : Past) (t : TicketFields) (e : Evidence) (s : Bool) (entries : List EntryFields) (boot : Boot) → IsGiven past t → is_open past t.poll ≡ true
    → WasAccepted t.poll (own past t.agent) entries boot → (f : Finding) (next : Option Kept) → IsAppraisal t e s f next → IsCaseOf past t.poll e s (case_of t entries boot e s)
is_case past t e s entries boot given opened was f next appraised = record {
  started = record { agent = t.agent; generation = t.generation; nonce = t.nonce; at = given.at; from = from_of t.kept };
  began = given.began;
  unclosed = opened;
  terms = given.terms;
  nonce = refl;
  from = refl;
  accepted = was;
  evidence = refl;
  signed = refl;
  unasked = appraised.unasked;
}

-- ---- what a pass accepts
from_none : (k : Option Kept) → k ≡ None → from_of k ≡ 0
from_none None is = refl
from_none (Some k) is = cc

stands_none : (k : Option Kept) (boot : Boot) (t : TermsFields) → k ≡ None → Stands k [] boot t
stands_none None boot t is = refl
stands_none (Some k) boot t is = cc

counted_entries : (k : Option Kept) (entries : List EntryFields) (boot : Boot) (t : TermsFields) → Stands k entries boot t → length entries ≡ from_of k
counted_entries None entries boot t is = ap (λ (es : List EntryFields). length es) is
counted_entries (Some k) entries boot t is = sym is.count

-- the case of a ticket that keeps nothing, as that of a poll of the whole list
outcome_any : (t : TicketFields) (e : Evidence) (s : Bool) (f : Finding) (next : Option Kept) (entries : List EntryFields) (boot : Boot) → t.kept ≡ None → IsAppraisal t e s f next
    → IsOutcome (case_of t entries boot e s) f
outcome_any t e s f next entries boot none appraised =
    let before : IsOutcome (case_of t [] no_boot e s) f = appraised.outcome [] no_boot (stands_none t.kept no_boot t.terms none) in
    let zero = from_none t.kept none in
    let P : List EntryFields → Boot → ℕ → Type 0 = λ es b n. IsOutcome (record { terms = t.terms; nonce = t.nonce; from = n; prefix = es; boot = b; evidence = e; signed = s }) f in
    subst (P entries boot) (sym zero) (same_outcome t.terms t.nonce e s [] entries no_boot boot f (subst (P [] no_boot) zero before))

row_found : (past : Past) (t : TicketFields) (e : Evidence) (s : Bool) (f : Finding) (next : Option Kept) (now : Bool) (entries : List EntryFields) (boot : Boot)
    → IsGiven past t → is_open past t.poll ≡ true → WasAccepted t.poll (own past t.agent) entries boot → IsAppraisal t e s f next
    → now ≡ is_current (own past t.agent) t.generation → Row past (record_by t.poll e s f now)
row_found past t e s (finding.Verdict v) next now entries boot given opened was appraised current = (
  may_close past t now given opened current,
  (
    case_of t entries boot e s,
    is_case past t e s entries boot given opened was (finding.Verdict v) next appraised,
    outcome_any t e s (finding.Verdict v) next entries boot given.kept appraised,
  ),
)
row_found past t e s finding.Restart next now entries boot given opened was appraised current = (
  may_close past t now given opened current,
  restart_signed (case_of t entries boot e s) (outcome_any t e s finding.Restart next entries boot given.kept appraised),
  (
    case_of t entries boot e s,
    is_case past t e s entries boot given opened was finding.Restart next appraised,
    outcome_any t e s finding.Restart next entries boot given.kept appraised,
  ),
)

pass_accepts : (past : Past) (t : TicketFields) (e : Evidence) (s : Bool) (cut : ℕ) (next : Option Kept) (entries : List EntryFields) (boot : Boot)
    → t.kept ≡ None → WasAccepted t.poll past entries boot → IsAppraisal t e s (finding.Verdict (Pass cut)) next
    → Accepted (Verdict t.poll e s (Pass cut) true ∷ past) (from_of next)
unfolding HasAccepted
pass_accepts past t e s cut next entries boot none was appraised =
    let keeps = appraised.keeps [] no_boot (stands_none t.kept no_boot t.terms none) in
    let zero = from_none t.kept none in
    let P : ℕ → Type 0 = λ n. IsOutcome (record { terms = t.terms; nonce = t.nonce; from = n; prefix = []; boot = no_boot; evidence = e; signed = s }) ((finding.Verdict (Pass cut))) in
    let first = passes_from_first t.terms t.nonce e s [] no_boot cut (subst P zero (appraised.outcome [] no_boot (stands_none t.kept no_boot t.terms none))) in
    let whole = keeps.1 in
    let quoted = keeps.2 in (
      take cut whole,
      boot_of quoted,
      (entries, boot, was, record { whole = whole; continues = same_whole e [] entries whole first keeps.4; front = refl; signs = (quoted, keeps.5, refl) }),
      counted_entries next (take cut whole) (boot_of quoted) t.terms keeps.6,
    )

-- ---- what is kept of agents
stale_found : (past : Past) (p : ℕ) (e : Evidence) (s : Bool) (f : Finding) (t : TermsFields) (entry : Entry) → Says past t entry → Says (record_by p e s f false ∷ past) t entry
stale_found past p e s (finding.Verdict v) t entry says = says_stale_verdict past p e s v t entry says
stale_found past p e s finding.Restart t entry says = says_stale_restart past p e s t entry says

-- what is kept after a pass is of the boot that the quote signs
next_signs : (k : TicketFields) (e : Evidence) (s : Bool) (cut : ℕ) (next : Kept) → k.kept ≡ None → IsAppraisal k e s (finding.Verdict (Pass cut)) (Some next) → SignsBoot e next.boot
next_signs k e s cut next none appraised =
    let keeps = appraised.keeps [] no_boot (stands_none k.kept no_boot k.terms none) in
    (keeps.2, keeps.5, keeps.6.same_boot)

-- the test says whether V has reached the boot of a pass
abbrev pub TellsReached : Past → Option Boot → Bool → Type 0
TellsReached past None reached = ⊤
TellsReached past (Some b) reached = Tells reached (HasReached past b)

-- it does of the boot of a close, where that is current
abbrev pub TellsNow : Past → TicketFields → Close → Bool → Option Entry → Type 0
TellsNow past t by reached None = ⊤
TellsNow past t by reached (Some e) = TellsReached (own past t.agent) (close_boot by) reached

current_pass : (past : Past) (k : TicketFields) (e : Evidence) (s : Bool) (cut : ℕ) (next : Option Kept) (place : ℕ) (reached : Bool) (entries : List EntryFields) (boot : Boot) (t : TermsFields) (entry : Entry)
    → k.kept ≡ None → WasAccepted k.poll past entries boot → IsAppraisal k e s (finding.Verdict (Pass cut)) next → TellsReached past (option_map (λ (n : Kept). n.boot) next) reached
    → Says past t entry → ended past ≡ None
    → Says (Verdict k.poll e s (Pass cut) true ∷ past) t (found k.poll place (finding.Verdict (Pass cut)) next reached entry)
current_pass past k e s cut None place reached entries boot t entry none was appraised tells says live =
    absurd (none-some _ (appraised.keeps [] no_boot (stands_none k.kept no_boot k.terms none)).3)
current_pass past k e s cut (Some n) place reached entries boot t entry none was appraised tells says live =
    says_passed past k.poll e s cut t place n reached entry says live (pass_accepts past k e s cut (Some n) entries boot none was appraised) (next_signs k e s cut n none appraised) tells

current_found : (past : Past) (k : TicketFields) (e : Evidence) (s : Bool) (f : Finding) (next : Option Kept) (place : ℕ) (reached : Bool) (entries : List EntryFields) (boot : Boot) (t : TermsFields) (entry : Entry)
    → k.kept ≡ None → WasAccepted k.poll past entries boot → IsAppraisal k e s f next → TellsReached past (option_map (λ (n : Kept). n.boot) next) reached
    → Says past t entry → ended past ≡ None
    → Says (record_by k.poll e s f true ∷ past) t (found k.poll place f next reached entry)
current_found past k e s (finding.Verdict (Pass cut)) next place reached entries boot t entry none was appraised tells says live =
    current_pass past k e s cut next place reached entries boot t entry none was appraised tells says live
current_found past k e s (finding.Verdict (Failed why)) next place reached entries boot t entry none was appraised tells says live = says_failed past k.poll e s why t place next reached entry says live
current_found past k e s (finding.Verdict (Invalid why)) next place reached entries boot t entry none was appraised tells says live = says_invalid past k.poll e s why t place next reached entry says live
current_found past k e s finding.Restart next place reached entries boot t entry none was appraised tells says live = says_restarted past k.poll e s t place next reached entry says live

-- a record that changes nothing of what is said of an agent
has_same : (H : History) (past : Past) (r : Record) (a : List ℕ) (o : Option Entry) → Calm past r → BeginsNone past r a
    → ((own_past : Past) → installed (r ∷ own_past) ≡ installed own_past) → ((own_past : Past) (t : TermsFields) (e : Entry) → Says own_past t e → Says (r ∷ own_past) t e)
    → HasEntry H past a o → HasEntry (H ++ r ∷ []) (r ∷ past) a o
has_same H past r a o calm none same_installed same_says has = by_belonging (belongs past a r) refl o has where
  by_belonging : (b : Bool) → belongs past a r ≡ b → (o : Option Entry) → HasEntry H past a o → HasEntry (H ++ r ∷ []) (r ∷ past) a o
  by_belonging false is o has = has_theirs H past r a o calm none is has
  by_belonging true is None has = ap installed (own-yes r past a is) ∙ same_installed (own past a) ∙ has
  by_belonging true is (Some e) has =
      entry_step H past r a e e calm refl refl refl none has
      (subst (λ (own_past : Past). Says own_past has.with e) (sym (own-yes r past a is)) (same_says (own past a) has.with e has.says))

-- the record of a poll belongs to the agent of its ticket
poll_is_of : (past : Past) (t : TicketFields) (a : List ℕ) → IsGiven past t → is_poll_of past a t.poll ≡ bytes_eq a t.agent
poll_is_of past t a given = ap (λ o. option_map_or (λ (s : Beginning). bytes_eq a s.agent) o false) given.began

close_belongs : (past : Past) (t : TicketFields) (by : Close) (now : Bool) (a : List ℕ) → IsGiven past t → belongs past a (close_record t.poll by now) ≡ bytes_eq a t.agent
close_belongs past t (Found e s (finding.Verdict v) n) now a given = poll_is_of past t a given
close_belongs past t (Found e s finding.Restart n) now a given = poll_is_of past t a given
close_belongs past t (Lost w) now a given = poll_is_of past t a given
close_belongs past t (Dropped w) now a given = poll_is_of past t a given

close_quiet : (past : Past) (p : ℕ) (by : Close) (now : Bool) → Quiet past (close_record p by now)
close_quiet past p (Found e s (finding.Verdict v) n) now = quiet_verdict past p e s v now
close_quiet past p (Found e s finding.Restart n) now = quiet_restart past p e s now
close_quiet past p (Lost w) now = quiet_lost past p w now
close_quiet past p (Dropped w) now = quiet_dropped past p w

close_begins : (p : ℕ) (by : Close) (now : Bool) (q : ℕ) → begins q (close_record p by now) ≡ false
close_begins p (Found e s (finding.Verdict v) n) now q = refl
close_begins p (Found e s finding.Restart n) now q = refl
close_begins p (Lost w) now q = refl
close_begins p (Dropped w) now q = refl

close_installed : (p : ℕ) (by : Close) (now : Bool) (own_past : Past) → installed (close_record p by now ∷ own_past) ≡ installed own_past
close_installed p (Found e s (finding.Verdict v) n) now own_past = refl
close_installed p (Found e s finding.Restart n) now own_past = refl
close_installed p (Lost w) now own_past = refl
close_installed p (Dropped w) now own_past = refl

close_closes : (p : ℕ) (by : Close) (now : Bool) (q : ℕ) → closes q (close_record p by now) ≡ eqb q p
close_closes p (Found e s (finding.Verdict v) n) now q = refl
close_closes p (Found e s finding.Restart n) now q = refl
close_closes p (Lost w) now q = refl
close_closes p (Dropped w) now q = refl

-- the kinds of record that a close's is, and is not
record CloseKinds (r : Record) (bytes : ℕ) : Type 0 where
  pub close : is_close r ≡ true
  pub add : is_add r ≡ false
  pub remove : is_remove r ≡ false
  pub release : is_release r ≡ false
  pub settling : is_settling r ≡ false
  pub weight : weight_of r ≡ bytes

close_kinds : (p : ℕ) (by : Close) (now : Bool) → CloseKinds (close_record p by now) (close_weight by)
close_kinds p (Found e s (finding.Verdict v) n) now = record { close = refl; add = refl; remove = refl; release = refl; settling = refl; weight = refl }
close_kinds p (Found e s finding.Restart n) now = record { close = refl; add = refl; remove = refl; release = refl; settling = refl; weight = refl }
close_kinds p (Lost w) now = record { close = refl; add = refl; remove = refl; release = refl; settling = refl; weight = refl }
close_kinds p (Dropped w) now = record { close = refl; add = refl; remove = refl; release = refl; settling = refl; weight = refl }

-- what stays of what is kept of an agent
pub record StaysPolled (e f : Entry) : Type 0 where
  pub generation : f.generation ≡ e.generation
  pub place : f.place ≡ e.place
  pub latest : latest_poll f ≡ latest_poll e

stays_polled : (p place : ℕ) (reached : Bool) (by : Close) (e : Entry) → StaysPolled e (after_close p place reached by e)
stays_polled p place reached (Found e s (finding.Verdict (Pass cut)) n) entry = record { generation = refl; place = refl; latest = refl }
stays_polled p place reached (Found e s (finding.Verdict (Failed why)) n) entry = record { generation = refl; place = refl; latest = refl }
stays_polled p place reached (Found e s (finding.Verdict (Invalid why)) n) entry = record { generation = refl; place = refl; latest = refl }
stays_polled p place reached (Found e s finding.Restart n) entry = record { generation = refl; place = refl; latest = refl }
stays_polled p place reached (Lost w) entry = record { generation = refl; place = refl; latest = refl }
stays_polled p place reached (Dropped w) entry = record { generation = refl; place = refl; latest = refl }

-- ---- a close
row_close : (past : Past) (t : TicketFields) (by : Close) (now : Bool) (entries : List EntryFields) (boot : Boot)
    → IsGiven past t → is_open past t.poll ≡ true → WasAccepted t.poll (own past t.agent) entries boot → IsCloseOf t by
    → now ≡ is_current (own past t.agent) t.generation → Row past (close_record t.poll by now)
row_close past t (Found e s f next) now entries boot given opened was holds current = row_found past t e s f next now entries boot given opened was holds current
row_close past t (Lost w) now entries boot given opened was holds current = may_close past t now given opened current
row_close past t (Dropped w) now entries boot given opened was holds current = opened

stale_close : (past : Past) (p : ℕ) (by : Close) (t : TermsFields) (entry : Entry) → Says past t entry → Says (close_record p by false ∷ past) t entry
stale_close past p (Found e s f next) t entry says = stale_found past p e s f t entry says
stale_close past p (Lost w) t entry says = says_stale_loss past p w t entry says
stale_close past p (Dropped w) t entry says = says_dropped past p w t entry says

current_close : (past : Past) (k : TicketFields) (by : Close) (place : ℕ) (reached : Bool) (entries : List EntryFields) (boot : Boot) (t : TermsFields) (entry : Entry)
    → k.kept ≡ None → WasAccepted k.poll past entries boot → IsCloseOf k by → TellsReached past (close_boot by) reached → Says past t entry → ended past ≡ None
    → Says (close_record k.poll by true ∷ past) t (after_close k.poll place reached by entry)
current_close past k (Found e s f next) place reached entries boot t entry none was holds tells says live = current_found past k e s f next place reached entries boot t entry none was holds tells says live
current_close past k (Lost w) place reached entries boot t entry none was holds tells says live = says_lost past k.poll w t entry says live
current_close past k (Dropped w) place reached entries boot t entry none was holds tells says live = says_dropped past k.poll w t entry says

-- what is known of the agent's entry where the generation is current
abbrev pub IsCurrentEntry : History → Past → TicketFields → Option Entry → Type 0
IsCurrentEntry H past t None = ⊤
IsCurrentEntry H past t (Some e) = IsEntry H past t.agent e × (e.end ≡ None)

-- what an agent's own records say after a close that is current
pub says_closed : (H : History) (past : Past) (t : TicketFields) (by : Close) (place : ℕ) (reached : Bool) (entries : List EntryFields) (boot : Boot) (entry : Entry)
    → IsGiven past t → WasAccepted t.poll (own past t.agent) entries boot → IsCloseOf t by → TellsReached (own past t.agent) (close_boot by) reached → (known : IsCurrentEntry H past t (Some entry))
    → Says (own (close_record t.poll by true ∷ past) t.agent) known.0.with (after_close t.poll place reached by entry)
says_closed H past t by place reached entries boot entry given was holds tells known =
    subst (λ (own_past : Past). Says own_past known.0.with (after_close t.poll place reached by entry))
    (sym (own-yes (close_record t.poll by true) past t.agent (close_belongs past t by true t.agent given ∙ eq_yes t.agent t.agent refl)))
    (current_close (own past t.agent) t by place reached entries boot known.0.with entry given.kept was holds tells known.0.says (known.0.says.end_is ∙ known.1))

-- what is kept of agents after a close
pub agents_closed : (H : History) (past : Past) (agents agents' : BTreeMap (List ℕ) Entry) (t : TicketFields) (by : Close) (place : ℕ) (reached : Bool)
    (entries : List EntryFields) (boot : Boot) (entry : Option Entry)
    → ((a : List ℕ) → HasEntry H past a (get (slice_cmp nat_cmp) agents a)) → IsGiven past t → WasAccepted t.poll (own past t.agent) entries boot → IsCloseOf t by
    → TellsNow past t by reached entry → IsCurrentEntry H past t entry → NotedIf agents agents' t.agent (option_map (after_close t.poll place reached by) entry)
    → (b : List ℕ) → HasEntry (H ++ close_record t.poll by (is_some entry) ∷ []) (close_record t.poll by (is_some entry) ∷ past) b (get (slice_cmp nat_cmp) agents' b)
agents_closed H past agents agents' t by place reached entries boot None are given was holds tells known noted b =
    let calm : Calm past (close_record t.poll by false) = (close_quiet past t.poll by false).calm in
    let same : get (slice_cmp nat_cmp) agents' b ≡ get (slice_cmp nat_cmp) agents b = ap (λ (es : List (List ℕ × Entry)). lookup (is_at (slice_cmp nat_cmp b)) es) noted in
    subst (λ (o : Option Entry). HasEntry (H ++ close_record t.poll by false ∷ []) (close_record t.poll by false ∷ past) b o) (sym same)
    (has_same H past (close_record t.poll by false) b (get (slice_cmp nat_cmp) agents b) calm (λ q started is agent. close_begins t.poll by false q)
    (close_installed t.poll by false) (λ own_past terms entry says. stale_close own_past t.poll by terms entry says) (are b))
agents_closed H past agents agents' t by place reached entries boot (Some entry) are given was holds tells known noted b =
    let calm : Calm past (close_record t.poll by true) = (close_quiet past t.poll by true).calm in
    let stays = stays_polled t.poll place reached by entry in
    agents_at agents agents' t.agent (Some (after_close t.poll place reached by entry)) noted
    (λ b o. HasEntry (H ++ close_record t.poll by true ∷ []) (close_record t.poll by true ∷ past) b o)
    (entry_step H past (close_record t.poll by true) t.agent entry (after_close t.poll place reached by entry) calm stays.generation stays.place stays.latest
    (λ q started is agent. close_begins t.poll by true q) known.0
    (says_closed H past t by place reached entries boot entry given was holds tells known))
    (λ b apart. has_theirs H past (close_record t.poll by true) b _ calm (λ q started is agent. close_begins t.poll by true q) (close_belongs past t by true b given ∙ apart) (are b))
    b

-- what was accepted when the poll of a ticket began
pub was_of : (H : History) (past : Past) (t : TicketFields) (k : Opening) → (opening : IsOpening H past t.poll k) → k.agent ≡ t.agent
    → WasAccepted t.poll (own past t.agent) opening.accepted.0 opening.accepted.1
was_of H past t k opening same = subst (λ (a : List ℕ). WasAccepted t.poll (own past a) opening.accepted.0 opening.accepted.1) same opening.accepted.2

pub book_close : (H : History) (past : Past) (agents agents' : BTreeMap (List ℕ) Entry) (openings openings' : BTreeMap ℕ Opening) (drawn begun weighs capacity waiting : ℕ)
    (t : TicketFields) (by : Close) (place : ℕ) (reached : Bool) (o : Opening) (entry : Option Entry)
    → IsBook H past agents openings drawn begun weighs capacity waiting → IsGiven past t → IsOpening H past t.poll o → o.agent ≡ t.agent → IsCloseOf t by
    → TellsNow past t by reached entry
    → close_weight by ≤ 16777216
    → is_some entry ≡ is_current (own past t.agent) t.generation → IsCurrentEntry H past t entry
    → NotedIf agents agents' t.agent (option_map (after_close t.poll place reached by) entry) → btree_map_len agents' ≡ btree_map_len agents
    → Updates nat_cmp openings openings' t.poll None → btree_map_len openings' + 1 ≡ btree_map_len openings
    → IsBook (H ++ close_record t.poll by (is_some entry) ∷ []) (close_record t.poll by (is_some entry) ∷ past) agents' openings' drawn begun (weighs + close_weight by) capacity waiting
book_close H past agents agents' openings openings' drawn begun weighs capacity waiting t by place reached o entry book given opening whose holds tells light current known noted len up less =
    let was = was_of H past t o opening whose in
    let kinds = close_kinds t.poll by (is_some entry) in
    subst (λ (n : ℕ). IsBook (H ++ close_record t.poll by (is_some entry) ∷ []) (close_record t.poll by (is_some entry) ∷ past) agents' openings' drawn begun (weighs + n) capacity waiting) kinds.weight
    (book_closed H past (close_record t.poll by (is_some entry)) agents agents' openings openings' drawn begun weighs capacity waiting t.poll book (close_quiet past t.poll by (is_some entry))
    (row_close past t by (is_some entry) opening.accepted.0 opening.accepted.1 given opening.unclosed was holds current)
    (close_begins t.poll by (is_some entry)) (close_closes t.poll by (is_some entry)) kinds.close kinds.add kinds.remove kinds.release kinds.settling (omega (arith, kinds.weight, light))
    (agents_closed H past agents agents' t by place reached opening.accepted.0 opening.accepted.1 entry book.agents_are given was holds tells known noted)
    len up less)

-- ---- what is looked up
pub opening_of : (H : History) (past : Past) (p : ℕ) (o : Option Opening) → HasOpening H past p o → is_open past p ≡ true → (k : Opening) × IsOpening H past p k × (o ≡ Some k)
opening_of H past p None has opened = absurd (both_ways (is_open past p) has opened)
opening_of H past p (Some k) has opened = (k, has, refl)

pub whose : (H : History) (past : Past) (t : TicketFields) (k : Opening) → IsOpening H past t.poll k → IsGiven past t → k.agent ≡ t.agent
whose H past t k opening given = ap (λ (s : Beginning). s.agent) (same_Some _ _ (sym opening.given.began ∙ given.began))

-- an agent whose entry changes is kept
pub note_where : (H : History) (past : Past) (agents : BTreeMap (List ℕ) Entry) (t : TicketFields) (entry : Option Entry) (p place : ℕ) (reached : Bool) (by : Close)
    → ((a : List ℕ) → HasEntry H past a (get (slice_cmp nat_cmp) agents a)) → IsCurrentEntry H past t entry
    → IfSome (option_map (after_close p place reached by) entry) (λ _. IsSome (get (slice_cmp nat_cmp) agents t.agent))
note_where H past agents t None p place reached by are known = tt
note_where H past agents t (Some e) p place reached by are known =
    kept_installed H past t.agent (get (slice_cmp nat_cmp) agents t.agent) (are t.agent) ∙ ap is_some known.0.says.terms_are
