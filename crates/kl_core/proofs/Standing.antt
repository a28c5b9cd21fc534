-- The state of an agent is what is kept of it says.
use Rattle.std.proofs.Common.{◌≡◌, ℕ, ◌+◌, Bool, true, false, cond, not, ◌&&◌, ◌||◌, List, Option, Some, None, inl, inr, refl, ap, sym, ◌∙◌, subst}
use Rattle.std.specs.Prelude.{is_some, is_none, IsSome}
use Rattle.std.specs.Option.{option_map, option_map_or}
use Rattle.std.proofs.lemmas.Bool.{cond-true, eqb-true, eq-eqb, and_parts, both_ways}
use Rattle.std.proofs.lemmas.Option.{same_Some, none-some}
use lib.Dec.{eqb}
use Rattle.kl_states.specs.declared.op.Op.{Op}
use Rattle.kl_states.specs.declared.op.Op.TheVariants.{Start, GetQuote, GetQuoteRetry, ProvideV, ProvideVRetry}
use Rattle.kl_appraise.specs.Terms.{TermsFields}
use Rattle.kl_appraise.specs.declared.judged.Boot.{Boot}
use Rattle.kl_history.proofs.OneStanding.{boot_same}
use Rattle.kl_history.specs.Accepted.{SignsBoot}
use Rattle.kl_agents.specs.declared.entry.Passed.{Passed}
use Rattle.kl_history.specs.Records.{History, Past, own, is_open, polls}
use Rattle.kl_history.specs.LookBacks.{Installed, installed, losses, Passing}
use Rattle.kl_history.specs.States.{ended, is_current, is_live, IsDue, IsLiveOp, IsOp, HasOp, HasReached}
use Rattle.kl_history.specs.Legal.{IsBusy, HasRoom, HasBytes}
use Rattle.kl_agents.specs.declared.entry.Entry.{Entry}
use Rattle.kl_core.specs.States.{IsState}
use Rattle.kl_agents.specs.declared.entry.Opening.{Opening}
use Rattle.kl_core.specs.declared.refusal.Refusal.{Refusal}
use Rattle.kl_core.specs.declared.refusal.Refusal.TheVariants.{NoAgent, Exists, AgentsFull, WrongState, Busy, NoPoll, NoRelease, JournalRecords, JournalBytes, Memory}
use Rattle.kl_core.specs.Begins.{IsPolled, MayPoll, RefusesBegin, Begins}
use Rattle.kl_core.specs.Inner.Keeping.{Says, IsEntry, HasEntry, IsOpening, HasOpening, terms_at}
use Rattle.kl_agents.specs.Steps.{is_due, latest_poll, live_op, op_of}
use Rattle.kl_core.specs.Inner.Bars.{Lacks}

some_pass : (o : Option Passed) → is_some o ≡ true → (k : Passed) × (o ≡ Some k)
some_pass (Some k) is = (k, refl)
some_pass None is = cc

not_so : (b : Bool) → not b ≡ true → b ≡ false
not_so false is = refl
not_so true is = cc

pub due : (past : Past) (t : TermsFields) (e : Entry) → Says past t e → is_due e ≡ true → IsDue past
due past t e says is =
    let parts = and_parts e.has_v (is_some e.pass && not e.reached) is in
    let k = some_pass e.pass (and_parts (is_some e.pass) (not e.reached) parts.1).0 in
    let passed = says.pass_is k.0 k.1 in
    record {
      installation = record { generation = e.generation; terms = t };
      installed = says.terms_are;
      has_v = says.v_is ∙ parts.0;
      pass = passed.0;
      passed = passed.1;
      unreached = λ boot signs has.
          (says.reached_is k.0 k.1).1 (not_so e.reached (and_parts (is_some e.pass) (not e.reached) parts.1).1)
          (subst (λ (b : Boot). HasReached past b) (boot_same passed.0.evidence boot k.0.boot signs passed.3) has);
    }

not_due : (past : Past) (t : TermsFields) (e : Entry) → Says past t e → is_due e ≡ false → ¬ (IsDue past)
not_due past t e says none d = by_pass e.pass refl where
  v : e.has_v ≡ true
  v = let P : Installed → Type 0 = λ i. IsSome i.terms.v in
      sym says.v_is ∙ (subst P (sym (same_Some _ _ (sym says.terms_are ∙ d.installed))) d.has_v)

  by_reached : (k : Passed) → e.pass ≡ Some k → (b : Bool) → e.reached ≡ b → ⊥
  by_reached k is true reached =
      let passed = says.pass_is k is in
      let same = same_Some _ _ (sym passed.1 ∙ d.passed) in
      d.unreached k.boot (subst (λ (x : Passing). SignsBoot x.evidence k.boot) same passed.3) ((says.reached_is k is).0 reached)
  by_reached k is false unreached =
      both_ways (is_due e) none
      (ap (λ b. b && (is_some e.pass && not e.reached)) v ∙ ap (λ (o : Option Passed). is_some o && not e.reached) is ∙ ap not unreached)

  by_pass : (o : Option Passed) → e.pass ≡ o → ⊥
  by_pass None is = none-some d.pass (sym (says.no_pass is) ∙ d.passed)
  by_pass (Some k) is = by_reached k is e.reached refl

live_stands : (past : Past) (t : TermsFields) (e : Entry) → Says past t e → IsLiveOp past (live_op e)
live_stands past t e says = by_due (is_due e) refl where
  by_latest : (b : Bool) → is_some e.latest ≡ b → ¬ (IsDue past) → losses past ≡ 0 → IsLiveOp past (cond b GetQuote Start)
  by_latest true is none no_loss = (none, no_loss, says.polled ∙ is)
  by_latest false is none no_loss = (none, no_loss, says.polled ∙ is)

  by_losses : (b : Bool) → eqb e.losses 0 ≡ b → ¬ (IsDue past) → IsLiveOp past (cond b (cond (is_some e.latest) GetQuote Start) GetQuoteRetry)
  by_losses true is none = by_latest (is_some e.latest) refl none (says.losses_are ∙ eqb-true e.losses 0 is)
  by_losses false is none = (none, λ zero. both_ways (eqb e.losses 0) is (eq-eqb e.losses 0 (sym says.losses_are ∙ zero)))

  by_missed : (b : Bool) → eqb e.missed 0 ≡ b → IsDue past → IsLiveOp past (cond b ProvideV ProvideVRetry)
  by_missed true is d = (d, says.missed_are ∙ eqb-true e.missed 0 is)
  by_missed false is d = (d, λ zero. both_ways (eqb e.missed 0) is (eq-eqb e.missed 0 (sym says.missed_are ∙ zero)))

  by_due : (b : Bool) → is_due e ≡ b → IsLiveOp past (cond b (cond (eqb e.missed 0) ProvideV ProvideVRetry) (cond (eqb e.losses 0) (cond (is_some e.latest) GetQuote Start) GetQuoteRetry))
  by_due true is = by_missed (eqb e.missed 0) refl (due past t e says is)
  by_due false is = by_losses (eqb e.losses 0) refl (not_due past t e says is)

pub op_stands : (past : Past) (t : TermsFields) (e : Entry) → Says past t e → IsOp past (op_of e)
op_stands past t e says = by_end e.end refl where
  by_end : (o : Option Op) → e.end ≡ o → IsOp past (elim o [ Some op ↦ op | None ↦ live_op e ])
  by_end (Some op) is = inl (says.end_is ∙ is)
  by_end None is = inr (says.end_is ∙ is, live_stands past t e says)

-- the state that what is kept of an agent tells
pub has_op : (H : History) (past : Past) (a : List ℕ) (o : Option Entry) → HasEntry H past a o → HasOp (own past a) (option_map op_of o)
has_op H past a None is = is
has_op H past a (Some e) is = (ap is_some is.says.terms_are, op_stands (own past a) is.with e is.says)

-- whether a generation is current
pub current_is : (H : History) (past : Past) (a : List ℕ) (g : ℕ) (o : Option Entry) → HasEntry H past a o
    → is_current (own past a) g ≡ option_map_or (λ (e : Entry). eqb e.generation g && is_none e.end) o false
current_is H past a g None is = ap (λ o. option_map_or (λ (i : Installed). eqb i.generation g) o false && is_none (ended (own past a))) is
current_is H past a g (Some e) is =
    ap (λ o. option_map_or (λ (i : Installed). eqb i.generation g) o false && is_none (ended (own past a))) is.says.terms_are
    ∙ ap (λ o. eqb e.generation g && is_none o) is.says.end_is

-- how an agent stands
pub state_stands : (H : History) (past : Past) (a : List ℕ) (o : Option Entry) (e : Entry) → HasEntry H past a o → o ≡ Some e
    → IsState (own past a) (record { op = op_of e; generation = e.generation; accepted = e.accepted })
state_stands H past a o e has is =
    let entry = subst (λ (o : Option Entry). HasEntry H past a o) is has in
    record {
      with = record { generation = e.generation; terms = entry.with };
      installed = entry.says.terms_are;
      generation = refl;
      op = op_stands (own past a) entry.with e entry.says;
      accepted = entry.says.accepted;
    }

-- what is kept at a key
pub entry_at : (H : History) (past : Past) (a : List ℕ) (o : Option Entry) (e : Entry) → HasEntry H past a o → o ≡ Some e → IsEntry H past a e
entry_at H past a o e has is = subst (λ (o : Option Entry). HasEntry H past a o) is has

pub opening_at : (H : History) (past : Past) (p : ℕ) (o : Option Opening) (k : Opening) → HasOpening H past p o → o ≡ Some k → IsOpening H past p k
opening_at H past p o k has is = subst (λ (o : Option Opening). HasOpening H past p o) is has

-- what is kept of an agent is there exactly where the agent is installed
pub kept_installed : (H : History) (past : Past) (a : List ℕ) (o : Option Entry) → HasEntry H past a o → is_some o ≡ is_some (installed (own past a))
kept_installed H past a None is = ap is_some (sym is)
kept_installed H past a (Some e) is = ap is_some (sym is.says.terms_are)

-- ---- whether an agent may be polled
pub polled_now : (H : History) (past : Past) (a : List ℕ) (e : Entry) (p : ℕ) → IsEntry H past a e → e.end ≡ None → latest_poll e ≡ Some p → is_open past p ≡ true → IsPolled past a p
polled_now H past a e p entry live latest opened =
    let poll = entry.latest_is_its p latest in (
      record { generation = e.generation; terms = entry.with },
      entry.says.terms_are,
      entry.says.end_is ∙ live,
      record { started = poll.started; began = poll.began; agent = poll.agent; generation = poll.generation; unclosed = opened },
    )

pub idle_now : (H : History) (past : Past) (a : List ℕ) (e : Entry) → IsEntry H past a e → ((p : ℕ) → latest_poll e ≡ Some p → is_open past p ≡ false) → (q : ℕ) → ¬ (IsBusy past a e.generation q)
idle_now H past a e entry closed q busy = both_ways (is_open past q) (closed q (entry.busy_is_latest q busy)) busy.unclosed

pub may_poll : (H : History) (past : Past) (a : List ℕ) (e : Entry) → IsEntry H past a e → e.end ≡ None → ((q : ℕ) → ¬ (IsBusy past a e.generation q)) → MayPoll past a
may_poll H past a e entry live idle = (e.generation, entry.with, record { with = entry.says.terms_are; live = entry.says.end_is ∙ live; idle = idle })

pub lacking_begin : (past : Past) (a : List ℕ) (why : Refusal) → MayPoll past a → Lacks past 2 16777216 (Some why) → RefusesBegin past a why
lacking_begin past a JournalRecords may lacks = (may, lacks)
lacking_begin past a JournalBytes may lacks = (may, lacks.0, lacks.1)
lacking_begin past a NoAgent may lacks = absurd lacks
lacking_begin past a Exists may lacks = absurd lacks
lacking_begin past a AgentsFull may lacks = absurd lacks
lacking_begin past a (WrongState op) may lacks = absurd lacks
lacking_begin past a (Busy p) may lacks = absurd lacks
lacking_begin past a (NoPoll p) may lacks = absurd lacks
lacking_begin past a (NoRelease n) may lacks = absurd lacks
lacking_begin past a Memory may lacks = tt

-- the agent is live and installed with this generation
pub current_of : (H : History) (past : Past) (a : List ℕ) (e : Entry) → IsEntry H past a e → e.end ≡ None → is_current (own past a) e.generation ≡ true
current_of H past a e entry live =
    current_is H past a e.generation (Some e) entry ∙ ap (λ o. eqb e.generation e.generation && is_none o) live ∙ ap (λ b. b && true) (eq-eqb e.generation e.generation refl)

pub live_of : (H : History) (past : Past) (a : List ℕ) (e : Entry) → IsEntry H past a e → e.end ≡ None → is_live (own past a) ≡ true
live_of H past a e entry live =
    ap (λ (o : Option Installed). is_some o && is_none (ended (own past a))) entry.says.terms_are ∙ ap is_none (entry.says.end_is ∙ live)

-- the ticket of the next poll
pub next_ticket : (H : History) (past : Past) (a n : List ℕ) (at p : ℕ) (t : TermsFields) (e : Entry) → IsEntry H past a e → e.end ≡ None
    → ((q : ℕ) → ¬ (IsBusy past a e.generation q)) → HasRoom past 2 → HasBytes past 16777216 → p ≡ polls past + 1 → terms_at H e.place ≡ Some t
    → Begins a n at (record { poll = p; agent = a; generation = e.generation; nonce = n; terms = t; kept = None }) past
next_ticket H past a n at p t e entry live idle room bytes next placed =
    let same : entry.with ≡ t = same_Some _ _ (sym entry.place_is ∙ placed) in
    record {
      next = next;
      agent = refl;
      nonce = refl;
      kept = refl;
      idle = record {
        with = entry.says.terms_are ∙ ap (λ (t : TermsFields). Some (record { generation = e.generation; terms = t })) same;
        live = entry.says.end_is ∙ live;
        idle = idle;
      };
      room = room;
      bytes = bytes;
      given = record { at = at; began = cond-true (eqb p p) _ _ (eq-eqb p p refl); terms = entry.named ∙ ap (λ (t : TermsFields). Some t) same; kept = refl };
      opened = ap (λ b. b || is_open past p) (eq-eqb p p refl);
    }
