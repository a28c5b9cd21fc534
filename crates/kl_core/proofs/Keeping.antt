-- What is kept of agents and of open polls stays what the records say.
use Rattle.std.proofs.Common.{◌≡◌, ℕ, ◌+◌, Bool, true, false, not, ◌&&◌, ◌||◌, List, [], ◌∷◌, ◌++◌, length, Option, Some, None, inl, inr, refl, ap, sym, ◌∙◌, subst, arith}
use Rattle.std.specs.Ordering.{nat_cmp, is_eq}
use Rattle.std.specs.Cmp.Lexicographic.{slice_cmp}
use Rattle.std.specs.Str.{bytes_eq}
use Rattle.std.specs.BTreeMap.{BTreeMap, get, Updates}
use Rattle.std.proofs.lemmas.Map.Text.{is_eq-slice_cmp}
use Rattle.std.proofs.lemmas.Bool.{ne_eqb, cond-false, cond-true, eq-eqb, cases_eq, and_parts, both_ways}
use Rattle.std.proofs.lemmas.Option.{same_Some, none-some}
use Rattle.std.proofs.lemmas.Grind.{common_steps}
use lib.Dec.{eqb}
use Rattle.kl_appraise.specs.Terms.{TermsFields}
use Rattle.kl_incr.specs.Kept.{TicketFields}
use Rattle.kl_history.specs.declared.record.Record.{Record}
use Rattle.kl_history.specs.declared.record.Record.TheVariants.{Install, Begin}
use Rattle.kl_history.specs.declared.record.InstallWhy.{InstallWhy}
use Rattle.kl_history.specs.Records.{History, Past, Beginning, start_of, begins, closes, is_open, belongs, own, generations, polls}
use Rattle.kl_history.specs.LookBacks.{installed}
use Rattle.kl_history.specs.Accepted.{WasAccepted}
use Rattle.kl_history.specs.Legal.{IsBusy}
use Rattle.kl_history.proofs.OwnRecords.{own-yes, own-no}
use Rattle.kl_agents.specs.declared.entry.Entry.{Entry}
use Rattle.kl_agents.specs.declared.entry.Opening.{Opening}
use Rattle.kl_core.specs.Tickets.{IsGiven}
use Rattle.kl_core.specs.Inner.Keeping.{Says, IsPollOf, IsEntry, HasEntry, ticket_of, IsOpening, HasOpening, Numbers}
use Rattle.kl_agents.specs.Steps.{latest_poll, fresh, polled}
use Rattle.kl_agents.proofs.Texts.{same_or_not, eq_yes, eq_no}
use Rattle.kl_core.proofs.OneMore.{Calm, terms_at-front, terms_at-end, calm_begin}
use Rattle.kl_core.proofs.Ours.{was_own, was_now, says_polled}

-- ---- maps with one key changed
pub agents_at : (m n : BTreeMap (List ℕ) Entry) (b : List ℕ) (w : Option Entry) → Updates (slice_cmp nat_cmp) m n b w → (P : List ℕ → Option Entry → Type 0)
    → P b w → ((a : List ℕ) → bytes_eq a b ≡ false → P a (get (slice_cmp nat_cmp) m a)) → (a : List ℕ) → P a (get (slice_cmp nat_cmp) n a)
agents_at m n b w up P here there a = elim (same_or_not a b) [
  | inl e ↦
      let at : get (slice_cmp nat_cmp) n a ≡ w = up.0 a ∙ cond-true (is_eq (slice_cmp nat_cmp b a)) _ _ (is_eq-slice_cmp b a ∙ eq_yes b a (sym e.1)) in
      subst (λ (o : Option Entry). P a o) (sym at) (subst (λ (k : List ℕ). P k w) (sym e.1) here)
  | inr ne ↦
      let at : get (slice_cmp nat_cmp) n a ≡ get (slice_cmp nat_cmp) m a = up.0 a ∙ cond-false (is_eq (slice_cmp nat_cmp b a)) _ _ (is_eq-slice_cmp b a ∙ eq_no b a (λ e. ne.1 (sym e))) in
      subst (λ (o : Option Entry). P a o) (sym at) (there a ne.0)
]

pub polls_at : (m n : BTreeMap ℕ Opening) (p : ℕ) (w : Option Opening) → Updates nat_cmp m n p w → (P : ℕ → Option Opening → Type 0)
    → P p w → ((q : ℕ) → eqb q p ≡ false → P q (get nat_cmp m q)) → (q : ℕ) → P q (get nat_cmp n q)
polls_at m n p w up P here there q = elim (cases_eq q p) [
  | inl e ↦
      let at : get nat_cmp n q ≡ w = ap (λ k. get nat_cmp n k) e ∙ up.1 in
      subst (λ (o : Option Opening). P q o) (sym at) (subst (λ (k : ℕ). P k w) (sym e) here)
  | inr ne ↦
      let at : get nat_cmp n q ≡ get nat_cmp m q = up.2 q (grind (arith, common_steps)) in
      subst (λ (o : Option Opening). P q o) (sym at) (there q (ne_eqb q p ne))
]

-- ---- agents
busy_before : (past : Past) (r : Record) (a : List ℕ) (g q : ℕ) → Calm past r → begins q r ≡ false → IsBusy (r ∷ past) a g q → IsBusy past a g q
busy_before past r a g q calm apart busy = record {
  started = busy.started;
  began = sym (calm.starts q apart) ∙ busy.began;
  agent = busy.agent;
  generation = busy.generation;
  unclosed = (and_parts (not (closes q r)) (is_open past q) (sym (calm.opened q apart) ∙ busy.unclosed)).1;
}

poll_after : (past : Past) (r : Record) (a : List ℕ) (g q : ℕ) → Calm past r → IsPollOf past a g q → IsPollOf (r ∷ past) a g q
poll_after past r a g q calm poll = record {
  started = poll.started;
  began = calm.starts q (calm.fresh q poll.started poll.began) ∙ poll.began;
  agent = poll.agent;
  generation = poll.generation;
}

-- a record begins no poll of the agent
abbrev pub BeginsNone : Past → Record → List ℕ → Type 0
BeginsNone past r a = (q : ℕ) (s : Beginning) → start_of (r ∷ past) q ≡ Some s → s.agent ≡ a → begins q r ≡ false

-- what is kept of an agent under the same generation
pub entry_step : (H : History) (past : Past) (r : Record) (a : List ℕ) (e f : Entry) → Calm past r → f.generation ≡ e.generation → f.place ≡ e.place → latest_poll f ≡ latest_poll e
    → BeginsNone past r a → (entry : IsEntry H past a e) → Says (own (r ∷ past) a) entry.with f → IsEntry (H ++ r ∷ []) (r ∷ past) a f
entry_step H past r a e f calm same_generation same_place same_latest none entry says = record {
  with = entry.with;
  place_is = terms_at-front H (r ∷ []) f.place entry.with (rw same_place entry.place_is);
  named = calm.terms f.generation entry.with (rw same_generation entry.named);
  says = says;
  busy_is_latest = λ q busy.
      let before = subst (λ (g : ℕ). IsBusy (r ∷ past) a g q) same_generation busy in
      same_latest ∙ entry.busy_is_latest q (busy_before past r a e.generation q calm (none q busy.started busy.began busy.agent) before);
  latest_is_its = λ q is.
      subst (λ (g : ℕ). IsPollOf (r ∷ past) a g q) (sym same_generation) (poll_after past r a e.generation q calm (entry.latest_is_its q (sym same_latest ∙ is)));
}

-- what is kept of an agent whose the record is not
pub has_theirs : (H : History) (past : Past) (r : Record) (a : List ℕ) (o : Option Entry) → Calm past r → BeginsNone past r a → belongs past a r ≡ false
    → HasEntry H past a o → HasEntry (H ++ r ∷ []) (r ∷ past) a o
has_theirs H past r a None calm none apart is = ap installed (own-no r past a apart) ∙ is
has_theirs H past r a (Some e) calm none apart is =
    entry_step H past r a e e calm refl refl refl none is (subst (λ (own_past : Past). Says own_past is.with e) (sym (own-no r past a apart)) is.says)

-- what is kept of an agent that was installed now
abbrev pub newly : ℕ → ℕ → Bool → ℕ → Option ℕ → Entry
newly g place v added handed = record (fresh g place v) { added = added; handed = handed }

pub entry_fresh : (H : History) (past : Past) (a : List ℕ) (g : ℕ) (t : TermsFields) (w : InstallWhy) (v : Bool) (added : ℕ) (handed : Option ℕ)
    → Numbers past → g ≡ generations past + 1
    → Says (Install a g t w ∷ own past a) t (newly g (length H) v added handed)
    → IsEntry (H ++ Install a g t w ∷ []) (Install a g t w ∷ past) a (newly g (length H) v added handed)
entry_fresh H past a g t w v added handed numbers next says = record {
  with = t;
  place_is = terms_at-end H a g t w;
  named = cond-true (eqb g g) _ _ (eq-eqb g g refl);
  says = subst (λ (own_past : Past). Says own_past t (newly g (length H) v added handed)) (sym (own-yes (Install a g t w) past a (eq_yes a a refl))) says;
  busy_is_latest = λ q busy. absurd (let le = numbers.under_within q busy.started busy.began in let e = busy.generation in omega arith);
  latest_is_its = λ q is. absurd (none-some q is);
}

-- ---- a poll begins
pub begins_theirs : (past : Past) (p : ℕ) (b : List ℕ) (g : ℕ) (n : List ℕ) (at from : ℕ) (a : List ℕ) → bytes_eq a b ≡ false → BeginsNone past (Begin p b g n at from) a
begins_theirs past p b g n at from a apart q s is agent = elim (cases_eq q p) [
  | inl e ↦
      let named = ap (λ (s : Beginning). s.agent) (same_Some _ _ (sym (cond-true (eqb q p) _ _ (eq-eqb q p e)) ∙ is)) in
      absurd (both_ways (bytes_eq a b) apart (eq_yes a b (sym agent ∙ sym named)))
  | inr ne ↦ ne_eqb q p ne
]

pub entry_polled : (H : History) (past : Past) (p : ℕ) (a : List ℕ) (n : List ℕ) (at from : ℕ) (e : Entry) → Numbers past → p ≡ polls past + 1
    → ((q : ℕ) → ¬ (IsBusy past a e.generation q)) → IsEntry H past a e
    → IsEntry (H ++ Begin p a e.generation n at from ∷ []) (Begin p a e.generation n at from ∷ past) a (polled p at e)
entry_polled H past p a n at from e numbers next idle entry =
    let calm = calm_begin past p a e.generation n at from numbers.begun_within next in
    record {
      with = entry.with;
      place_is = terms_at-front H (Begin p a e.generation n at from ∷ []) e.place entry.with entry.place_is;
      named = entry.named;
      says = subst (λ (own_past : Past). Says own_past entry.with (polled p at e)) (sym (own-yes (Begin p a e.generation n at from) past a (eq_yes a a refl)))
          (says_polled (own past a) p a e.generation n at from entry.with e entry.says);
      busy_is_latest = λ q busy. elim (cases_eq q p) [
        | inl is ↦ ap (λ k. Some k) (sym is)
        | inr ne ↦ absurd (idle q (busy_before past (Begin p a e.generation n at from) a e.generation q calm (ne_eqb q p ne) busy))
      ];
      latest_is_its = λ q is. record {
        started = record { agent = a; generation = e.generation; nonce = n; at = at; from = from };
        began = cond-true (eqb q p) _ _ (eq-eqb q p (sym (same_Some _ _ is)));
        agent = refl;
        generation = refl;
      };
    }

-- ---- open polls
pub given_stays : (past : Past) (r : Record) (t : TicketFields) → Calm past r → IsGiven past t → IsGiven (r ∷ past) t
given_stays past r t calm given = record {
  at = given.at;
  began = calm.starts t.poll (calm.fresh t.poll _ given.began) ∙ given.began;
  terms = calm.terms t.generation t.terms given.terms;
  kept = given.kept;
}

pub has_opening : (H : History) (past : Past) (r : Record) (p : ℕ) (o : Option Opening) → Calm past r → begins p r ≡ false → closes p r ≡ false
    → HasOpening H past p o → HasOpening (H ++ r ∷ []) (r ∷ past) p o
has_opening H past r p None calm not_begun not_closed is =
    calm.opened p not_begun ∙ ap (λ b. not b && is_open past p) not_closed ∙ is
has_opening H past r p (Some o) calm not_begun not_closed is = record {
  with = is.with;
  place_is = terms_at-front H (r ∷ []) o.place is.with is.place_is;
  unclosed = calm.opened p not_begun ∙ ap (λ b. not b && is_open past p) not_closed ∙ is.unclosed;
  given = given_stays past r (ticket_of p o is.with) calm is.given;
  accepted = (is.accepted.0, is.accepted.1, was_own past r o.agent p is.accepted.0 is.accepted.1 not_begun is.accepted.2);
}

pub closed_opening : (past : Past) (r : Record) (p : ℕ) → Calm past r → begins p r ≡ false → closes p r ≡ true → is_open (r ∷ past) p ≡ false
closed_opening past r p calm not_begun closed = calm.opened p not_begun ∙ ap (λ b. not b && is_open past p) closed

pub opening_begun : (H : History) (past : Past) (p : ℕ) (a : List ℕ) (n : List ℕ) (at : ℕ) (e : Entry) → IsEntry H past a e
    → IsOpening (H ++ Begin p a e.generation n at 0 ∷ []) (Begin p a e.generation n at 0 ∷ past) p (record { agent = a; generation = e.generation; nonce = n; place = e.place })
opening_begun H past p a n at e entry =
    let accepted = entry.says.accepted in
    record {
      with = entry.with;
      place_is = terms_at-front H (Begin p a e.generation n at 0 ∷ []) e.place entry.with entry.place_is;
      unclosed = ap (λ b. b || is_open past p) (eq-eqb p p refl);
      given = record { at = at; began = cond-true (eqb p p) _ _ (eq-eqb p p refl); terms = entry.named; kept = refl };
      accepted = (
        accepted.0,
        accepted.1,
        subst (λ (own_past : Past). WasAccepted p own_past accepted.0 accepted.1) (sym (own-yes (Begin p a e.generation n at 0) past a (eq_yes a a refl)))
            (was_now (own past a) p a e.generation n at 0 accepted.0 accepted.1 accepted.2),
      );
    }
