-- What is accepted of an agent is one, and its state is one.
use Rattle.std.proofs.Common.{◌≡◌, ◌≢◌, ℕ, zero, suc, Bool, true, false, eqb, List, [], ◌∷◌, ◌++◌, take, MatchBool, Option, Some, None, is_some, inl, inr, refl, ap, sym, ◌∙◌, subst}
use Rattle.std.proofs.lemmas.Bool.{false≢true}
use Rattle.std.proofs.lemmas.Option.{same_Some, none-some}
use Rattle.kl_entry.specs.Entries.{EntryFields}
use Rattle.kl_entry.specs.Lines.{lines_of}
use Rattle.kl_quote.specs.declared.evidence.Evidence.{Evidence}
use Rattle.kl_states.specs.declared.op.Op.{Op}
use Rattle.kl_states.specs.declared.op.Op.TheVariants as op
use Rattle.kl_states.specs.declared.verdict.Verdict.TheVariants.{Pass, Failed, Invalid}
use Rattle.kl_appraise.specs.declared.judged.Boot.{Boot}
use Rattle.kl_appraise.specs.ListRules.{boot_of, Continues}
use Rattle.kl_appraise.proofs.ListFacts.{entries_same}
use Rattle.kl_appraise.proofs.QuoteFacts.{attests_unique}
use Rattle.kl_history.specs.declared.record.Record.TheVariants.{Install, Begin, Verdict, Restart, Remove}
use Rattle.kl_history.specs.Records.{Past, is_begin}
use Rattle.kl_history.specs.LookBacks.{came, losses, missed}
use Rattle.kl_history.specs.Accepted.{IsNothing, SignsBoot, IsPassOf, HasAccepted}
use Rattle.kl_history.specs.States.{IsDue, IsLiveOp, IsOp, HasOp}
use Rattle.kl_history.specs.Laws.{AreOne}

-- ---- what is accepted

abbrev AreSame : List EntryFields → List EntryFields → Boot → Boot → Type 0
AreSame xs ys b c = (xs ≡ ys) × (b ≡ c)

nothing_same : (xs ys : List EntryFields) (b c : Boot) → IsNothing xs b → IsNothing ys c → AreSame xs ys b c
nothing_same xs ys b c x y = (x.0 ∙ sym y.0, x.1 ∙ sym y.1)

pub boot_same : (e : Evidence) (b c : Boot) → SignsBoot e b → SignsBoot e c → b ≡ c
boot_same e b c (t, quoted, is) (u, also, too) = is ∙ ap boot_of (attests_unique e.quote t u quoted also) ∙ sym too

whole_same : (prefix : List EntryFields) (e : Evidence) (v w : List EntryFields) → Continues prefix e v → Continues prefix e w → v ≡ w
whole_same prefix e v w (es, are, is) (fs, also, too) =
    is ∙ ap (λ l. take e.start prefix ++ l) (entries_same (lines_of e.list) es fs are also) ∙ sym too

pass_same : (prefix : List EntryFields) (e : Evidence) (cut : ℕ) (xs ys : List EntryFields) (b c : Boot) → IsPassOf prefix e cut xs b → IsPassOf prefix e cut ys c → AreSame xs ys b c
pass_same prefix e cut xs ys b c x y = (x.front ∙ ap (take cut) (whole_same prefix e x.whole y.whole x.continues y.continues) ∙ sym y.front, boot_same e b c x.signs y.signs)

accepted_same : (own : Past) (poll : Option ℕ) (xs ys : List EntryFields) (b c : Boot) → HasAccepted poll own xs b → HasAccepted poll own ys c → AreSame xs ys b c
unfolding HasAccepted
accepted_same [] poll xs ys b c x y = nothing_same xs ys b c x y
accepted_same (Install a g t w ∷ own) None xs ys b c x y = nothing_same xs ys b c x y
accepted_same (Remove a ∷ own) None xs ys b c x y = nothing_same xs ys b c x y
accepted_same (Restart p e s true ∷ own) None xs ys b c x y = nothing_same xs ys b c x y
accepted_same (Restart p e s false ∷ own) None xs ys b c x y = accepted_same own None xs ys b c x y
accepted_same (Verdict p e s (Pass cut) true ∷ own) None xs ys b c (prefix, old, was, x) (before, boot, also, y) =
    let same = accepted_same own (Some p) before prefix boot old also was in
    pass_same prefix e cut xs ys b c x (subst (λ l. IsPassOf l e cut ys c) same.0 y)
accepted_same (Verdict p e s (Pass cut) false ∷ own) None xs ys b c x y = accepted_same own None xs ys b c x y
accepted_same (Verdict p e s (Failed why) v ∷ own) None xs ys b c x y = accepted_same own None xs ys b c x y
accepted_same (Verdict p e s (Invalid why) v ∷ own) None xs ys b c x y = accepted_same own None xs ys b c x y
accepted_same (Begin q a g n at from ∷ own) (Some p) xs ys b c x y =
    at_begin (eqb p q) x y (accepted_same own None xs ys b c) (accepted_same own (Some p) xs ys b c) where
      at_begin : (t : Bool) → MatchBool t (HasAccepted None own xs b) (HasAccepted (Some p) own xs b) → MatchBool t (HasAccepted None own ys c) (HasAccepted (Some p) own ys c)
          → (HasAccepted None own xs b → HasAccepted None own ys c → AreSame xs ys b c) → (HasAccepted (Some p) own xs b → HasAccepted (Some p) own ys c → AreSame xs ys b c) → AreSame xs ys b c
      at_begin true x y here further = here x y
      at_begin false x y here further = further x y
accepted_same (_ ∷ own) None xs ys b c x y = accepted_same own None xs ys b c x y
accepted_same (_ ∷ own) (Some p) xs ys b c x y = accepted_same own (Some p) xs ys b c x y

-- ---- the state

-- the state of a live agent, by the answers to what it depends on
live_op : Bool → ℕ → ℕ → Bool → Op
live_op true zero lost begun = op.ProvideV
live_op true (suc n) lost begun = op.ProvideVRetry
live_op false late (suc n) begun = op.GetQuoteRetry
live_op false late zero false = op.Start
live_op false late zero true = op.GetQuote

IsLiveBy : Past → Op → Bool → Type 0
IsLiveBy own o due = MatchBool due (IsDue own) (¬ (IsDue own)) × (o ≡ live_op due (missed own) (losses own) (came is_begin own))

retry_op : (n lost : ℕ) (begun : Bool) → n ≢ 0 → op.ProvideVRetry ≡ live_op true n lost begun
unfolding live_op
retry_op zero lost begun some = absurd (some refl)
retry_op (suc n) lost begun some = refl

quote_op : (late n : ℕ) (begun : Bool) → n ≢ 0 → op.GetQuoteRetry ≡ live_op false late n begun
unfolding live_op
quote_op late zero begun some = absurd (some refl)
quote_op late (suc n) begun some = refl

live_by : (own : Past) (o : Op) → IsLiveOp own o → (due : Bool) × IsLiveBy own o due
unfolding IsLiveBy live_op
live_by own op.ProvideV (due, none) = (true, (due, ap (λ n. live_op true n (losses own) (came is_begin own)) (sym none)))
live_by own op.ProvideVRetry (due, some) = (true, (due, retry_op (missed own) (losses own) (came is_begin own) some))
live_by own op.GetQuoteRetry (due, some) = (false, (due, quote_op (missed own) (losses own) (came is_begin own) some))
live_by own op.Start (due, none, begun) =
    (false, (due, ap (λ n. live_op false (missed own) n false) (sym none) ∙ ap (live_op false (missed own) (losses own)) (sym begun)))
live_by own op.GetQuote (due, none, begun) =
    (false, (due, ap (λ n. live_op false (missed own) n true) (sym none) ∙ ap (live_op false (missed own) (losses own)) (sym begun)))
live_by own _ none = absurd none

due_same : (own : Past) (x y : Op) (d e : Bool) → IsLiveBy own x d → IsLiveBy own y e → x ≡ y
unfolding IsLiveBy
due_same own x y true true a b = a.1 ∙ sym b.1
due_same own x y true false a b = absurd (b.0 a.0)
due_same own x y false true a b = absurd (a.0 b.0)
due_same own x y false false a b = a.1 ∙ sym b.1

live_same : (own : Past) (x y : Op) → IsLiveOp own x → IsLiveOp own y → x ≡ y
live_same own x y a b = let one = live_by own x a in let other = live_by own y b in due_same own x y one.0 other.0 one.1 other.1

op_same : (own : Past) (x y : Op) → IsOp own x → IsOp own y → x ≡ y
op_same own x y (inl a) (inl b) = same_Some x y (sym a ∙ b)
op_same own x y (inl a) (inr b) = absurd (none-some x (sym b.0 ∙ a))
op_same own x y (inr a) (inl b) = absurd (none-some y (sym a.0 ∙ b))
op_same own x y (inr a) (inr b) = live_same own x y a.1 b.1

pub state_same : (own : Past) (x y : Option Op) → HasOp own x → HasOp own y → x ≡ y
state_same own None None a b = refl
state_same own None (Some y) a b = absurd (false≢true (sym (ap is_some a) ∙ b.0))
state_same own (Some x) None a b = absurd (false≢true (sym (ap is_some b) ∙ a.0))
state_same own (Some x) (Some y) a b = ap Some (op_same own x y a.1 b.1)

pub are_one : (own : Past) → AreOne own
are_one own = record { accepted = accepted_same own None; state = state_same own }
