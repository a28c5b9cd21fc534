-- The numbers of installed agents, of open polls and of open releases.
use Rattle.std.proofs.Common.{◌≡◌, ℕ, suc, ◌+◌, ◌-◌, ◌≤◌, Bool, true, false, not, ◌&&◌, ◌||◌, cond, eqb, List, [], ◌∷◌, count_by, bytes_eq, is_some, refl, ap, sym, ◌∙◌, subst, arith}
use Rattle.std.proofs.lemmas.Bool.{false_from_ne_true}
use Rattle.std.proofs.lemmas.Bool.Decides.{Decides-eqb}
use Rattle.std.proofs.lemmas.Slice.Eq.{bytes_eq-Decides}
use Rattle.kl_appraise.specs.Terms.{TermsFields}
use Rattle.kl_history.specs.declared.record.InstallWhy.{InstallWhy}
use Rattle.kl_history.specs.declared.record.InstallWhy.TheVariants.{Add, Replace, Reactivate}
use Rattle.kl_history.specs.declared.record.Record.{Record}
use Rattle.kl_history.specs.declared.record.Record.TheVariants.{Install, Remove}
use Rattle.kl_history.specs.Records.{History, Past, past_of, is_open, is_unsettled, own}
use Rattle.kl_history.specs.LookBacks.{installed}
use Rattle.kl_history.specs.Legal.{Legal, IsLegalPast, Row, is_add, is_remove, agents}
use Rattle.kl_history.specs.Laws.{ThereAre, AreCounted}
use Rattle.kl_history.proofs.Numbers.{Numbering, drawn, stays_open, Does, draw, close, neither, InOrder, open_drawn, drawn_bound, counted}
use Rattle.kl_history.proofs.Rows.{poll_numbers, release_numbers, is_open-stays, is_unsettled-stays, polls_in_order, releases_in_order}
use Rattle.kl_history.proofs.OwnRecords.{same_bytes, own-step}
use Rattle.kl_history.proofs.Tallies.{there_are_none, there_are_same, there_is_more, there_is_less}

-- so many that more came than went
abbrev IsTally : {X : Type 0} → (X → X → Bool) → (X → Bool) → ℕ → ℕ → Type 0
IsTally same holds came gone = (n : ℕ) × ThereAre same holds n × (n + gone ≡ came)

as_difference : {X : Type 0} (same : X → X → Bool) (holds : X → Bool) (came gone : ℕ) → IsTally same holds came gone → ThereAre same holds (came - gone)
as_difference same holds came gone (n, there, sum) = subst (ThereAre same holds) (omega (arith, sum)) there

-- ---- what is numbered

module _ (k : Numbering) where
  open_tally : (past : Past) → InOrder k past → IsTally eqb (stays_open k past) (drawn k past) (count_by k.is_close past)
  open_tally [] ordered = (0, there_are_none eqb Decides-eqb (stays_open k []) (λ n. refl), refl)
  open_tally (r ∷ past) ordered = by_case ordered.1 (open_tally past ordered.0) where
    by_case : Does k past r → IsTally eqb (stays_open k past) (drawn k past) (count_by k.is_close past) → IsTally eqb (stays_open k (r ∷ past)) (drawn k (r ∷ past)) (count_by k.is_close (r ∷ past))
    by_case (draw is not_close draws closes) (n, there, sum) =
        let more = counted k.is_draw r past true is in
        let same = counted k.is_close r past false not_close in
        let fresh : stays_open k past (drawn k past + 1) ≡ false = false_from_ne_true (stays_open k past (drawn k past + 1)) (λ open_now.
        let found = open_drawn k past (drawn k past + 1) open_now in
        let bound = drawn_bound k (drawn k past + 1) found.2 ordered.0 found.3 in omega (arith, bound.1)) in (
          suc n,
          there_is_more eqb Decides-eqb (stays_open k past) (stays_open k (r ∷ past)) n (drawn k past + 1) fresh
              (λ m. ap (λ b. not b && (k.draws m r || stays_open k past m)) (closes m) ∙ ap (λ b. b || stays_open k past m) (draws m)) there,
          omega (arith, more, same, sum),
        )
    by_case (close m is not_draw is_close draws closes) (n, there, sum) =
        let same = counted k.is_draw r past false not_draw in
        let more = counted k.is_close r past true is_close in
        let less = there_is_less eqb Decides-eqb (stays_open k past) (stays_open k (r ∷ past)) n m is
        (λ j. ap (λ b. not b && (k.draws j r || stays_open k past j)) (closes j) ∙ ap (λ b. not (eqb j m) && (b || stays_open k past j)) (draws j)) there in
        (less.0, less.2, omega (arith, more, same, sum, less.1))
    by_case (neither not_draw not_close draws closes) (n, there, sum) =
        let same = counted k.is_draw r past false not_draw in
        let also = counted k.is_close r past false not_close in (
          n,
          there_are_same eqb Decides-eqb (stays_open k past) (stays_open k (r ∷ past)) n
              (λ j. ap (λ b. not b && (k.draws j r || stays_open k past j)) (closes j) ∙ ap (λ b. b || stays_open k past j) (draws j)) there,
          omega (arith, same, also, sum),
        )

-- ---- agents

abbrev is_there : Past → List ℕ → Bool
is_there past a = is_some (installed (own past a))

abbrev AgentTally : Past → Type 0
AgentTally past = IsTally bytes_eq (is_there past) (count_by is_add past) (count_by is_remove past)

there_installed : (a x : List ℕ) (g : ℕ) (t : TermsFields) (w : InstallWhy) (past : Past) → is_there (Install a g t w ∷ past) x ≡ (bytes_eq x a || is_there past x)
there_installed a x g t w past = by_case (bytes_eq x a) where
  by_case : (b : Bool) → is_some (installed (cond b (Install a g t w ∷ own past x) (own past x))) ≡ (b || is_there past x)
  by_case true = refl
  by_case false = refl

there_removed : (a x : List ℕ) (past : Past) → is_there (Remove a ∷ past) x ≡ (not (bytes_eq x a) && is_there past x)
there_removed a x past = by_case (bytes_eq x a) where
  by_case : (b : Bool) → is_some (installed (cond b (Remove a ∷ own past x) (own past x))) ≡ (not b && is_there past x)
  by_case true = refl
  by_case false = refl

-- terms that are installed anew leave an agent where it is
still_there : (a x : List ℕ) (g : ℕ) (t : TermsFields) (w : InstallWhy) (past : Past) → is_there past a ≡ true → is_there (Install a g t w ∷ past) x ≡ is_there past x
still_there a x g t w past is = there_installed a x g t w past ∙ by_case (bytes_eq x a) refl where
  by_case : (b : Bool) → bytes_eq x a ≡ b → (b || is_there past x) ≡ is_there past x
  by_case true same = sym (ap (is_there past) (same_bytes x a same) ∙ is)
  by_case false other = refl

again_tally : (a : List ℕ) (g : ℕ) (t : TermsFields) (w : InstallWhy) (past : Past) → is_add (Install a g t w) ≡ false → is_there past a ≡ true → AgentTally past → AgentTally (Install a g t w ∷ past)
again_tally a g t w past not_add is (n, there, sum) =
    let same = counted is_add (Install a g t w) past false not_add in
    let also = counted is_remove (Install a g t w) past false refl in
    (n, there_are_same bytes_eq bytes_eq-Decides (is_there past) (is_there (Install a g t w ∷ past)) n (λ x. still_there a x g t w past is) there, omega (arith, same, also, sum))

agent_step : (past : Past) (r : Record) → Row past r → AgentTally past → AgentTally (r ∷ past)
agent_step past (Install a g t Add) row (n, there, sum) =
    let more = counted is_add (Install a g t Add) past true refl in
    let same = counted is_remove (Install a g t Add) past false refl in (
      suc n,
      there_is_more bytes_eq bytes_eq-Decides (is_there past) (is_there (Install a g t Add ∷ past)) n a (ap is_some row.1.0) (λ x. there_installed a x g t Add past) there,
      omega (arith, more, same, sum),
    )
agent_step past (Install a g t Replace) row tally = again_tally a g t Replace past refl (ap is_some row.1.1) tally
agent_step past (Install a g t Reactivate) row tally = again_tally a g t Reactivate past refl (ap is_some row.1.1) tally
agent_step past (Remove a) row (n, there, sum) =
    let same = counted is_add (Remove a) past false refl in
    let more = counted is_remove (Remove a) past true refl in
    let less = there_is_less bytes_eq bytes_eq-Decides (is_there past) (is_there (Remove a ∷ past)) n a row (λ x. there_removed a x past) there in
    (less.0, less.2, omega (arith, more, same, sum, less.1))
agent_step past r row (n, there, sum) =
    let same = counted is_add r past false refl in
    let also = counted is_remove r past false refl in (
      n,
      there_are_same bytes_eq bytes_eq-Decides (is_there past) (is_there (r ∷ past)) n
          (λ x. own-step (λ new old. is_some (installed new) ≡ is_some (installed old)) r past x (λ _. refl) (λ _. refl)) there,
      omega (arith, same, also, sum),
    )

agent_tally : (past : Past) → IsLegalPast past → AgentTally past
agent_tally [] legal = (0, there_are_none bytes_eq bytes_eq-Decides (is_there []) (λ a. refl), refl)
agent_tally (r ∷ past) legal = agent_step past r legal.1 (agent_tally past legal.0)

few_step : (past : Past) (r : Record) → Row past r → agents past ≤ 1024 → agents (r ∷ past) ≤ 1024
few_step past (Install a g t Add) row few =
    let more = counted is_add (Install a g t Add) past true refl in
    let same = counted is_remove (Install a g t Add) past false refl in
    omega (arith, more, same, row.1.1)
few_step past (Remove a) row few =
    let same = counted is_add (Remove a) past false refl in
    let more = counted is_remove (Remove a) past true refl in
    omega (arith, same, more, few)
few_step past r row few =
    let same = counted is_add r past false refl in
    let also = counted is_remove r past false refl in
    omega (arith, same, also, few)

few_agents : (past : Past) → IsLegalPast past → agents past ≤ 1024
few_agents [] legal = omega arith
few_agents (r ∷ past) legal = few_step past r legal.1 (few_agents past legal.0)

pub are_counted : (H : History) → Legal H → AreCounted (past_of H)
are_counted H legal =
    let past = past_of H in
    record {
      installed_agents = as_difference bytes_eq (is_there past) (count_by is_add past) (count_by is_remove past) (agent_tally past legal);
      few_agents = few_agents past legal;
      polls_open = as_difference eqb (is_open past) _ _ (let t = open_tally poll_numbers past (polls_in_order past legal) in
          (t.0, there_are_same eqb Decides-eqb (stays_open poll_numbers past) (is_open past) t.0 (is_open-stays past) t.1, t.2));
      releases_open = as_difference eqb (is_unsettled past) _ _ (let t = open_tally release_numbers past (releases_in_order past legal) in
          (t.0, there_are_same eqb Decides-eqb (stays_open release_numbers past) (is_unsettled past) t.0 (is_unsettled-stays past) t.1, t.2));
    }
