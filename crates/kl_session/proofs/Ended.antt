-- The records with which a session ends: what they leave as it was, and what they come to.
use Rattle.std.proofs.Common.{◌≡◌, ℕ, Bool, true, false, if◌then◌else◌, List, [], ◌∷◌, ◌++◌, map, Option, Some, None, refl, ap, sym, ◌∙◌, subst, append_assoc, append-nil}
use Rattle.std.specs.Prelude.{All}
use Rattle.std.specs.Option.{option_map_or}
use Rattle.std.proofs.lemmas.List.Elements.{All-nil, All-cons, All-head, All-tail}
use Rattle.kl_states.specs.declared.outcome.DropWhy.TheVariants.{End}
use Rattle.kl_states.specs.declared.outcome.Outcome.TheVariants.{Withdrawn}
use Rattle.kl_history.specs.declared.record.Record.{Record}
use Rattle.kl_history.specs.declared.record.Record.TheVariants.{Dropped, Settled}
use Rattle.kl_history.specs.Records.{History, Past, past_of, Handing, handing_of, is_unsettled, belongs, own}
use Rattle.kl_history.specs.States.{is_current}
use Rattle.kl_history.specs.Legal.{Legal}
use Rattle.kl_core.specs.Books.{BookFields, past as past_at, with_more}
use Rattle.kl_core.specs.declared.settlement.Settlement.{Settlement}
use Rattle.kl_core.specs.Shares.{ShareFields, IsGivenShare, IsSettlement}
use Rattle.kl_session.specs.Closing.{AreOpen, AreUnsettled, is_current_release, drops, withdrawn, withdraws, IsEnded}
use Rattle.kl_session.specs.Inner.Tickets.{AreShares}
use Rattle.kl_session.proofs.Opened.{shares, behind, stays, Ending, ends_more, head_opened}

-- what each of these records leaves as it was is so behind all of them
unmoved : {A : Type 0} (f : Past → A) (rs : List Record) → All (λ r. (past : Past) → f (r ∷ past) ≡ f past) rs → (H : History)
    → f (past_of (H ++ rs)) ≡ f (past_of H)
unmoved f [] leaves H = ap (λ (G : History). f (past_of G)) (append-nil H)
unmoved {A} f (r ∷ rs) leaves H =
    let Leaves : Record → Type 0 = λ q. (past : Past) → f (q ∷ past) ≡ f past in
    ap (λ (G : History). f (past_of G)) (sym (append_assoc H (r ∷ []) rs)) ∙ unmoved f rs (All-tail Leaves r rs leaves) (H ++ r ∷ [])
    ∙ ap f (behind H (r ∷ [])) ∙ All-head Leaves r rs leaves (past_of H)

all_made : (P : Record → Type 0) (made : ℕ → Record) → ((n : ℕ) → P (made n)) → (ns : List ℕ) → All P (map made ns)
all_made P made each [] = All-nil P
all_made P made each (n ∷ ns) = All-cons P (made n) (map made ns) (each n) (all_made P made each ns)

-- ---- whether a release is current

current_own : (r : Record) (g : ℕ) (past : Past) (mine : Bool) → is_current (r ∷ past) g ≡ is_current past g → is_current (if mine then r ∷ past else past) g ≡ is_current past g
current_own r g past true same = same
current_own r g past false same = refl

-- a record that changes neither what a release names nor whether an agent's generation is current
current_same : (r : Record) → ((past : Past) (n : ℕ) → handing_of (r ∷ past) n ≡ handing_of past n) → ((past : Past) (g : ℕ) → is_current (r ∷ past) g ≡ is_current past g)
    → (n : ℕ) (past : Past) → is_current_release (r ∷ past) n ≡ is_current_release past n
current_same r names same n past =
    ap (λ o. option_map_or (λ (h : Handing). is_current (own (r ∷ past) h.agent) h.generation) o false) (names past n) ∙ by_handing (handing_of past n) where
      by_handing : (o : Option Handing) → option_map_or (λ (h : Handing). is_current (own (r ∷ past) h.agent) h.generation) o false
          ≡ option_map_or (λ (h : Handing). is_current (own past h.agent) h.generation) o false
      by_handing None = refl
      by_handing (Some h) = current_own r h.generation (own past h.agent) (belongs past h.agent r) (same (own past h.agent) h.generation)

drop_current : (p n : ℕ) (past : Past) → is_current_release (Dropped p End ∷ past) n ≡ is_current_release past n
drop_current p = current_same (Dropped p End) (λ past n. refl) (λ past g. refl)

withdraw_current : (m : ℕ) (now : Bool) (n : ℕ) (past : Past) → is_current_release (Settled m (Withdrawn End) now ∷ past) n ≡ is_current_release past n
withdraw_current m now = current_same (Settled m (Withdrawn End) now) (λ past n. refl) (λ past g. refl)

-- behind the releases that were withdrawn before it
pub current_behind : (first b : BookFields) (done : List ℕ) (n : ℕ) → b ≡ with_more (withdraws (past_at first) done) first
    → is_current_release (past_at b) n ≡ is_current_release (past_at first) n
current_behind first b done n grown =
    ap (λ (c : BookFields). is_current_release (past_at c) n) grown
    ∙ unmoved (λ past. is_current_release past n) (withdraws (past_at first) done)
    (all_made (λ r. (past : Past) → is_current_release (r ∷ past) n ≡ is_current_release past n) (withdrawn (past_at first))
    (λ m. withdraw_current m (is_current_release (past_at first) m) n) done) first.history

-- a share tells what its release names
pub share_current : (past : Past) (s : ShareFields) → IsGivenShare past s → is_current_release past s.number ≡ is_current (own past s.agent) s.generation
share_current past s given = ap (λ o. option_map_or (λ (h : Handing). is_current (own past h.agent) h.generation) o false) given.released

-- one more is withdrawn
pub withdraw_more : (first b b' : BookFields) (all left : List ShareFields) (s : ShareFields) (x : Settlement) → IsSettlement (past_at b) s (Withdrawn End) x
    → b' ≡ with_more (Settled s.number (Withdrawn End) x.current ∷ []) b → Legal b'.history
    → Ending shares (withdrawn (past_at first)) first b all (s ∷ left) → Ending shares (withdrawn (past_at first)) first b' all left
withdraw_more first b b' all left s x told grown legal e =
    let made : ℕ → Record = withdrawn (past_at first) in
    let given = (head_opened shares made first b all left s e).1 in
    let now : x.current ≡ is_current_release (past_at first) s.number =
    told.now ∙ sym (share_current (past_at b) s given) ∙ current_behind first b e.done s.number e.book in
    let so : b' ≡ with_more (withdrawn (past_at first) s.number ∷ []) b = grown ∙ ap (λ c. with_more (Settled s.number (Withdrawn End) c ∷ []) b) now in
    subst (λ (c : BookFields). Ending shares made first c all left) (sym so)
    (ends_more shares made first b all left s (record { opens_none = λ n. refl; closes_it = λ n. refl }) (subst (λ (c : BookFields). Legal c.history) so legal) e)

-- ---- behind the polls that were dropped

dropped_current : (H : History) (polls : List ℕ) (n : ℕ) → is_current_release (past_of (H ++ drops polls)) n ≡ is_current_release (past_of H) n
dropped_current H polls n =
    unmoved (λ past. is_current_release past n) (drops polls)
    (all_made (λ r. (past : Past) → is_current_release (r ∷ past) n ≡ is_current_release past n) (λ p. Dropped p End) (λ p. drop_current p n) polls) H

dropped_unsettled : (H : History) (polls : List ℕ) (n : ℕ) → is_unsettled (past_of (H ++ drops polls)) n ≡ is_unsettled (past_of H) n
dropped_unsettled H polls n =
    unmoved (λ past. is_unsettled past n) (drops polls)
    (all_made (λ r. (past : Past) → is_unsettled (r ∷ past) n ≡ is_unsettled past n) (λ p. Dropped p End) (λ p past. refl) polls) H

-- the shares are those of the open releases still
pub shares_stay : (b b' : BookFields) (polls : List ℕ) (ss : List ShareFields) → b' ≡ with_more (drops polls) b → Legal b'.history
    → AreShares (past_at b) ss → AreShares (past_at b') ss
shares_stay b b' polls ss grown legal are =
    rw grown (stays shares b.history (drops polls) ss (dropped_unsettled b.history polls) (subst (λ (c : BookFields). Legal c.history) grown legal) are)

withdraws_same : (p q : Past) → ((n : ℕ) → is_current_release p n ≡ is_current_release q n) → (ns : List ℕ) → withdraws p ns ≡ withdraws q ns
withdraws_same p q same [] = refl
withdraws_same p q same (n ∷ ns) =
    ap (λ c. Settled n (Withdrawn End) c ∷ withdraws p ns) (same n)
    ∙ ap (λ rs. Settled n (Withdrawn End) (is_current_release q n) ∷ rs) (withdraws_same p q same ns)

unsettled_same : (p q : Past) → ((n : ℕ) → is_unsettled p n ≡ is_unsettled q n) → (ns : List ℕ) → AreUnsettled p ns → AreUnsettled q ns
unsettled_same p q same ns are = record {
  rising = are.rising;
  each = λ n. ((λ among. sym (same n) ∙ (are.each n).0 among), (λ is. (are.each n).1 (same n ∙ is)));
}

-- ---- the end

pub is_ended : (first between last : BookFields) → ((polls : List ℕ) × AreOpen (past_at first) polls × (between ≡ with_more (drops polls) first))
    → ((releases : List ℕ) × AreUnsettled (past_at between) releases × (last ≡ with_more (withdraws (past_at between) releases) between))
    → IsEnded first.history last.history
is_ended first between last (polls, opened, dropped) (releases, unsettled, grown) =
    let behind_drops : past_at between ≡ past_of (first.history ++ drops polls) = ap past_at dropped in
    let current : (n : ℕ) → is_current_release (past_at between) n ≡ is_current_release (past_at first) n =
    λ n. ap (λ past. is_current_release past n) behind_drops ∙ dropped_current first.history polls n in
    let open_ones : (n : ℕ) → is_unsettled (past_at between) n ≡ is_unsettled (past_at first) n =
    λ n. ap (λ past. is_unsettled past n) behind_drops ∙ dropped_unsettled first.history polls n in
    record {
      polls = polls;
      opened = opened;
      releases = releases;
      unsettled = unsettled_same (past_at between) (past_at first) open_ones releases unsettled;
      parts =
          ap (λ (c : BookFields). c.history) grown
          ∙ ap (λ (c : BookFields). c.history ++ withdraws (past_at between) releases) dropped
          ∙ ap (λ rs. (first.history ++ drops polls) ++ rs) (withdraws_same (past_at between) (past_at first) current releases);
    }

-- the marks are those of the book before
pub same_marks : (first between last : BookFields) → ((polls : List ℕ) × AreOpen (past_at first) polls × (between ≡ with_more (drops polls) first))
    → ((releases : List ℕ) × AreUnsettled (past_at between) releases × (last ≡ with_more (withdraws (past_at between) releases) between))
    → last.marks ≡ first.marks
same_marks first between last dropped grown = ap (λ (c : BookFields). c.marks) grown.2 ∙ ap (λ (c : BookFields). c.marks) dropped.2
