-- The records that belong to an agent, and where they stand in the past; and where what a look-back finds stands.
use Rattle.std.proofs.Common.{◌≡◌, ℕ, Bool, true, false, cond, eqb, List, [], ◌∷◌, Option, Some, None, inl, inr, refl, ap, sym, ◌∙◌, subst, eqb-true, eq-eqb}
use Rattle.std.specs.Option.{option_map_or}
use Rattle.std.specs.Str.{bytes_eq}
use Rattle.std.proofs.lemmas.Bool.{false≢true, cond-true, cond-false, cases_Bool, MatchBool-at_true, MatchBool-at_false}
use Rattle.std.proofs.lemmas.Option.{same_Some, none-some}
use Rattle.std.proofs.lemmas.Slice.Eq.{bytes_eq-Decides}
use Rattle.kl_entry.specs.Entries.{EntryFields}
use Rattle.kl_appraise.specs.declared.judged.Boot.{Boot}
use Rattle.kl_appraise.specs.Terms.{TermsFields}
use Rattle.kl_history.specs.declared.record.InstallWhy.{InstallWhy}
use Rattle.kl_history.specs.declared.record.Record.{Record}
use Rattle.kl_history.specs.declared.record.Record.TheVariants.{Install, Begin, Remove}
use Rattle.kl_history.specs.Records.{Past, Beginning, start_of, Handing, handing_of, begins, terms_of, is_poll_of, is_release_of, belongs, own}
use Rattle.kl_history.specs.LookBacks.{Installed, installed}
use Rattle.kl_history.specs.Accepted.{HasAccepted, IsAccepted, WasAccepted}
use Rattle.kl_history.specs.Legal.{IsLegalPast}
use Rattle.kl_history.proofs.Places.{Stands, here, earlier, newest_or}
use Rattle.kl_history.proofs.Numbers.{draws_anew}
use Rattle.kl_history.proofs.Rows.{poll_numbers, polls_in_order}

pub same_bytes : (a b : List ℕ) → bytes_eq a b ≡ true → a ≡ b
same_bytes a b is = (bytes_eq-Decides a b).0 is

pub bytes_eq-refl : (a : List ℕ) → bytes_eq a a ≡ true
bytes_eq-refl a = (bytes_eq-Decides a a).1 refl

-- the Begin of a poll that is the agent's, and the Release of such a release
pub poll_begun : (past : Past) (a : List ℕ) (p : ℕ) → is_poll_of past a p ≡ true → (s : Beginning) × (start_of past p ≡ Some s) × (s.agent ≡ a)
poll_begun past a p is = by_case (start_of past p) refl is where
  by_case : (o : Option Beginning) → start_of past p ≡ o → option_map_or (λ (s : Beginning). bytes_eq a s.agent) o false ≡ true → (s : Beginning) × (start_of past p ≡ Some s) × (s.agent ≡ a)
  by_case None same is = absurd (false≢true is)
  by_case (Some s) same is = (s, same, sym (same_bytes a s.agent is))

pub release_made : (past : Past) (a : List ℕ) (n : ℕ) → is_release_of past a n ≡ true → (h : Handing) × (handing_of past n ≡ Some h) × (h.agent ≡ a)
release_made past a n is = by_case (handing_of past n) refl is where
  by_case : (o : Option Handing) → handing_of past n ≡ o → option_map_or (λ (h : Handing). bytes_eq a h.agent) o false ≡ true → (h : Handing) × (handing_of past n ≡ Some h) × (h.agent ≡ a)
  by_case None same is = absurd (false≢true is)
  by_case (Some h) same is = (h, same, sym (same_bytes a h.agent is))

-- ---- one record more

pub own-yes : (r : Record) (past : Past) (a : List ℕ) → belongs past a r ≡ true → own (r ∷ past) a ≡ r ∷ own past a
own-yes r past a is = cond-true (belongs past a r) (r ∷ own past a) (own past a) is

pub own-no : (r : Record) (past : Past) (a : List ℕ) → belongs past a r ≡ false → own (r ∷ past) a ≡ own past a
own-no r past a is = cond-false (belongs past a r) (r ∷ own past a) (own past a) is

-- what an agent's own records say after one record more of the past, where it says so of one more of its own
pub own-step : (P : Past → Past → Type 0) (r : Record) (past : Past) (a : List ℕ) → (belongs past a r ≡ true → P (r ∷ own past a) (own past a)) → (belongs past a r ≡ false → P (own past a) (own past a)) → P (own (r ∷ past) a) (own past a)
own-step P r past a yes' no' = elim (cases_Bool (belongs past a r)) [
  | inl is ↦ subst (λ o. P o (own past a)) (sym (own-yes r past a is)) (yes' is)
  | inr is ↦ subst (λ o. P o (own past a)) (sym (own-no r past a is)) (no' is)
]

-- ---- where an agent's record stands

own_at : (x : Record) (rest past : Past) (a : List ℕ) → Stands x rest (own past a) → (b : Past) × Stands x b past × (own b a ≡ rest) × (belongs b a x ≡ true)
own_at x rest [] a s = elim s [ ]
own_at x rest (r ∷ past) a s = by_case (belongs past a r) refl s (own_at x rest past a) where
  by_case : (t : Bool) → belongs past a r ≡ t → Stands x rest (cond t (r ∷ own past a) (own past a))
      → (Stands x rest (own past a) → (b : Past) × Stands x b past × (own b a ≡ rest) × (belongs b a x ≡ true))
      → (b : Past) × Stands x b (r ∷ past) × (own b a ≡ rest) × (belongs b a x ≡ true)
  by_case true is t further = elim (newest_or t) [
    | inl same ↦ (past, subst (λ y. Stands y past (r ∷ past)) (sym same.0) here, sym same.1, ap (belongs past a) same.0 ∙ is)
    | inr t ↦ let found = further t in (found.0, earlier found.1, found.2, found.3)
  ]
  by_case false is t further = let found = further t in (found.0, earlier found.1, found.2, found.3)

pub own_in : {x : Record} {b past : Past} (a : List ℕ) → Stands x b past → belongs b a x ≡ true → Stands x (own b a) (own past a)
own_in {x} {b} a here is = subst (λ o. Stands x (own b a) o) (sym (own-yes x b a is)) here
own_in {x} {b} a (earlier {newer = r} {past = past} s) is =
    let inside = own_in a s is in
    own-step (λ o rest. Stands x (own b a) rest → Stands x (own b a) o) r past a (λ _ t. earlier t) (λ _ t. t) inside

-- ---- where what is found stands

pub begin_at : (past : Past) (p : ℕ) (s : Beginning) → start_of past p ≡ Some s → (b : Past) × Stands (Begin p s.agent s.generation s.nonce s.at s.from) b past
begin_at [] p s is = absurd (none-some s is)
begin_at (Begin q a g n at from ∷ past) p s is = by_case (eqb p q) refl is (begin_at past p s) where
  by_case : (t : Bool) → eqb p q ≡ t → cond t (Some (record { agent = a; generation = g; nonce = n; at = at; from = from })) (start_of past p) ≡ Some s
      → (start_of past p ≡ Some s → (b : Past) × Stands (Begin p s.agent s.generation s.nonce s.at s.from) b past)
      → (b : Past) × Stands (Begin p s.agent s.generation s.nonce s.at s.from) b (Begin q a g n at from ∷ past)
  by_case true same found further =
      let named : Begin q a g n at from ≡ Begin p s.agent s.generation s.nonce s.at s.from =
      ap (λ m. Begin m a g n at from) (sym (eqb-true p q same))
      ∙ ap (λ (x : Beginning). Begin p x.agent x.generation x.nonce x.at x.from) (same_Some _ s found) in
      (past, subst (λ x. Stands x past (Begin q a g n at from ∷ past)) named here)
  by_case false other found further = let rest = further found in (rest.0, earlier rest.1)
begin_at (_ ∷ past) p s is = let rest = begin_at past p s is in (rest.0, earlier rest.1)

pub terms_at : (past : Past) (g : ℕ) (t : TermsFields) → terms_of past g ≡ Some t → (a : List ℕ) × (w : InstallWhy) × (b : Past) × Stands (Install a g t w) b past
terms_at [] g t is = absurd (none-some t is)
terms_at (Install a h u w ∷ past) g t is = by_case (eqb g h) refl is (terms_at past g t) where
  by_case : (b : Bool) → eqb g h ≡ b → cond b (Some u) (terms_of past g) ≡ Some t
      → (terms_of past g ≡ Some t → (a : List ℕ) × (w : InstallWhy) × (b : Past) × Stands (Install a g t w) b past)
      → (c : List ℕ) × (v : InstallWhy) × (b : Past) × Stands (Install c g t v) b (Install a h u w ∷ past)
  by_case true same found further =
      let named : Install a h u w ≡ Install a g t w = ap (λ m. Install a m u w) (sym (eqb-true g h same)) ∙ ap (λ x. Install a g x w) (same_Some u t found) in
      (a, w, past, subst (λ x. Stands x past (Install a h u w ∷ past)) named here)
  by_case false other found further = let rest = further found in (rest.0, rest.1, rest.2, earlier rest.3)
terms_at (_ ∷ past) g t is = let rest = terms_at past g t is in (rest.0, rest.1, rest.2, earlier rest.3)

install_at : (own : Past) (i : Installed) → installed own ≡ Some i → (a : List ℕ) × (w : InstallWhy) × (b : Past) × Stands (Install a i.generation i.terms w) b own
install_at [] i is = absurd (none-some i is)
install_at (Install a g t w ∷ own) i is =
    (a, w, own, subst (λ (x : Installed). Stands (Install a x.generation x.terms w) own (Install a g t w ∷ own)) (same_Some _ i is) here)
install_at (Remove a ∷ own) i is = absurd (none-some i is)
install_at (_ ∷ own) i is = let rest = install_at own i is in (rest.0, rest.1, rest.2, earlier rest.3)

-- the Install of what an agent is installed with
pub installed_at : (past : Past) (a : List ℕ) (i : Installed) → installed (own past a) ≡ Some i → (w : InstallWhy) × (b : Past) × Stands (Install a i.generation i.terms w) b past
installed_at past a i is =
    let found = install_at (own past a) i is in
    let at = own_at (Install found.0 i.generation i.terms found.1) found.2 past a found.3 in
    (found.1, at.0, subst (λ c. Stands (Install c i.generation i.terms found.1) at.0 past) (sym (same_bytes a found.0 at.3)) at.1)

-- ---- what was accepted when a poll began

skipped : (p : ℕ) (r : Record) (own : Past) (entries : List EntryFields) (boot : Boot) → begins p r ≡ false → WasAccepted p (r ∷ own) entries boot → WasAccepted p own entries boot
unfolding HasAccepted
skipped p (Begin q a g n at from) own entries boot other was = MatchBool-at_false (IsAccepted own entries boot) (WasAccepted p own entries boot) other was
skipped p _ own entries boot other was = was

-- is what was accepted at the place of its Begin
pub was_accepted : (p : ℕ) (a : List ℕ) (g : ℕ) (n : List ℕ) (at from : ℕ) (entries : List EntryFields) (boot : Boot) {b past : Past}
    → IsLegalPast past → Stands (Begin p a g n at from) b past → WasAccepted p (own past a) entries boot → IsAccepted (own b a) entries boot
unfolding HasAccepted
was_accepted p a g n at from entries boot {b} legal here was =
    let own_too = own-yes (Begin p a g n at from) b a (bytes_eq-refl a) in
    MatchBool-at_true (IsAccepted (own b a) entries boot) (WasAccepted p (own b a) entries boot) (eq-eqb p p refl)
    (subst (λ o. WasAccepted p o entries boot) own_too was)
was_accepted p a g n at from entries boot {b} legal (earlier {newer = r} {past = past} s) was =
    let other = draws_anew poll_numbers r past p (polls_in_order (r ∷ past) legal) s (eq-eqb p p refl) in
    was_accepted p a g n at from entries boot legal.0 s
    (own-step (λ o rest. WasAccepted p o entries boot → WasAccepted p rest entries boot) r past a
    (λ _ w. skipped p r (own past a) entries boot other w) (λ _ w. w) was)
