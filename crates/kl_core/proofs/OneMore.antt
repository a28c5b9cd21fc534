-- What one record more does to what the records say of polls and generations.
use Rattle.std.proofs.Common.{◌≡◌, ℕ, ◌+◌, ◌≤◌, Bool, false, not, cond, ◌&&◌, ◌||◌, List, [], ◌∷◌, ◌++◌, length, Option, Some, None, inl, inr, refl, ap, sym, ◌∙◌, arith, zero, suc}
use Rattle.std.specs.Prelude.{count_by, slice_get, option_and_then}
use Rattle.std.proofs.lemmas.List.{reverse-append}
use Rattle.std.proofs.lemmas.List.Sums.{sum_by-cons}
use Rattle.std.proofs.lemmas.Bool.{ne_eqb, cond-false, cond-true, eq-eqb, cases_eq}
use Rattle.std.proofs.lemmas.Option.{same_Some}
use lib.Dec.{eqb}
use Rattle.kl_appraise.specs.Terms.{TermsFields}
use Rattle.kl_history.specs.declared.record.Record.{Record}
use Rattle.kl_history.specs.declared.record.Record.TheVariants.{Install, Begin, Verdict, Restart, Lost, Dropped, Release, Settled, Stop, Remove}
use Rattle.kl_history.specs.declared.record.InstallWhy.{InstallWhy}
use Rattle.kl_history.specs.Records.{History, Past, past_of, Beginning, start_of, begins, closes, is_open, terms_of, is_install, is_begin, generations, polls}
use Rattle.kl_core.specs.Inner.Keeping.{terms_by, terms_at, Numbers}

pub past_of-snoc : (H : History) (r : Record) → past_of (H ++ r ∷ []) ≡ r ∷ past_of H
past_of-snoc H r = reverse-append H (r ∷ [])

pub counted : (p : Record → Bool) (r : Record) (past : Past) → count_by p (r ∷ past) ≡ cond (p r) 1 0 + count_by p past
counted p r past = sum_by-cons (λ x. cond (p x) 1 0) r past

pub counted_as : (p : Record → Bool) (r : Record) (past : Past) (b : Bool) → p r ≡ b → count_by p (r ∷ past) ≡ cond b 1 0 + count_by p past
counted_as p r past b is = counted p r past ∙ ap (λ b. cond b 1 0 + count_by p past) is

-- ---- the terms of an Install at a place
pub slice_get-front : {X : Type 0} → (xs ys : List X) (i : ℕ) (x : X) → slice_get xs i ≡ Some x → slice_get (xs ++ ys) i ≡ Some x
slice_get-front [] ys i x is = cc
slice_get-front (y ∷ xs) ys zero x is = is
slice_get-front (y ∷ xs) ys (suc i) x is = slice_get-front xs ys i x is

pub slice_get-seam : {X : Type 0} → (xs ys : List X) (x : X) → slice_get (xs ++ x ∷ ys) (length xs) ≡ Some x
slice_get-seam [] ys x = refl
slice_get-seam (y ∷ xs) ys x = slice_get-seam xs ys x

pub terms_at-front : (H more : History) (place : ℕ) (t : TermsFields) → terms_at H place ≡ Some t → terms_at (H ++ more) place ≡ Some t
terms_at-front H more place t is = found (slice_get H place) refl is where
  found : (o : Option Record) → slice_get H place ≡ o → option_and_then terms_by o ≡ Some t → terms_at (H ++ more) place ≡ Some t
  found None at is = cc
  found (Some r) at is = ap (λ o. option_and_then terms_by o) (slice_get-front H more place r at) ∙ is

pub terms_at-end : (H : History) (a : List ℕ) (g : ℕ) (t : TermsFields) (w : InstallWhy) → terms_at (H ++ Install a g t w ∷ []) (length H) ≡ Some t
terms_at-end H a g t w = ap (λ o. option_and_then terms_by o) (slice_get-seam H [] (Install a g t w))

-- ---- polls and generations
-- what a record changes of polls and generations that were there
pub record Calm (past : Past) (r : Record) : Type 0 where
  pub starts : (q : ℕ) → begins q r ≡ false → start_of (r ∷ past) q ≡ start_of past q
  pub opened : (q : ℕ) → begins q r ≡ false → is_open (r ∷ past) q ≡ (not (closes q r) && is_open past q)
  pub fresh : (q : ℕ) (s : Beginning) → start_of past q ≡ Some s → begins q r ≡ false
  pub terms : (g : ℕ) (t : TermsFields) → terms_of past g ≡ Some t → terms_of (r ∷ past) g ≡ Some t

-- a record that neither begins a poll nor installs
pub record Quiet (past : Past) (r : Record) : Type 0 where
  pub calm : Calm past r
  pub starts : (q : ℕ) → start_of (r ∷ past) q ≡ start_of past q
  pub named : (g : ℕ) → terms_of (r ∷ past) g ≡ terms_of past g
  pub no_begin : is_begin r ≡ false
  pub no_install : is_install r ≡ false

pub quiet_verdict : (past : Past) (p : ℕ) (e : _) (s : Bool) (v : _) (c : Bool) → Quiet past (Verdict p e s v c)
quiet_verdict past p e s v c = record { calm = record { starts = λ q is. refl; opened = λ q is. refl; fresh = λ q s is. refl; terms = λ g t is. is }; starts = λ q. refl; named = λ g. refl; no_begin = refl; no_install = refl }

pub quiet_restart : (past : Past) (p : ℕ) (e : _) (s c : Bool) → Quiet past (Restart p e s c)
quiet_restart past p e s c = record { calm = record { starts = λ q is. refl; opened = λ q is. refl; fresh = λ q s is. refl; terms = λ g t is. is }; starts = λ q. refl; named = λ g. refl; no_begin = refl; no_install = refl }

pub quiet_dropped : (past : Past) (p : ℕ) (w : _) → Quiet past (Dropped p w)
quiet_dropped past p w = record { calm = record { starts = λ q is. refl; opened = λ q is. refl; fresh = λ q s is. refl; terms = λ g t is. is }; starts = λ q. refl; named = λ g. refl; no_begin = refl; no_install = refl }

pub quiet_lost : (past : Past) (p : ℕ) (w : _) (c : Bool) → Quiet past (Lost p w c)
quiet_lost past p w c = record { calm = record { starts = λ q is. refl; opened = λ q is. refl; fresh = λ q s is. refl; terms = λ g t is. is }; starts = λ q. refl; named = λ g. refl; no_begin = refl; no_install = refl }

pub quiet_release : (past : Past) (n : ℕ) (a : List ℕ) (g p : ℕ) → Quiet past (Release n a g p)
quiet_release past n a g p = record { calm = record { starts = λ q is. refl; opened = λ q is. refl; fresh = λ q s is. refl; terms = λ g t is. is }; starts = λ q. refl; named = λ g. refl; no_begin = refl; no_install = refl }

pub quiet_settled : (past : Past) (n : ℕ) (o : _) (c : Bool) → Quiet past (Settled n o c)
quiet_settled past n o c = record { calm = record { starts = λ q is. refl; opened = λ q is. refl; fresh = λ q s is. refl; terms = λ g t is. is }; starts = λ q. refl; named = λ g. refl; no_begin = refl; no_install = refl }

pub quiet_stop : (past : Past) (a : List ℕ) → Quiet past (Stop a)
quiet_stop past a = record { calm = record { starts = λ q is. refl; opened = λ q is. refl; fresh = λ q s is. refl; terms = λ g t is. is }; starts = λ q. refl; named = λ g. refl; no_begin = refl; no_install = refl }

pub quiet_remove : (past : Past) (a : List ℕ) → Quiet past (Remove a)
quiet_remove past a = record { calm = record { starts = λ q is. refl; opened = λ q is. refl; fresh = λ q s is. refl; terms = λ g t is. is }; starts = λ q. refl; named = λ g. refl; no_begin = refl; no_install = refl }

pub calm_install : (past : Past) (a : List ℕ) (g : ℕ) (t : TermsFields) (w : InstallWhy) → ((h : ℕ) (u : TermsFields) → terms_of past h ≡ Some u → h ≤ generations past) → g ≡ generations past + 1
    → Calm past (Install a g t w)
calm_install past a g t w named next = record {
  starts = λ q is. refl;
  opened = λ q is. refl;
  fresh = λ q s is. refl;
  terms = λ h u is. cond-false (eqb h g) _ _ (ne_eqb h g (λ e. let le = named h u is in omega arith)) ∙ is;
}

pub calm_begin : (past : Past) (p : ℕ) (a : List ℕ) (g : ℕ) (n : List ℕ) (at from : ℕ) → ((q : ℕ) (s : Beginning) → start_of past q ≡ Some s → q ≤ polls past) → p ≡ polls past + 1
    → Calm past (Begin p a g n at from)
calm_begin past p a g n at from begun next = record {
  starts = λ q is. cond-false (eqb q p) _ _ is;
  opened = λ q is. ap (λ b. b || is_open past q) is;
  fresh = λ q s is. ne_eqb q p (λ e. let le = begun q s is in omega arith);
  terms = λ h u is. is;
}

-- ---- the numbers drawn
pub numbers_quiet : (past : Past) (r : Record) → Quiet past r → Numbers past → Numbers (r ∷ past)
numbers_quiet past r quiet numbers =
    let polls_same : polls (r ∷ past) ≡ polls past = counted is_begin r past ∙ ap (λ b. cond b 1 0 + polls past) quiet.no_begin ∙ omega arith in
    let drawn_same : generations (r ∷ past) ≡ generations past = counted is_install r past ∙ ap (λ b. cond b 1 0 + generations past) quiet.no_install ∙ omega arith in
    record {
      begun_within = λ q s is. let le = numbers.begun_within q s (sym (quiet.starts q) ∙ is) in omega arith;
      under_within = λ q s is. let le = numbers.under_within q s (sym (quiet.starts q) ∙ is) in omega arith;
      named_within = λ g t is. let le = numbers.named_within g t (sym (quiet.named g) ∙ is) in omega arith;
    }

pub numbers_install : (past : Past) (a : List ℕ) (g : ℕ) (t : TermsFields) (w : InstallWhy) → Numbers past → g ≡ generations past + 1 → Numbers (Install a g t w ∷ past)
numbers_install past a g t w numbers next =
    let polls_same = counted is_begin (Install a g t w) past in
    let drawn_more = counted is_install (Install a g t w) past in
    record {
      begun_within = λ q s is. let le = numbers.begun_within q s is in omega arith;
      under_within = λ q s is. let le = numbers.under_within q s is in omega arith;
      named_within = λ h u is. elim (cases_eq h g) [
        | inl e ↦ omega arith
        | inr ne ↦ let le = numbers.named_within h u (sym (cond-false (eqb h g) _ _ (ne_eqb h g ne)) ∙ is) in omega arith
      ];
    }

pub numbers_begin : (past : Past) (p : ℕ) (a : List ℕ) (g : ℕ) (n : List ℕ) (at from : ℕ) → Numbers past → p ≡ polls past + 1 → g ≤ generations past → Numbers (Begin p a g n at from ∷ past)
numbers_begin past p a g n at from numbers next drawn =
    let polls_more = counted is_begin (Begin p a g n at from) past in
    let drawn_same = counted is_install (Begin p a g n at from) past in
    record {
      begun_within = λ q s is. elim (cases_eq q p) [
        | inl e ↦ omega arith
        | inr ne ↦ let le = numbers.begun_within q s (sym (cond-false (eqb q p) _ _ (ne_eqb q p ne)) ∙ is) in omega arith
      ];
      under_within = λ q s is. elim (cases_eq q p) [
        | inl e ↦ let same = ap (λ (s : Beginning). s.generation) (same_Some _ _ (sym (cond-true (eqb q p) _ _ (eq-eqb q p e)) ∙ is)) in omega arith
        | inr ne ↦ let le = numbers.under_within q s (sym (cond-false (eqb q p) _ _ (ne_eqb q p ne)) ∙ is) in omega arith
      ];
      named_within = λ h u is. let le = numbers.named_within h u is in omega arith;
    }
