-- The look-backs, told in another way.
use Rattle.std.proofs.Common.{◌≡◌, ◌↔◌, ℕ, suc, Bool, true, false, cond, ◌||◌, eqb, List, [], ◌∷◌, ◌++◌, MatchBool, count_by, Some, inl, inr, refl, ap, sym, ◌∙◌, subst, arith}
use Rattle.std.specs.Prelude.{option_and_then}
use Rattle.std.specs.List.{list_any}
use Rattle.std.proofs.lemmas.Bool.{false≢true}
use Rattle.kl_entry.specs.Entries.{EntryFields}
use Rattle.kl_quote.specs.declared.evidence.Evidence.{Evidence}
use Rattle.kl_states.specs.declared.outcome.Outcome.TheVariants as outcome
use Rattle.kl_states.specs.declared.verdict.Verdict.TheVariants.{Pass, Failed, Invalid}
use Rattle.kl_appraise.specs.declared.judged.Boot.{Boot}
use Rattle.kl_history.specs.declared.record.InstallWhy.TheVariants.{Add, Replace, Reactivate}
use Rattle.kl_history.specs.declared.record.Record.{Record}
use Rattle.kl_history.specs.declared.record.Record.TheVariants.{Install, Begin, Verdict, Restart, Lost, Release, Settled, Remove}
use Rattle.kl_history.specs.Records.{Past, begins, releases, is_install}
use Rattle.kl_history.specs.LookBacks.{installed, came, losses, missed, last_pass}
use Rattle.kl_history.specs.Accepted.{HasAccepted, IsAccepted, WasAccepted, SignsBoot}
use Rattle.kl_history.specs.States.{handed_for, PassedUnder, HasReached}
use Rattle.kl_history.specs.Legal.{is_add}
use Rattle.kl_history.specs.Laws.{decides_anew, ReachesBy}
use Rattle.kl_history.specs.Since.{last_of, ahead_of, since, is_install_or_remove, decides_accepted, is_install_or_arrival, installed_by, passing_of, handed_by, is_loss, is_miss, AcceptsAfter, StandsAmid, AreToldAgain}
use Rattle.kl_history.proofs.Numbers.{counted}

-- ---- what one record decides

installs_again : (own : Past) → installed own ≡ option_and_then installed_by (last_of is_install_or_remove own)
installs_again [] = refl
installs_again (Install a g t w ∷ own) = refl
installs_again (Remove a ∷ own) = refl
installs_again (_ ∷ own) = installs_again own

passes_again : (own : Past) → last_pass own ≡ option_and_then passing_of (last_of decides_anew own)
passes_again [] = refl
passes_again (Install a g t w ∷ own) = refl
passes_again (Restart p e s true ∷ own) = refl
passes_again (Verdict p e s (Pass cut) true ∷ own) = refl
passes_again (Verdict p e s (Failed why) true ∷ own) = refl
passes_again (Verdict p e s (Invalid why) true ∷ own) = refl
passes_again (Verdict p e s (Pass cut) false ∷ own) = passes_again own
passes_again (Verdict p e s (Failed why) false ∷ own) = passes_again own
passes_again (Verdict p e s (Invalid why) false ∷ own) = passes_again own
passes_again (_ ∷ own) = passes_again own

-- ---- what is counted, or looked for, after it

comes_again : (is_so : Record → Bool) (own : Past) → came is_so own ≡ list_any is_so (since is_install own)
comes_again is_so [] = refl
comes_again is_so (Install a g t w ∷ own) = refl
comes_again is_so (r ∷ own) = ap (λ b. is_so r || b) (comes_again is_so own)

one_more : (is_so : Record → Bool) (r : Record) (past : Past) → is_so r ≡ true → count_by is_so (r ∷ past) ≡ suc (count_by is_so past)
one_more is_so r past is = let more = counted is_so r past true is in omega (arith, more)

none_more : (is_so : Record → Bool) (r : Record) (past : Past) → is_so r ≡ false → count_by is_so (r ∷ past) ≡ count_by is_so past
none_more is_so r past is = let same = counted is_so r past false is in omega (arith, same)

loses_again : (own : Past) → losses own ≡ count_by is_loss (since decides_anew own)
loses_again [] = refl
loses_again (Install a g t w ∷ own) = refl
loses_again (Verdict p e s v true ∷ own) = refl
loses_again (Restart p e s true ∷ own) = refl
loses_again (Lost p w true ∷ own) = ap suc (loses_again own) ∙ sym (one_more is_loss (Lost p w true) (since decides_anew own) refl)
loses_again (r ∷ own) = loses_again own ∙ sym (none_more is_loss r (since decides_anew own) refl)

misses_again : (own : Past) → missed own ≡ count_by is_miss (since is_install_or_arrival own)
misses_again [] = refl
misses_again (Install a g t w ∷ own) = refl
misses_again (Settled n outcome.Arrived true ∷ own) = refl
misses_again (Settled n outcome.Missed true ∷ own) =
    ap suc (misses_again own) ∙ sym (one_more is_miss (Settled n outcome.Missed true) (since is_install_or_arrival own) refl)
misses_again (r ∷ own) = misses_again own ∙ sym (none_more is_miss r (since is_install_or_arrival own) refl)

-- ---- what is accepted

was_again : (own : Past) (p : ℕ) (entries : List EntryFields) (boot : Boot) → WasAccepted p own entries boot ↔ IsAccepted (ahead_of (begins p) own) entries boot
unfolding HasAccepted
was_again [] p entries boot = (λ x. x, λ x. x)
was_again (Begin q a g n at from ∷ own) p entries boot = at_begin (eqb p q) (was_again own p entries boot) where
  at_begin : (t : Bool) → WasAccepted p own entries boot ↔ IsAccepted (ahead_of (begins p) own) entries boot
      → MatchBool t (IsAccepted own entries boot) (WasAccepted p own entries boot) ↔ IsAccepted (cond t own (ahead_of (begins p) own)) entries boot
  at_begin true further = (λ x. x, λ x. x)
  at_begin false further = further
was_again (_ ∷ own) p entries boot = was_again own p entries boot

accepts_again : (own : Past) (entries : List EntryFields) (boot : Boot)
    → IsAccepted own entries boot ↔ AcceptsAfter (last_of decides_accepted own) (ahead_of decides_accepted own) entries boot
unfolding HasAccepted
accepts_again [] entries boot = (λ x. x, λ x. x)
accepts_again (Install a g t w ∷ own) entries boot = (λ x. x, λ x. x)
accepts_again (Remove a ∷ own) entries boot = (λ x. x, λ x. x)
accepts_again (Restart p e s true ∷ own) entries boot = (λ x. x, λ x. x)
accepts_again (Restart p e s false ∷ own) entries boot = accepts_again own entries boot
accepts_again (Verdict p e s (Pass cut) true ∷ own) entries boot = (
  λ x. (x.0, x.1, (was_again own p x.0 x.1).0 x.2, x.3),
  λ x. (x.0, x.1, (was_again own p x.0 x.1).1 x.2, x.3),
)
accepts_again (Verdict p e s (Pass cut) false ∷ own) entries boot = accepts_again own entries boot
accepts_again (Verdict p e s (Failed why) v ∷ own) entries boot = accepts_again own entries boot
accepts_again (Verdict p e s (Invalid why) v ∷ own) entries boot = accepts_again own entries boot
accepts_again (_ ∷ own) entries boot = accepts_again own entries boot

-- ---- what V has reached

hands_again : (n : ℕ) (own : Past) → handed_for n own ≡ option_and_then handed_by (last_of (releases n) (since is_add own))
hands_again n [] = refl
hands_again n (Install a g t Add ∷ own) = refl
hands_again n (Install a g t Replace ∷ own) = hands_again n own
hands_again n (Install a g t Reactivate ∷ own) = hands_again n own
hands_again n (Release m a g p ∷ own) = at_release (eqb n m) (hands_again n own) where
  at_release : (t : Bool) → handed_for n own ≡ option_and_then handed_by (last_of (releases n) (since is_add own))
      → cond t (Some p) (handed_for n own) ≡ option_and_then handed_by (cond t (Some (Release m a g p)) (last_of (releases n) (since is_add own)))
  at_release true further = refl
  at_release false further = further
hands_again n (_ ∷ own) = hands_again n own

-- a pass of the poll stands there, and its quote signs the boot
abbrev IsSigned : ℕ → Past → Boot → Type 0
IsSigned p own boot = (newer older : Past) × (e : Evidence) × (s : Bool) × (cut : ℕ) × (c : Bool) × StandsAmid newer (Verdict p e s (Pass cut) c) older own × SignsBoot e boot

signed_later : (r : Record) (p : ℕ) (own : Past) (boot : Boot) → IsSigned p own boot → IsSigned p (r ∷ own) boot
signed_later r p own boot (newer, older, e, s, cut, c, stands, signs) = (r ∷ newer, older, e, s, cut, c, ap (λ l. r ∷ l) stands, signs)

signed : (p : ℕ) (own : Past) (boot : Boot) → PassedUnder p own boot → IsSigned p own boot
signed p [] boot none = absurd none
signed p (Verdict q e s (Pass cut) c ∷ own) boot (inl (same, signs)) = ([], own, e, s, cut, c, ap (λ x. Verdict x e s (Pass cut) c ∷ own) (sym same), signs)
signed p (Verdict q e s (Pass cut) c ∷ own) boot (inr more) = signed_later (Verdict q e s (Pass cut) c) p own boot (signed p own boot more)
signed p (r ∷ own) boot more = signed_later r p own boot (signed p own boot more)

passed_amid : (newer older : Past) (p : ℕ) (e : Evidence) (s : Bool) (cut : ℕ) (c : Bool) (boot : Boot) → SignsBoot e boot → PassedUnder p (newer ++ Verdict p e s (Pass cut) c ∷ older) boot
passed_amid [] older p e s cut c boot signs = inl (refl, signs)
passed_amid (Verdict q f u (Pass place) d ∷ newer) older p e s cut c boot signs = inr (passed_amid newer older p e s cut c boot signs)
passed_amid (_ ∷ newer) older p e s cut c boot signs = passed_amid newer older p e s cut c boot signs

signs_again : (p : ℕ) (own : Past) (boot : Boot) → PassedUnder p own boot ↔ IsSigned p own boot
signs_again p own boot = (
  signed p own boot,
  λ x. subst (λ o. PassedUnder p o boot) (sym x.6) (passed_amid x.0 x.1 p x.2 x.3 x.4 x.5 boot x.7),
)

-- an arrival stands there after the last Install by Add, by which V reached the boot
abbrev IsArrived : Past → Boot → Type 0
IsArrived own boot = (newer older : Past) × (n : ℕ) × (c : Bool) × StandsAmid newer (Settled n outcome.Arrived c) older own × (list_any is_add newer ≡ false) × ReachesBy n older boot

arrived_later : (r : Record) (own : Past) (boot : Boot) → is_add r ≡ false → IsArrived own boot → IsArrived (r ∷ own) boot
arrived_later r own boot not_add (newer, older, n, c, stands, none, by) =
    (r ∷ newer, older, n, c, ap (λ l. r ∷ l) stands, ap (λ b. b || list_any is_add newer) not_add ∙ none, by)

arrived : (own : Past) (boot : Boot) → HasReached own boot → IsArrived own boot
arrived [] boot none = absurd none
arrived (Install a g t Add ∷ own) boot none = absurd none
arrived (Settled n outcome.Arrived c ∷ own) boot (inl by) = ([], own, n, c, refl, refl, by)
arrived (Settled n outcome.Arrived c ∷ own) boot (inr more) = arrived_later (Settled n outcome.Arrived c) own boot refl (arrived own boot more)
arrived (r ∷ own) boot more = arrived_later r own boot refl (arrived own boot more)

reached_amid : (newer older : Past) (n : ℕ) (c : Bool) (boot : Boot) → list_any is_add newer ≡ false → ReachesBy n older boot → HasReached (newer ++ Settled n outcome.Arrived c ∷ older) boot
reached_amid [] older n c boot none by = inl by
reached_amid (Install a g t Add ∷ newer) older n c boot none by = absurd (false≢true (sym none))
reached_amid (Settled m outcome.Arrived d ∷ newer) older n c boot none by = inr (reached_amid newer older n c boot none by)
reached_amid (_ ∷ newer) older n c boot none by = reached_amid newer older n c boot none by

reaches_again : (own : Past) (boot : Boot) → HasReached own boot ↔ IsArrived own boot
reaches_again own boot = (
  arrived own boot,
  λ x. subst (λ o. HasReached o boot) (sym x.4) (reached_amid x.0 x.1 x.2 x.3 boot x.5 x.6),
)

pub are_told_again : (own : Past) → AreToldAgain own
are_told_again own = record {
  installs = installs_again own;
  comes = λ is_so. comes_again is_so own;
  loses = loses_again own;
  misses = misses_again own;
  passes = passes_again own;
  accepts = accepts_again own;
  accepted = was_again own;
  hands = λ n. hands_again n own;
  signs = λ p boot. signs_again p own boot;
  reaches = reaches_again own;
}
