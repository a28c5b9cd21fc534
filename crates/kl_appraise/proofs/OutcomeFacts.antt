-- The outcome, and what it shows, by what the quote shows and what the list shows.
use Rattle.std.proofs.Common.{◌≡◌, ◌≢◌, ◌⊎◌, ℕ, Bool, true, List, Option, IfNone, refl, sym, ap, inr, inl, arith}
use Rattle.kl_attest.specs.Grammar.{Quoted}
use Rattle.kl_quote.specs.declared.evidence.Evidence.{Evidence}
use Rattle.kl_states.specs.declared.verdict.Verdict.{Verdict}
use Rattle.kl_states.specs.declared.verdict.Verdict.TheVariants.{Pass, Failed, Invalid}
use Rattle.kl_states.specs.declared.verdict.FailedCause.TheVariants.{Pcr, Line, ListFull, Unmatched, Entry}
use Rattle.kl_states.specs.declared.verdict.InvalidCause.TheVariants.{Form, Bank, Attest, Signature, Nonce, Selection, PcrLength, PcrDigest, Binding, Start}
use Rattle.kl_appraise.specs.declared.judged.Boot.{Boot}
use Rattle.kl_appraise.specs.declared.kept.Kept.{Kept}
use Rattle.kl_appraise.specs.declared.quoted.Checked.{Checked}
use Rattle.kl_appraise.specs.declared.quoted.Checked.TheVariants.{Refused, Sound}
use Rattle.kl_appraise.specs.Evidence.{Check, Attests, HasValues}
use Rattle.kl_appraise.specs.QuoteRules.{MeetsRules, IsGoodQuote, FindsCause}
use Rattle.kl_appraise.specs.ListRules.{Case, Outcome, Judged, Restart, check_of, boot_of, ListRules}
use Rattle.kl_appraise.specs.Outcome.{IsOutcome, HasBoot, IsReplayed, Measures, whole_case}
use Rattle.kl_appraise.specs.Kept.{IsNext}
use Rattle.kl_appraise.specs.Shown.{ShowsQuote, ShowsList}
use Rattle.kl_appraise.specs.Terms.{TermsFields}
use Rattle.kl_appraise.specs.Inner.Checked.{ChecksAs, answer_of, cause_in}
use Rattle.kl_appraise.specs.Inner.Listed.{PassesBeside, next_with, boot_in}
use Rattle.kl_appraise.proofs.QuoteFacts.{sound_by}

-- ---- What a check finds

pub finds : (check : Bool → Check) (checked : Checked) → ChecksAs check checked → FindsCause (check (answer_of checked)) (cause_in checked)
finds check (Refused why signed) rule = rule
finds check (Sound quote) (t, meets, _) = sound_by (check true) t quote.values meets

pub finds_good : (check : Bool → Check) (checked : Checked) → ChecksAs check checked → IfNone (cause_in checked) (IsGoodQuote (check true))
finds_good check (Refused why signed) rule = tt
finds_good check (Sound quote) (t, meets, _) = (t, quote.values, meets)

-- ---- Where no rule applies to the quote

pub sound_outcome : (c : Case) (t : Quoted) (values : List ℕ) (o : Outcome) → MeetsRules (check_of c) t values → ListRules c o → IsOutcome c o
sound_outcome c t values o meets list = inr (λ _ (why, rule, _). sound_by (check_of c) t values meets why rule, list)

pub shows_quote : (k : Check) (t : Quoted) (values : List ℕ) (o : Outcome) → MeetsRules k t values → ShowsQuote k o
shows_quote k t values (Judged (Pass _)) meets = (t, values, meets)
shows_quote k t values (Judged (Failed _)) meets = (t, values, meets)
shows_quote k t values (Judged (Invalid Start)) meets = (t, values, meets)
shows_quote k t values (Judged (Invalid (Form _))) meets = tt
shows_quote k t values (Judged (Invalid Bank)) meets = tt
shows_quote k t values (Judged (Invalid (Attest _))) meets = tt
shows_quote k t values (Judged (Invalid Signature)) meets = tt
shows_quote k t values (Judged (Invalid Nonce)) meets = tt
shows_quote k t values (Judged (Invalid Selection)) meets = tt
shows_quote k t values (Judged (Invalid PcrLength)) meets = tt
shows_quote k t values (Judged (Invalid PcrDigest)) meets = tt
shows_quote k t values (Judged (Invalid Binding)) meets = tt
shows_quote k t values Restart meets = (t, values, meets)

pub shows_list : (c : Case) (t : Quoted) (values : List ℕ) (o : Outcome) → MeetsRules (check_of c) t values → PassesBeside c t values o → ShowsList c o
shows_list c t values (Judged (Pass cut)) meets passes = (t, values, meets, passes)
shows_list c t values (Judged (Failed _)) meets passes = tt
shows_list c t values (Judged (Invalid _)) meets passes = tt
shows_list c t values Restart meets passes = tt

pub next_is : (terms : TermsFields) (quote : List ℕ) (t : Quoted) (values : List ℕ) (boot : Boot) (o : Outcome) → Attests quote t → HasValues quote values → boot_of t ≡ boot
    → IsNext terms quote o (next_with terms boot values o)
next_is terms quote t values boot (Judged (Pass cut)) attests has signs =
    (t, values, attests, has, ap (λ (b : Boot). next_with terms b values (Judged (Pass cut))) (sym signs))
next_is terms quote t values boot (Judged (Failed _)) attests has signs = refl
next_is terms quote t values boot (Judged (Invalid _)) attests has signs = refl
next_is terms quote t values boot Restart attests has signs = refl

-- ---- A poll of the whole list

-- what a verdict leaves to be kept has its boot
pub has_boot : (terms : TermsFields) (quote : List ℕ) (v : Verdict) (next : Option Kept) → IsNext terms quote (Judged v) next → HasBoot quote v (boot_in next)
has_boot terms quote (Pass cut) next (t, values, attests, has, is) = (t, attests, ap boot_in is)
has_boot terms quote (Failed _) next is = ap boot_in is
has_boot terms quote (Invalid _) next is = ap boot_in is

-- nothing is measured but for a verdict that a replay decides
pub measured_none : (c : Case) (v : Verdict) (n : ℕ) → Measures c (Judged v) n → IsReplayed v ⊎ (n ≡ 0)
measured_none c (Pass _) n cost = inl tt
measured_none c (Failed Unmatched) n cost = inl tt
measured_none c (Failed (Entry _ _)) n cost = inl tt
measured_none c (Failed (Pcr _)) n cost = inr cost
measured_none c (Failed (Line _ _)) n cost = inr cost
measured_none c (Failed ListFull) n cost = inr cost
measured_none c (Invalid _) n cost = inr cost

-- it never ends in the finding that the machine booted anew
pub no_restart : (terms : TermsFields) (nonce : List ℕ) (evidence : Evidence) (signed : Bool) → ¬ (IsOutcome (whole_case terms nonce evidence signed) Restart)
no_restart terms nonce evidence signed (inl (_, _, is)) = cc
no_restart terms nonce evidence signed (inr (_, inl (_, _, is))) = cc
no_restart terms nonce evidence signed (inr (_, inr (start, inl (later, _, _, _, _)))) =
    let some : evidence.start ≢ 0 = omega arith in start (Judged (Invalid Start)) (some, some, refl)
no_restart terms nonce evidence signed (inr (_, inr (_, inr (_, inl (_, _, _, _, is))))) = cc
no_restart terms nonce evidence signed (inr (_, inr (_, inr (_, inr (_, inl (_, _, _, is)))))) = cc
no_restart terms nonce evidence signed (inr (_, inr (_, inr (_, inr (_, inr (_, inl (_, is))))))) = cc
no_restart terms nonce evidence signed (inr (_, inr (_, inr (_, inr (_, inr (_, inr (_, inl (_, is)))))))) = cc
no_restart terms nonce evidence signed (inr (_, inr (_, inr (_, inr (_, inr (_, inr (_, inr (_, inl (_, _, _, _, _, _, _, is))))))))) = cc
no_restart terms nonce evidence signed (inr (_, inr (_, inr (_, inr (_, inr (_, inr (_, inr (_, inr (_, (_, _, _, _, is)))))))))) = cc
