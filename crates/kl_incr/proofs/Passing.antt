-- What an appraisal that may continue a list leaves to be kept.
use Rattle.std.proofs.Common.{◌≡◌, ℕ, ◌≤◌, Bool, false, List, length, take, Option, Some, refl, sym, subst}
use Rattle.std.proofs.lemmas.List.{length-take-le}
use Rattle.kl_entry.specs.Entries.{EntryFields}
use Rattle.kl_quote.specs.declared.evidence.Evidence.{Evidence}
use Rattle.kl_states.specs.declared.verdict.Verdict.TheVariants.{Pass, Failed, Invalid}
use Rattle.kl_appraise.specs.declared.judged.Boot.{Boot}
use Rattle.kl_appraise.specs.declared.kept.Kept.{Kept}
use Rattle.kl_appraise.specs.Terms.{TermsFields}
use Rattle.kl_appraise.specs.Evidence.{check_under}
use Rattle.kl_appraise.specs.Kept.{Stands, InEachCase, IsNext}
use Rattle.kl_appraise.specs.Outcome.{IsOutcome}
use Rattle.kl_appraise.specs.QuoteRules.{IsUnasked}
use Rattle.kl_appraise.specs.Shown.{ShowsList}
use Rattle.kl_appraise.specs.ListRules.{boot_of}
use Rattle.kl_pcr.specs.Values.{value_at}
use Rattle.kl_appraise.specs.declared.judged.Outcome.{Outcome}
use Rattle.kl_appraise.specs.declared.judged.Outcome.TheVariants.{Verdict as Judged, Restart}
use Rattle.kl_incr.specs.Kept.{TicketFields}
use Rattle.kl_incr.specs.Appraisal.{Keeps, IsAppraisal, case_of}

pub keeps_from : (t : TicketFields) (prefix : List EntryFields) (boot : Boot) (e : Evidence) (signed : Bool) (o : Outcome) (next : Option Kept)
    → IsNext t.terms e.quote o next → ShowsList (case_of t prefix boot e signed) o → Keeps t prefix e o next
keeps_from t prefix boot e signed (Judged (Pass cut)) next n shown =
    let passes = shown.3 in
    let inside : cut ≤ length passes.whole = passes.is_cut.place.inside in
    let k : Kept = record { boot = boot_of n.0; count = cut; pcr = value_at t.terms.bank t.terms.mask n.1 10 } in
    let long : length (take cut passes.whole) ≡ cut = length-take-le cut passes.whole inside in
    let kept : Stands (Some k) (take cut passes.whole) (boot_of n.0) t.terms = record {
      some = subst (λ (m : ℕ). 1 ≤ m) (sym long) passes.is_cut.place.some;
      count = sym long;
      pcr = sym (passes.is_cut.replays n.1 n.3);
      same_boot = refl;
      allowed = passes.allowed;
    } in
    (k, passes.whole, n.0, n.4, passes.is_whole, n.2, subst (λ (o : Option Kept). Stands o (take cut passes.whole) (boot_of n.0) t.terms) (sym n.4) kept)
keeps_from t prefix boot e signed (Judged (Failed why)) next n shown = n
keeps_from t prefix boot e signed (Judged (Invalid why)) next n shown = n
keeps_from t prefix boot e signed Restart next n shown = n

-- what is so of the parts of a ticket is so of equal ones
pub move : (P : TermsFields → List ℕ → Option Kept → Type 0) (t u : TermsFields) (n m : List ℕ) (k l : Option Kept) → t ≡ u → n ≡ m → k ≡ l → P t n k → P u m l
move P t u n m k l et en ek h =
    subst (λ (x : Option Kept). P u m x) ek (subst (λ (x : List ℕ). P u x k) en (subst (λ (x : TermsFields). P x n k) et h))

-- what was appraised of a ticket's own parts is an appraisal of it
pub appraisal_of : (t : TicketFields) (e : Evidence) (signed : Bool) (o : Outcome) (next : Option Kept)
    → InEachCase t.terms t.nonce t.kept e signed (λ c. IsOutcome c o) → InEachCase t.terms t.nonce t.kept e signed (λ c. ShowsList c o)
    → IsNext t.terms e.quote o next → (IsUnasked (check_under t.terms t.nonce e signed) → signed ≡ false) → IsAppraisal t e signed o next
appraisal_of t e signed o next out shown n un = record {
  outcome = out;
  unasked = un;
  keeps = λ prefix boot stands. keeps_from t prefix boot e signed o next n (shown prefix boot stands);
}
