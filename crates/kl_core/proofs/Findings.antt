-- A poll is closed by a finding: what the rules say of it, and what is kept of its agent from then on.
use Rattle.std.proofs.Common.{◌≡◌, ℕ, Bool, true, false, List, [], ◌++◌, take, inl, inr, refl, ap, sym, ◌∙◌, arith}
use Rattle.std.proofs.lemmas.Bool.{cases_eq}
use Rattle.kl_entry.specs.Entries.{EntryFields}
use Rattle.kl_quote.specs.declared.evidence.Evidence.{Evidence}
use Rattle.kl_states.specs.declared.verdict.Verdict.TheVariants.{Pass, Invalid}
use Rattle.kl_states.specs.declared.verdict.InvalidCause.{InvalidCause}
use Rattle.kl_states.specs.declared.verdict.InvalidCause.TheVariants.{Signature, Start as BadStart}
use Rattle.kl_appraise.specs.declared.judged.Boot.{Boot}
use Rattle.kl_appraise.specs.Terms.{TermsFields}
use Rattle.kl_appraise.specs.QuoteRules.{◌otherwise◌, QuoteRules}
use Rattle.kl_appraise.specs.ListRules.{Case, check_of, Continues, IsPlace, IsCut, ByStart, ByBoot, ByPcr, ByLine, ByListFull, ByUnmatched, ByEntry, ByPass, ListRules}
use Rattle.kl_appraise.specs.declared.judged.Outcome.{Outcome}
use Rattle.kl_appraise.specs.declared.judged.Outcome.TheVariants.{Verdict as Judged}
use Rattle.kl_appraise.specs.declared.judged.Outcome.TheVariants as rules
use Rattle.kl_appraise.specs.Outcome.{IsOutcome}

-- ---- a poll of the whole list is appraised alike whatever was accepted before
map_otherwise : {A : Type 0} → (first second other last : A → Type 0) (x : A) → ((y : A) → first y → other y) → ((y : A) → other y → first y) → (second x → last x)
    → (first otherwise second) x → (other otherwise last) x
map_otherwise first second other last x there back rest (inl is) = inl (there x is)
map_otherwise first second other last x there back rest (inr is) = inr (λ y has. is.0 y (back y has), rest is.1)

-- what a reply to a poll of the whole list is appraised as, whatever was accepted before
abbrev pub asked : TermsFields → List ℕ → Evidence → Bool → List EntryFields → Boot → Case
asked t n e s prefix boot = record { terms = t; nonce = n; from = 0; prefix = prefix; boot = boot; evidence = e; signed = s }

none_taken : (e : Evidence) (xs : List EntryFields) → e.start ≡ 0 → take e.start xs ≡ []
none_taken e xs is = ap (λ n. take n xs) is

pub same_whole : (e : Evidence) (xs ys whole : List EntryFields) → e.start ≡ 0 → Continues xs e whole → Continues ys e whole
same_whole e xs ys whole is continues =
    (continues.0, continues.1, continues.2 ∙ ap (λ zs. zs ++ continues.0) (none_taken e xs is ∙ sym (none_taken e ys is)))

-- the rules from one on
abbrev pub from_entry : Case → Outcome → Type 0
from_entry c = ByEntry c otherwise ByPass c

abbrev pub from_unmatched : Case → Outcome → Type 0
from_unmatched c = ByUnmatched c otherwise from_entry c

abbrev pub from_full : Case → Outcome → Type 0
from_full c = ByListFull c otherwise from_unmatched c

abbrev pub from_line : Case → Outcome → Type 0
from_line c = ByLine c otherwise from_full c

abbrev pub from_pcr : Case → Outcome → Type 0
from_pcr c = ByPcr c otherwise from_line c

abbrev pub from_boot : Case → Outcome → Type 0
from_boot c = ByBoot c otherwise from_pcr c

module _ (t : TermsFields) (n : List ℕ) (e : Evidence) (s : Bool) where
  same_place : (xs ys : List EntryFields) (a b : Boot) (whole : List EntryFields) (cut : ℕ) → IsPlace (asked t n e s xs a) whole cut → IsPlace (asked t n e s ys b) whole cut
  same_place xs ys a b whole cut place = record { behind = place.behind; some = place.some; inside = place.inside }

  same_cut : (xs ys : List EntryFields) (a b : Boot) (whole : List EntryFields) (cut : ℕ) → IsCut (asked t n e s xs a) whole cut → IsCut (asked t n e s ys b) whole cut
  same_cut xs ys a b whole cut is = record {
    place = same_place xs ys a b whole cut is.place;
    replays = is.replays;
    least = λ values less has place lt. is.least values less has (same_place ys xs b a whole less place) lt;
  }

  same_unmatched : (xs ys : List EntryFields) (a b : Boot) → e.start ≡ 0 → (o : Outcome) → ByUnmatched (asked t n e s xs a) o → ByUnmatched (asked t n e s ys b) o
  same_unmatched xs ys a b is o by = (λ whole cut continues at. by.0 whole cut (same_whole e ys xs whole is continues) (same_cut ys xs b a whole cut at), by.1)

  same_entry : (xs ys : List EntryFields) (a b : Boot) → e.start ≡ 0 → (o : Outcome) → ByEntry (asked t n e s xs a) o → ByEntry (asked t n e s ys b) o
  same_entry xs ys a b is o by = (by.0, by.1, by.2, by.3, same_whole e xs ys by.0 is by.4, same_cut xs ys a b by.0 by.1 by.5, by.6, by.7)

  same_pass : (xs ys : List EntryFields) (a b : Boot) → e.start ≡ 0 → (o : Outcome) → ByPass (asked t n e s xs a) o → ByPass (asked t n e s ys b) o
  same_pass xs ys a b is o by = (by.0, by.1, same_whole e xs ys by.0 is by.2, same_cut xs ys a b by.0 by.1 by.3, by.4)

  same_boot : (xs ys : List EntryFields) (a b : Boot) → e.start ≡ 0 → (o : Outcome) → ByBoot (asked t n e s xs a) o → ByBoot (asked t n e s ys b) o
  same_boot xs ys a b is o by = absurd (let more = by.0 in omega arith)

  same_list : (xs ys : List EntryFields) (a b : Boot) → e.start ≡ 0 → (o : Outcome) → ListRules (asked t n e s xs a) o → ListRules (asked t n e s ys b) o
  same_list xs ys a b is o =
      let c = asked t n e s xs a in
      let d = asked t n e s ys b in
      map_otherwise (ByStart c) (from_boot c) (ByStart d) (from_boot d) o (λ y by. by) (λ y by. by)
      (map_otherwise (ByBoot c) (from_pcr c) (ByBoot d) (from_pcr d) o (same_boot xs ys a b is) (same_boot ys xs b a is)
      (map_otherwise (ByPcr c) (from_line c) (ByPcr d) (from_line d) o (λ y by. by) (λ y by. by)
      (map_otherwise (ByLine c) (from_full c) (ByLine d) (from_full d) o (λ y by. by) (λ y by. by)
      (map_otherwise (ByListFull c) (from_unmatched c) (ByListFull d) (from_unmatched d) o (λ y by. by) (λ y by. by)
      (map_otherwise (ByUnmatched c) (from_entry c) (ByUnmatched d) (from_entry d) o (same_unmatched xs ys a b is) (same_unmatched ys xs b a is)
      (map_otherwise (ByEntry c) (ByPass c) (ByEntry d) (ByPass d) o (same_entry xs ys a b is) (same_entry ys xs b a is) (same_pass xs ys a b is o)))))))

  -- the outcome is the same whatever was accepted before
  pub same_outcome : (xs ys : List EntryFields) (a b : Boot) (o : Outcome) → IsOutcome (asked t n e s xs a) o → IsOutcome (asked t n e s ys b) o
  same_outcome xs ys a b o (inl by) = inl by
  same_outcome xs ys a b o (inr (not_quote, by)) = inr (
    not_quote,
    elim (cases_eq e.start 0) [
      | inl is ↦ same_list xs ys a b is o by
      | inr ne ↦ by_start ne by
    ],
  ) where
    by_start : (e.start ≡ 0 → ⊥) → ListRules (asked t n e s xs a) o → ListRules (asked t n e s ys b) o
    by_start ne (inl start) = inl start
    by_start ne (inr rest) = absurd (rest.0 (Judged (Invalid BadStart)) (ne, ne, refl))

  -- a reply that passes begins at the first entry
  pub passes_from_first : (xs : List EntryFields) (a : Boot) (cut : ℕ) → IsOutcome (asked t n e s xs a) (Judged (Pass cut)) → e.start ≡ 0
  passes_from_first xs a cut (inl by) = cc by.2
  passes_from_first xs a cut (inr (not_quote, inl start)) = cc start.2
  passes_from_first xs a cut (inr (not_quote, inr rest)) = elim (cases_eq e.start 0) [
    | inl is ↦ is
    | inr ne ↦ absurd (rest.0 (Judged (Invalid BadStart)) (ne, ne, refl))
  ]

-- a reply that shows a new boot is signed
pub restart_signed : (c : Case) → IsOutcome c rules.Restart → c.signed ≡ true
restart_signed c (inl by) = cc by.2
restart_signed c (inr (not_quote, by)) = signed c.signed refl where
  no_quote : (why : InvalidCause) → ¬ (QuoteRules (check_of c) why)
  no_quote why by = not_quote (Judged (Invalid why)) (why, by, refl)

  signed : (b : Bool) → c.signed ≡ b → b ≡ true
  signed true is = refl
  signed false is =
      absurd
      (no_quote Signature
      (inr (
        λ y by. no_quote y (inl by),
        inr (
          λ y by. no_quote y (inr (λ z form. no_quote z (inl form), inl by)),
          inr (
            λ y by. no_quote y (inr (λ z form. no_quote z (inl form), inr (λ z bank. no_quote z (inr (λ x form. no_quote x (inl form), inl bank)), inl by))),
            inl (is, refl),
          ),
        ),
      )))
