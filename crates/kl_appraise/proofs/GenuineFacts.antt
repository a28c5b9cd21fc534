-- Genuine evidence passes where the policy allows its list.
use Rattle.std.proofs.Common.{◌≡◌, ℕ, zero, suc, ◌<◌, ◌⊎◌, Bool, true, false, List, length, take, refl, subst, inl, inr, arith}
use Rattle.std.proofs.lemmas.Bool.{cases_lt, false≢true}
use Rattle.std.proofs.lemmas.Slice.Eq.{bytes_eq-Decides}
use Rattle.std.specs.Bool.{Decides}
use Rattle.std.specs.Str.{bytes_eq}
use Rattle.kl_bank.specs.Banks.{zeros_of}
use Rattle.kl_entry.specs.Entries.{EntryFields}
use Rattle.kl_pcr.specs.Replay.{replay_of}
use Rattle.kl_pcr.specs.Values.{value_at}
use Rattle.kl_states.specs.declared.verdict.Verdict.{Verdict}
use Rattle.kl_states.specs.declared.verdict.Verdict.TheVariants.{Pass}
use Rattle.kl_appraise.specs.Evidence.{HasValues}
use Rattle.kl_appraise.specs.ListRules.{Case, Outcome, Judged, check_of, IsPlace, Replays, IsCut, ByPass}
use Rattle.kl_appraise.specs.Outcome.{IsOutcome, IsVerdict}
use Rattle.kl_appraise.specs.Genuine.{IsGenuine, AllowsList, IsPass}
use Rattle.kl_appraise.proofs.QuoteFacts.{sound_by, values_unique}
use Rattle.kl_appraise.proofs.ListFacts.{behind_nothing, whole_from, line_count, not_start, not_boot, not_pcr, not_line, not_full, not_unmatched, bad_excluded}

-- ---- The least number at which something holds, which can be decided

either_same : (a b : List ℕ) → (a ≡ b) ⊎ (¬ (a ≡ b))
either_same a b = by_test (bytes_eq a b) (bytes_eq-Decides a b)
  where
    by_test : (r : Bool) → Decides r (a ≡ b) → (a ≡ b) ⊎ (¬ (a ≡ b))
    by_test true decides = inl (decides.0 refl)
    by_test false decides = inr (λ same. false≢true (decides.1 same))

least_below : (P : ℕ → Type 0) → ((n : ℕ) → P n ⊎ (¬ (P n))) → (n : ℕ) → ((m : ℕ) × P m × ((k : ℕ) → k < m → ¬ (P k))) ⊎ ((k : ℕ) → k < n → ¬ (P k))
least_below P decide zero = inr (λ k below. absurd (omega arith))
least_below P decide (suc n) =
    elim (least_below P decide n) [
      | inl found ↦ inl found
      | inr none ↦ elim (decide n) [
        | inl here ↦ inl (n, here, none)
        | inr other ↦ inr (λ k below. elim (cases_lt k n) [
          | inl earlier ↦ none k earlier
          | inr later ↦ let same : k ≡ n = omega arith in λ holds. other (subst P same holds)
        ])
      ]
    ]

pub least_at : (P : ℕ → Type 0) → ((n : ℕ) → P n ⊎ (¬ (P n))) → (n : ℕ) → P n → (m : ℕ) × P m × ((k : ℕ) → k < m → ¬ (P k))
least_at P decide n holds =
    elim (least_below P decide (suc n)) [
      | inl found ↦ found
      | inr none ↦ absurd (none n (omega arith) holds)
    ]

-- ---- A place that replays to the quoted value gives a cut

either_place : (c : Case) (whole : List EntryFields) (n : ℕ) → IsPlace c whole n ⊎ (¬ (IsPlace c whole n))
either_place c whole n =
    elim (cases_lt n c.evidence.start) [
      | inl before ↦ inr (λ place. let at = place.behind in omega arith)
      | inr behind ↦ elim (cases_lt n 1) [
        | inl none ↦ inr (λ place. let at = place.some in omega arith)
        | inr some ↦ elim (cases_lt (length whole) n) [
          | inl past ↦ inr (λ place. let at = place.inside in omega arith)
          | inr inside ↦ inl (record { behind = behind; some = some; inside = inside })
        ]
      ]
    ]

abbrev Fits : Case → List ℕ → List EntryFields → ℕ → Type 0
Fits c values whole n = IsPlace c whole n × Replays c values whole n

either_fits : (c : Case) (values : List ℕ) (whole : List EntryFields) (n : ℕ) → Fits c values whole n ⊎ (¬ (Fits c values whole n))
either_fits c values whole n =
    elim (either_place c whole n) [
      | inr other ↦ inr (λ fits. other fits.0)
      | inl place ↦ elim (either_same (replay_of c.terms.bank (take n whole)) (value_at c.terms.bank c.terms.mask values 10)) [
        | inl same ↦ inl (place, same)
        | inr other ↦ inr (λ fits. other fits.1)
      ]
    ]

pub cut_at : (c : Case) (values : List ℕ) (whole : List EntryFields) (n : ℕ) → HasValues c.evidence.quote values → IsPlace c whole n → Replays c values whole n → (cut : ℕ) × IsCut c whole cut
cut_at c values whole n has place matches =
    let (m, fits, least) = least_at (Fits c values whole) (either_fits c values whole) n (place, matches) in (
      m,
      record {
        place = fits.0;
        replays = λ v h. subst (λ (x : List ℕ). Replays c x whole m) (values_unique c.evidence.quote values v has h) fits.1;
        least = λ v less h there below same.
            least less below (there, subst (λ (x : List ℕ). Replays c x whole less) (values_unique c.evidence.quote v values h has) same);
      },
    )

-- ---- It passes, since no rule before the last applies.

pub genuine_outcome : (c : Case) (o : Outcome) → IsGenuine c → AllowsList c → IsOutcome c o → ByPass c o
genuine_outcome c o g allows (inl (why, rule, _)) = absurd (sound_by (check_of c) g.quoted g.values g.quote why rule)
genuine_outcome c o g allows (inr (_, inl x)) = absurd (not_start c (zeros_of c.terms.bank) (behind_nothing c g.start) o x)
genuine_outcome c o g allows (inr (_, inr (_, inl x))) = absurd (not_boot c (zeros_of c.terms.bank) (behind_nothing c g.start) o x)
genuine_outcome c o g allows (inr (_, inr (_, inr (_, inl x)))) = absurd (not_pcr c g.values g.quote.has_values g.statics o x)
genuine_outcome c o g allows (inr (_, inr (_, inr (_, inr (_, inl x))))) = absurd (not_line c g.entries g.lines o x)
genuine_outcome c o g allows (inr (_, inr (_, inr (_, inr (_, inr (_, inl x)))))) =
    let start = g.start in
    let short = g.short in
    absurd (not_full c g.entries g.lines (omega (arith, line_count c.evidence.list g.entries g.lines)) o x)
genuine_outcome c o g allows (inr (_, inr (_, inr (_, inr (_, inr (_, inr (_, inl x))))))) =
    let (cut, is) = cut_at c g.values g.entries g.place g.quote.has_values g.inside g.matches in
    absurd (not_unmatched c g.entries cut (whole_from c g.entries g.start g.lines) is o x)
genuine_outcome c o g allows (inr (_, inr (_, inr (_, inr (_, inr (_, inr (_, inr (_, inl (whole, cut, place, why, is, at, bad, _))))))))) =
    absurd (bad_excluded c.terms.policy _ place why (allows whole cut is at) bad)
genuine_outcome c o g allows (inr (_, inr (_, inr (_, inr (_, inr (_, inr (_, inr (_, inr (_, passes))))))))) = passes

judged_same : (v w : Verdict) → Judged v ≡ Judged w → v ≡ w
judged_same v w same = cc

pub genuine_passes : (c : Case) (v : Verdict) → IsGenuine c → AllowsList c → IsVerdict c v → IsPass c v
genuine_passes c v g allows is =
    let (whole, cut, list, at, same) = genuine_outcome c (Judged v) g allows is in
    (whole, cut, list, at, judged_same v (Pass cut) same)
