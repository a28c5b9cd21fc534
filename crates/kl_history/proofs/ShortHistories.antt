-- How a written-out history is shown to be legal: its rows, one by one, and that it is short.
use Rattle.std.proofs.Common.{◌≡◌, ℕ, ◌*◌, ◌≤◌, Bool, true, false, not, ◌&&◌, ◌||◌, cond, eqb, List, [], ◌∷◌, length, sum_by, bytes_eq, Some, inl, inr, refl, ap, sym, ◌∙◌, arith, eqb-true, eq-eqb}
use Rattle.std.specs.Bool.{⊤}
use Rattle.std.specs.List.{list_any}
use Rattle.std.specs.Option.{option_map_or}
use Rattle.std.proofs.lemmas.Bool.{false≢true, and_from, and_parts, or_left, or_right, or_cases, false_from_ne_true}
use Rattle.std.proofs.lemmas.Option.{none-some}
use Rattle.std.proofs.lemmas.List.Sums.{sum_by-cons, count_by-le-length}
use Rattle.kl_history.specs.declared.record.Record.TheVariants.{Begin, Release, Settled}
use Rattle.kl_history.specs.Records.{Past, Beginning, start_of, is_begin, is_release, is_open, is_unsettled}
use Rattle.kl_history.specs.Legal.{IsLegalPast, Row, IsBusy, weight_of, Fits}
use Rattle.kl_history.proofs.OwnRecords.{bytes_eq-refl}

-- ---- what is short and light has room

abbrev pub AreRows : Past → Type 0
AreRows [] = ⊤
AreRows (r ∷ past) = AreRows past × Row past r

abbrev pub IsLight : Past → Type 0
IsLight [] = ⊤
IsLight (r ∷ past) = IsLight past × (weight_of r ≤ 16777216)

light_sum : (past : Past) → IsLight past → sum_by weight_of past ≤ 16777216 * length past
light_sum [] light = omega arith
light_sum (r ∷ past) light =
    let more = sum_by-cons weight_of r past in
    let rest = light_sum past light.0 in
    omega (arith, more, rest, light.1)

short_fits : (past : Past) → IsLight past → length past ≤ 30 → Fits past
short_fits past light short =
    let weight = light_sum past light in
    let begun = count_by-le-length is_begin past in
    let released = count_by-le-length is_release past in
    record { room = omega (arith, begun, released, short); bytes = omega (arith, weight, begun, short) }

pub legal_rows : (past : Past) → AreRows past → IsLight past → length past ≤ 30 → IsLegalPast past
legal_rows [] rows light short = tt
legal_rows (r ∷ past) rows light short = (legal_rows past rows.0 light.0 (omega (arith, short)), rows.1, short_fits (r ∷ past) light short)

-- ---- no poll is open

-- the numbers of the polls that began
abbrev begun : Past → List ℕ
begun [] = []
begun (Begin p a g n at from ∷ past) = p ∷ begun past
begun (_ ∷ past) = begun past

-- the poll is open, of this agent and generation
abbrev is_busy : Past → List ℕ → ℕ → ℕ → Bool
is_busy past a g p = is_open past p && option_map_or (λ (s : Beginning). bytes_eq s.agent a && eqb s.generation g) (start_of past p) false

has_begun : (past : Past) (p : ℕ) (s : Beginning) → start_of past p ≡ Some s → list_any (eqb p) (begun past) ≡ true
has_begun [] p s is = absurd (none-some s is)
has_begun (Begin q a g n at from ∷ past) p s is = by_case (eqb p q) is (has_begun past p s) where
  by_case : (t : Bool) → cond t (Some (record { agent = a; generation = g; nonce = n; at = at; from = from })) (start_of past p) ≡ Some s
      → (start_of past p ≡ Some s → list_any (eqb p) (begun past) ≡ true) → (t || list_any (eqb p) (begun past)) ≡ true
  by_case true found further = refl
  by_case false found further = further found
has_begun (_ ∷ past) p s is = has_begun past p s is

any_at : (test : ℕ → Bool) (ns : List ℕ) (n : ℕ) → list_any (eqb n) ns ≡ true → test n ≡ true → list_any test ns ≡ true
any_at test [] n among is = absurd (false≢true among)
any_at test (m ∷ ns) n among is = by_case (eqb n m) refl among (any_at test ns n) where
  by_case : (t : Bool) → eqb n m ≡ t → (t || list_any (eqb n) ns) ≡ true → (list_any (eqb n) ns ≡ true → test n ≡ true → list_any test ns ≡ true) → (test m || list_any test ns) ≡ true
  by_case true same among further = or_left (test m) (list_any test ns) (ap test (sym (eqb-true n m same)) ∙ is)
  by_case false other among further = or_right (test m) (list_any test ns) (further among is)

-- where a look at each poll that began finds none open, none is
pub idle : (past : Past) (a : List ℕ) (g : ℕ) → list_any (is_busy past a g) (begun past) ≡ false → (q : ℕ) → ¬ (IsBusy past a g q)
idle past a g none q = λ busy.
    let named : option_map_or (λ (s : Beginning). bytes_eq s.agent a && eqb s.generation g) (start_of past q) false ≡ true =
    ap (λ o. option_map_or (λ (s : Beginning). bytes_eq s.agent a && eqb s.generation g) o false) busy.began
    ∙ and_from (bytes_eq busy.started.agent a) (eqb busy.started.generation g) (ap (λ x. bytes_eq x a) busy.agent ∙ bytes_eq-refl a) (eq-eqb busy.started.generation g busy.generation) in
    false≢true (sym none ∙ any_at (is_busy past a g) (begun past) q (has_begun past q busy.started busy.began) (and_from (is_open past q) _ busy.unclosed named))

-- ---- no release is open

-- the numbers of the releases that were made
abbrev made : Past → List ℕ
made [] = []
made (Release n a g p ∷ past) = n ∷ made past
made (_ ∷ past) = made past

unsettled_made : (past : Past) (n : ℕ) → is_unsettled past n ≡ true → list_any (eqb n) (made past) ≡ true
unsettled_made [] n is = absurd (false≢true is)
unsettled_made (Release m a g p ∷ past) n is = elim (or_cases (eqb n m) (is_unsettled past n) is) [
  | inl here ↦ or_left (eqb n m) (list_any (eqb n) (made past)) here
  | inr before ↦ or_right (eqb n m) (list_any (eqb n) (made past)) (unsettled_made past n before)
]
unsettled_made (Settled m o c ∷ past) n is = unsettled_made past n (and_parts (not (eqb n m)) (is_unsettled past n) is).1
unsettled_made (_ ∷ past) n is = unsettled_made past n is

-- where a look at each release that was made finds none open, none is
pub all_settled : (past : Past) → list_any (is_unsettled past) (made past) ≡ false → (n : ℕ) → is_unsettled past n ≡ false
all_settled past none n = false_from_ne_true (is_unsettled past n) (λ is. false≢true (sym none ∙ any_at (is_unsettled past) (made past) n (unsettled_made past n is) is))
