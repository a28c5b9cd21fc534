-- The one selection that is not empty, as what a filter leaves.
use Rattle.std.proofs.Common.{◌≡◌, ℕ, ◌+◌, ◌-◌, ◌<◌, ◌≤◌, Bool, true, false, not, cond, List, [], ◌∷◌, ◌++◌, Option, Some, None, is_some, Result, Ok, Err, refl, sym, ap, subst, ◌∙◌, arith}
use Rattle.std.specs.Prelude.{IsOk, IfSome, IfNone}
use Rattle.std.specs.List.{filter, AllByRecursion}
use Rattle.std.proofs.lemmas.List.Elements.{All-from_recursion, recursion_from_All, filter-append}
use Rattle.kl_attest.specs.declared.fault.AttestFault.{AttestFault}
use Rattle.kl_attest.specs.declared.cursor.BankSelection.{BankSelection}
use Rattle.kl_base.specs.Bytes.{IsBytes}
use Rattle.kl_attest.specs.Grammar.{Selection, IsSelection}
use Rattle.kl_attest.specs.Pcrs.{is_zero, mask_of, AreBelow24, IsEmptySelection, IsLone, OneSet}
use Rattle.kl_attest.specs.Inner.Reading.{Place, selection_at, listed_at, listed}
use Rattle.kl_attest.specs.Inner.Seen.{selection_of}
use Rattle.kl_attest.proofs.Bits.{empty_of, chosen_of, zero_of}
use Rattle.kl_attest.proofs.Quotes.{listed_reads}
use Rattle.kl_attest.proofs.Steps.{goes, none_left}

abbrev pub is_chosen : Selection → Bool
is_chosen s = not (is_zero s.select)

abbrev pub chosen : List Selection → List Selection
chosen ss = filter is_chosen ss

-- ---- all that were read are selections

listed_fit : (n : ℕ) (p : Place) (r : Result (List Selection × Place) AttestFault) → IsBytes p.rest → listed_at n p ≡ r → AllByRecursion IsSelection (listed r)
listed_fit n p (Ok x) fits e = ((listed_reads n).takes p x fits e).1.1
listed_fit n p (Err d) fits e = tt

pub are_selections : (n : ℕ) (p : Place) → IsBytes p.rest → AllByRecursion IsSelection (listed (listed_at n p))
are_selections n p fits = listed_fit n p (listed_at n p) fits refl

-- ---- from what the filter leaves

no_more_by : (s : Selection) (ss : List Selection) (b : Bool) → is_zero s.select ≡ b → cond (not b) (s ∷ chosen ss) (chosen ss) ≡ [] → (is_zero s.select ≡ true) × (chosen ss ≡ [])
no_more_by s ss true e h = (e, h)
no_more_by s ss false e h = absurd cc

no_more : (ss : List Selection) → chosen ss ≡ [] → AllByRecursion IsEmptySelection ss
no_more [] h = tt
no_more (s ∷ ss) h =
    let first = no_more_by s ss (is_zero s.select) refl h in
    (empty_of s first.0, no_more ss first.1)

lone_by : (s : Selection) (ss : List Selection) (one : Selection) (b : Bool) → IsSelection s → (chosen ss ≡ one ∷ [] → IsLone ss one) → is_zero s.select ≡ b
    → cond (not b) (s ∷ chosen ss) (chosen ss) ≡ one ∷ [] → IsLone (s ∷ ss) one
lone_by s ss one true fits so_far e h =
    let others = so_far h in
    let empties : AllByRecursion IsEmptySelection (s ∷ others.before) = (empty_of s e, recursion_from_All IsEmptySelection others.before others.before_empty) in
    record { before = s ∷ others.before; after = others.after; parts = ap (λ (t : List Selection). s ∷ t) others.parts; before_empty = All-from_recursion IsEmptySelection (s ∷ others.before) empties; after_empty = others.after_empty; chosen = others.chosen }
lone_by s ss one false fits so_far e h =
    let same : s ≡ one = cc in
    let none : chosen ss ≡ [] = cc in
    subst (λ (t : Selection). IsLone (s ∷ ss) t) same (record { before = []; after = ss; parts = refl; before_empty = All-from_recursion IsEmptySelection [] tt; after_empty = All-from_recursion IsEmptySelection ss (no_more ss none); chosen = chosen_of s fits.select.each e })

pub lone_of : (ss : List Selection) (one : Selection) → AllByRecursion IsSelection ss → chosen ss ≡ one ∷ [] → IsLone ss one
lone_of [] one fits h = absurd cc
lone_of (s ∷ ss) one fits h = lone_by s ss one (is_zero s.select) fits.0 (lone_of ss one fits.1) refl h

-- ---- to what the filter leaves

leaves_none : (ss : List Selection) → AllByRecursion IsSelection ss → AllByRecursion IsEmptySelection ss → chosen ss ≡ []
leaves_none [] fits empties = refl
leaves_none (s ∷ ss) fits empties =
    let none : is_zero s.select ≡ true = zero_of s fits.0.select.each empties.0 in
    rw none (leaves_none ss fits.1 empties.1)

zero_false : (s : Selection) (b : Bool) → (IsEmptySelection s → ⊥) → is_zero s.select ≡ b → is_zero s.select ≡ false
zero_false s true some e = absurd (some (empty_of s e))
zero_false s false some e = e

parts_fit : (xs ys : List Selection) → AllByRecursion IsSelection (xs ++ ys) → AllByRecursion IsSelection xs × AllByRecursion IsSelection ys
parts_fit [] ys fits = (tt, fits)
parts_fit (x ∷ xs) ys fits = let others = parts_fit xs ys fits.1 in ((fits.0, others.0), others.1)

pub leaves_one : (ss : List Selection) (one : Selection) → AllByRecursion IsSelection ss → IsLone ss one → chosen ss ≡ one ∷ []
leaves_one ss one fits alone =
    let parts = parts_fit alone.before (one ∷ alone.after) (subst (λ (t : List Selection). AllByRecursion IsSelection t) alone.parts fits) in
    let front : chosen alone.before ≡ [] = leaves_none alone.before parts.0 (recursion_from_All IsEmptySelection alone.before alone.before_empty) in
    let back : chosen alone.after ≡ [] = leaves_none alone.after parts.1.1 (recursion_from_All IsEmptySelection alone.after alone.after_empty) in
    let here : is_zero one.select ≡ false = zero_false one (is_zero one.select) alone.chosen refl in
    let kept : chosen (one ∷ alone.after) ≡ one ∷ [] = rw here (ap (λ (t : List Selection). one ∷ t) back) in
    ap chosen alone.parts ∙ filter-append is_chosen alone.before (one ∷ alone.after) ∙ ap (λ (t : List Selection). t ++ chosen (one ∷ alone.after)) front ∙ kept

-- ---- the loop

-- the selection that was found so far
abbrev pub kept : Option BankSelection → List Selection
kept None = []
kept (Some s) = selection_of s ∷ []

-- what was found, and what is still to be read
pub record Seeks (count i : ℕ) (p : Place) (found : Option BankSelection) (ss : List Selection) : Type 0 where
  pub ok : IsOk (listed_at (count - i) p)
  pub each : AllByRecursion IsSelection ss
  pub left : kept found ++ chosen (listed (listed_at (count - i) p)) ≡ chosen ss

pub seeks_from : (count : ℕ) (p : Place) (ss : List Selection) → IsBytes p.rest → IsOk (listed_at count p) → listed (listed_at count p) ≡ ss → Seeks count 0 p None ss
seeks_from count p ss fits ok e =
    let each : AllByRecursion IsSelection ss = subst (λ (t : List Selection). AllByRecursion IsSelection t) e (are_selections count p fits) in
    let same : count - 0 ≡ count = omega arith in
    record { ok = rw same ok; each = each; left = rw same (ap chosen e) }

pub seeks_past : (count i : ℕ) (p : Place) (found : Option BankSelection) (ss : List Selection) (s : Selection) (q : Place) → i < count → selection_at p ≡ Ok (s, q)
    → is_zero s.select ≡ true → Seeks count i p found ss → Seeks count (i + 1) q found ss
seeks_past count i p found ss s q lt h zero_in so_far =
    let g = goes count i p s q lt h so_far.ok in
    let step : chosen (listed (listed_at (count - i) p)) ≡ chosen (listed (listed_at (count - (i + 1)) q)) = ap chosen g.first ∙ rw zero_in refl in
    record { ok = g.ok; each = so_far.each; left = ap (λ (t : List Selection). kept found ++ t) (sym step) ∙ so_far.left }

stays : (count i : ℕ) (p : Place) (found : Option BankSelection) (ss : List Selection) (s : Selection) (q : Place) → i < count → selection_at p ≡ Ok (s, q)
    → is_zero s.select ≡ false → Seeks count i p found ss → IsOk (listed_at (count - (i + 1)) q) × (kept found ++ (s ∷ chosen (listed (listed_at (count - (i + 1)) q))) ≡ chosen ss)
stays count i p found ss s q lt h some so_far =
    let g = goes count i p s q lt h so_far.ok in
    let step : chosen (listed (listed_at (count - i) p)) ≡ s ∷ chosen (listed (listed_at (count - (i + 1)) q)) = ap chosen g.first ∙ rw some refl in
    (g.ok, ap (λ (t : List Selection). kept found ++ t) (sym step) ∙ so_far.left)

pub seeks_found : (count i : ℕ) (p : Place) (found : Option BankSelection) (ss : List Selection) (s : BankSelection) (q : Place) → i < count → selection_at p ≡ Ok (selection_of s, q)
    → is_zero s.select.now ≡ false → is_some found ≡ false → Seeks count i p found ss → Seeks count (i + 1) q (Some s) ss
seeks_found count i p None ss s q lt h some first so_far =
    let g = stays count i p None ss (selection_of s) q lt h some so_far in
    record { ok = g.0; each = so_far.each; left = g.1 }
seeks_found count i p (Some o) ss s q lt h some first so_far = absurd cc

-- a second one
pub seeks_two : (count i : ℕ) (p : Place) (found : Option BankSelection) (ss : List Selection) (s : Selection) (q : Place) (one : Selection) → i < count → selection_at p ≡ Ok (s, q)
    → is_zero s.select ≡ false → is_some found ≡ true → Seeks count i p found ss → IsLone ss one → ⊥
seeks_two count i p None ss s q one lt h some second so_far alone = absurd cc
seeks_two count i p (Some o) ss s q one lt h some second so_far alone =
    let g = stays count i p (Some o) ss s q lt h some so_far in
    let two : selection_of o ∷ s ∷ chosen (listed (listed_at (count - (i + 1)) q)) ≡ one ∷ [] = g.1 ∙ leaves_one ss one so_far.each alone in
    cc

seeks_all : (count i : ℕ) (p : Place) (found : Option BankSelection) (ss : List Selection) → count ≤ i → Seeks count i p found ss → kept found ++ [] ≡ chosen ss
seeks_all count i p found ss le so_far = ap (λ (t : List Selection). kept found ++ t) (sym (ap chosen (none_left count i p le))) ∙ so_far.left

pub ends_found : (count i : ℕ) (p : Place) (found : Option BankSelection) (ss : List Selection) → count ≤ i → Seeks count i p found ss → IfSome found (λ one. IsLone ss (selection_of one))
ends_found count i p None ss le so_far = tt
ends_found count i p (Some s) ss le so_far = lone_of ss (selection_of s) so_far.each (sym (seeks_all count i p (Some s) ss le so_far))

pub ends_only : (count i : ℕ) (p : Place) (found : Option BankSelection) (ss : List Selection) (one : Selection) → count ≤ i → Seeks count i p found ss → IsLone ss one → IfSome found (λ s. selection_of s ≡ one)
ends_only count i p None ss one le so_far alone = tt
ends_only count i p (Some s) ss one le so_far alone =
    let same : selection_of s ∷ [] ≡ one ∷ [] = seeks_all count i p (Some s) ss le so_far ∙ leaves_one ss one so_far.each alone in
    cc

pub ends_none : (count i : ℕ) (p : Place) (found : Option BankSelection) (ss : List Selection) → count ≤ i → Seeks count i p found ss → IfNone found ((one : Selection) → IsLone ss one → ⊥)
ends_none count i p None ss le so_far = λ one alone.
    let same : [] ≡ one ∷ [] = seeks_all count i p None ss le so_far ∙ leaves_one ss one so_far.each alone in
    cc
ends_none count i p (Some s) ss le so_far = tt

-- ---- the one set

pub set_none : (ss : List Selection) (s : BankSelection) (alg mask : ℕ) → ((one : Selection) → IsLone ss one → selection_of s ≡ one) → (AreBelow24 s.select.now → ⊥) → OneSet ss alg mask → ⊥
set_none ss s alg mask only high set =
    let same : selection_of s ≡ set.one = only set.one set.lone in
    high (subst (λ (t : Selection). AreBelow24 t.select) (sym same) set.below)

pub set_only : (ss : List Selection) (s : BankSelection) (alg mask m : ℕ) → ((one : Selection) → IsLone ss one → selection_of s ≡ one) → m ≡ mask_of s.select.now → OneSet ss alg mask → (s.alg ≡ alg) × (m ≡ mask)
set_only ss s alg mask m only m_is set =
    let same : selection_of s ≡ set.one = only set.one set.lone in
    (ap (λ (t : Selection). t.alg) same ∙ set.alg_is, m_is ∙ ap (λ (t : Selection). mask_of t.select) same ∙ sym set.mask_is)
