-- Digests that lie in one buffer: what a digest more leaves as it was, and what halving finds.
use Rattle.std.proofs.Common.{◌≡◌, ℕ, ◌≤◌, Bool, true, false, Result, Ok, Err, OnErr, List, [], ◌∷◌, ◌++◌, length, drop, get_or, All, refl, sym, ap, subst, ◌∙◌, ◌||◌, arith, inl, inr, length-append}
use Rattle.std.proofs.Math.Seq.{drop-append_seam}
use Rattle.std.proofs.Math.ListN.{drop_of_length-le}
use Rattle.std.proofs.lemmas.Bool.{cases_lt}
use Rattle.std.proofs.lemmas.List.{take-append-le, drop-append-le, take_all, map-append}
use Rattle.std.proofs.lemmas.List.Elements.{All-head, All-tail, All-weaker, All-push}
use Rattle.std.proofs.lemmas.List.Folds.{list_any_none, list_any_at}
use Rattle.std.proofs.lemmas.List.Sorted.{searchable_from_sorted}
use Rattle.std.proofs.lemmas.Map.Text.{is_eq-slice_cmp}
use Rattle.std.specs.Cmp.Lexicographic.{slice_cmp, nat_list_cmp_total, nat_list_eq_equiv}
use Rattle.std.specs.FinSet.{contains, insert, from_list, from_list_push, slice_cmp-IsAntisymmetric, nat_cmp-IsAntisymmetric}
use Rattle.std.specs.List.{list_any}
use Rattle.std.specs.List.Sorted.{IsSearchInRange, IsBinarySearchResult}
use Rattle.std.specs.Ordering.{nat_cmp, is_eq}
use Rattle.std.specs.Result.{is_ok}
use Rattle.std.specs.Str.{bytes_eq}
use Rattle.kl_digests.proofs.DigestSets.{contains_list}
use Rattle.kl_digests.specs.Inner.Packed.{measured_off, IsWhole, digest_at, digests_in, is_listed, AreSorted}

-- what holds where there is an error
pub where_err : {T E P : Type 0} (r : Result T E) → P → OnErr r P
where_err (Ok _) p = tt
where_err (Err _) p = p

-- ---- a longer buffer

-- a whole digest stands within the buffer
within : (bytes : List ℕ) (start : ℕ) → IsWhole (drop start bytes) → start ≤ length bytes
within bytes start whole = elim (cases_lt (length bytes) start) [
  | inl past ↦ absurd (subst IsWhole (drop_of_length-le bytes (omega arith)) whole)
  | inr le ↦ le
]

off_longer : (xs more : List ℕ) → IsWhole xs → (measured_off (xs ++ more) ≡ measured_off xs) × IsWhole (xs ++ more)
off_longer [] more whole = absurd whole
off_longer (len ∷ rest) more whole = (take-append-le len rest more whole, omega (arith, length-append rest more, whole))

-- and stays as it is
longer : (bytes more : List ℕ) (start : ℕ) → IsWhole (drop start bytes) → (digest_at (bytes ++ more) start ≡ digest_at bytes start) × IsWhole (drop start (bytes ++ more))
longer bytes more start whole =
    let behind : drop start (bytes ++ more) ≡ drop start bytes ++ more = drop-append-le start bytes more (within bytes start whole) in
    let same = off_longer (drop start bytes) more whole in
    (ap measured_off behind ∙ same.0, subst IsWhole (sym behind) same.1)

-- all places have whole digests
abbrev pub AreWhole : List ℕ → List ℕ → Type 0
AreWhole bytes starts = All (λ start. IsWhole (drop start bytes)) starts

pub whole_longer : (bytes more starts : List ℕ) → AreWhole bytes starts → AreWhole (bytes ++ more) starts
whole_longer bytes more starts whole = All-weaker (λ start. IsWhole (drop start bytes)) (λ start. IsWhole (drop start (bytes ++ more))) (λ start one. (longer bytes more start one).1) starts whole

pub digests_longer : (bytes more starts : List ℕ) → AreWhole bytes starts → digests_in (bytes ++ more) starts ≡ digests_in bytes starts
digests_longer bytes more [] whole = refl
digests_longer bytes more (start ∷ starts) whole =
    let P : ℕ → Type 0 = λ start. IsWhole (drop start bytes) in
    ap (λ (d : List ℕ). d ∷ digests_in (bytes ++ more) starts) (longer bytes more start (All-head P start starts whole)).0
    ∙ ap (λ (ds : List (List ℕ)). digest_at bytes start ∷ ds) (digests_longer bytes more starts (All-tail P start starts whole))

-- ---- a digest more

behind : (bytes digest : List ℕ) → drop (length bytes) (bytes ++ length digest ∷ digest) ≡ length digest ∷ digest
behind bytes digest = drop-append_seam bytes (length digest ∷ digest)

pub whole_more : (bytes digest starts : List ℕ) → AreWhole bytes starts → AreWhole (bytes ++ length digest ∷ digest) (starts ++ length bytes ∷ [])
whole_more bytes digest starts whole =
    let here : IsWhole (length digest ∷ digest) = omega arith in
    All-push (λ start. IsWhole (drop start (bytes ++ length digest ∷ digest))) starts (length bytes) (whole_longer bytes (length digest ∷ digest) starts whole)
    (subst IsWhole (sym (behind bytes digest)) here)

pub set_more : (bytes digest starts : List ℕ) → AreWhole bytes starts
    → from_list {R = slice_cmp nat_cmp} (digests_in (bytes ++ length digest ∷ digest) (starts ++ length bytes ∷ [])) ≡ insert (from_list (digests_in bytes starts)) digest
set_more bytes digest starts whole =
    let all : List ℕ = bytes ++ length digest ∷ digest in
    let one : digest_at all (length bytes) ≡ digest = ap measured_off (behind bytes digest) ∙ take_all (length digest) digest (omega arith) in
    ap (from_list {R = slice_cmp nat_cmp}) (map-append (digest_at all) starts (length bytes ∷ []) ∙ ap (λ (ds : List (List ℕ)). ds ++ digest_at all (length bytes) ∷ []) (digests_longer bytes (length digest ∷ digest) starts whole)
    ∙ ap (λ (d : List ℕ). digests_in bytes starts ++ d ∷ []) one)
    ∙ from_list_push nat_list_cmp_total (slice_cmp-IsAntisymmetric nat_cmp-IsAntisymmetric) (digests_in bytes starts) digest

-- ---- a look-up

-- a test of the digests is a test of their places
pub any_digest : (bytes starts digest : List ℕ) → list_any (bytes_eq digest) (digests_in bytes starts) ≡ is_listed bytes starts digest
any_digest bytes [] digest = refl
any_digest bytes (start ∷ starts) digest = ap (λ b. bytes_eq digest (digest_at bytes start) || b) (any_digest bytes starts digest)

-- a comparison tells whether two are equal, in either order
flipped : (x y : List ℕ) (b : Bool) → is_eq (slice_cmp nat_cmp x y) ≡ b → bytes_eq y x ≡ b
flipped x y b told = nat_list_eq_equiv.symm y x ∙ sym (is_eq-slice_cmp x y) ∙ told

-- halving finds a digest exactly where it is listed
pub found_by_halving : (bytes starts digest : List ℕ) (r : Result ℕ ℕ) → AreSorted bytes starts → IsSearchInRange r (length starts)
    → IsBinarySearchResult (λ start. slice_cmp nat_cmp (digest_at bytes start) digest) starts r → is_ok r ≡ is_listed bytes starts digest
found_by_halving bytes starts digest (Ok at) sorted inside equal =
    sym (list_any_at (λ start. bytes_eq digest (digest_at bytes start)) starts at 0 inside (flipped (digest_at bytes (get_or starts at 0)) digest true (ap is_eq (equal 0))))
found_by_halving bytes starts digest (Err at) sorted inside parted =
    let cut = parted (searchable_from_sorted nat_list_cmp_total (digest_at bytes) starts digest sorted) in
    let none : All (λ start. bytes_eq digest (digest_at bytes start) ≡ false) starts =
    λ k d lt. elim (cases_lt k at) [
      | inl below ↦ flipped (digest_at bytes (get_or starts k d)) digest false (ap is_eq (cut.0 k d (omega arith) below))
      | inr above ↦ flipped (digest_at bytes (get_or starts k d)) digest false (ap is_eq (cut.1 k d above lt))
    ] in
    sym (list_any_none (λ start. bytes_eq digest (digest_at bytes start)) starts none)

-- what is listed is in the set
pub listed : (bytes starts digest all places : List ℕ) (b : Bool) → all ≡ bytes → places ≡ starts → b ≡ is_listed all places digest
    → b ≡ contains (from_list {R = slice_cmp nat_cmp} (digests_in bytes starts)) digest
listed bytes starts digest all places b same also is =
    is ∙ ap (λ (a : List ℕ). is_listed a places digest) same ∙ ap (λ (p : List ℕ). is_listed bytes p digest) also
    ∙ sym (contains_list (digests_in bytes starts) digest ∙ any_digest bytes starts digest)
