-- Sets of digests: what a list of digests makes, and in which order they are put in.
use Rattle.std.proofs.Common.{◌≡◌, ℕ, Bool, true, false, List, [], ◌∷◌, refl, sym, ap, ◌∙◌, ◌||◌}
use Rattle.std.proofs.lemmas.List.Sorted.{list_any-IsPermutation}
use Rattle.std.proofs.lemmas.Map.Text.{is_eq-slice_cmp}
use Rattle.std.specs.Cmp.Lexicographic.{slice_cmp, nat_list_cmp_total}
use Rattle.std.specs.FinSet.{empty, insert, contains, from_list, contains-empty, contains-insert, same_set, slice_cmp-IsAntisymmetric, nat_cmp-IsAntisymmetric}
use Rattle.std.specs.List.{list_any}
use Rattle.std.specs.List.Sorted.{IsPermutation}
use Rattle.std.specs.Ordering.{nat_cmp}
use Rattle.std.specs.Str.{bytes_eq}
use Rattle.kl_digests.specs.Digests.{DigestSet}

-- two sets with the same digests are one
pub same_digests : (s t : DigestSet) → ((q : List ℕ) → contains s q ≡ contains t q) → s ≡ t
same_digests s t same = same_set nat_list_cmp_total (slice_cmp-IsAntisymmetric nat_cmp-IsAntisymmetric) s t same

pub contains_insert : (s : DigestSet) (digest q : List ℕ) → contains (insert s digest) q ≡ (bytes_eq q digest || contains s q)
contains_insert s digest q = contains-insert nat_list_cmp_total s digest q ∙ ap (λ b. b || contains s q) (is_eq-slice_cmp q digest)

-- a set has the digests of the list that it was made of
pub contains_list : (digests : List (List ℕ)) (q : List ℕ) → contains (from_list {R = slice_cmp nat_cmp} digests) q ≡ list_any (bytes_eq q) digests
contains_list [] q = contains-empty (slice_cmp nat_cmp) q
contains_list (digest ∷ digests) q = contains_insert (from_list digests) digest q ∙ ap (λ b. bytes_eq q digest || b) (contains_list digests q)

-- the order of a list does not matter to its set
pub from_list_permuted : (xs ys : List (List ℕ)) → IsPermutation xs ys → from_list {R = slice_cmp nat_cmp} ys ≡ from_list xs
from_list_permuted xs ys same = same_digests (from_list ys) (from_list xs) (λ q. contains_list ys q ∙ sym (list_any-IsPermutation (bytes_eq q) xs ys same) ∙ sym (contains_list xs q))

or_none : (a : Bool) → (a || false) ≡ a
or_none true = refl
or_none false = refl

-- the set of one digest has it alone
pub contains_one : (digest q : List ℕ) → contains {R = slice_cmp nat_cmp} (insert empty digest) q ≡ bytes_eq q digest
contains_one digest q = contains_insert empty digest q ∙ ap (λ b. bytes_eq q digest || b) (contains-empty (slice_cmp nat_cmp) q) ∙ or_none (bytes_eq q digest)
