-- Pieces laid out one behind the other.
use Rattle.std.proofs.Common.{◌≡◌, ℕ, ◌+◌, List, [], ◌∷◌, ◌++◌, length, refl, ap, ◌∙◌, append_assoc, arith, length-append}
use Rattle.std.specs.Int.{w32, to_le_bytes}
use Rattle.kl_entry.specs.Entries.{EntryFields, data_of, digest_field, path_field}

regroup : (a b c d e f g : List ℕ) → ((((((a ++ b) ++ c) ++ d) ++ e) ++ f) ++ g) ≡ (a ++ (b ++ c ++ d)) ++ (e ++ (f ++ g))
regroup a b c d e f g = simp append_assoc

-- the seven pieces of the template data
pub pieces : (e : EntryFields) (first alg digest second path : List ℕ) → alg ≡ e.alg → digest ≡ e.digest → path ≡ e.path
    → first ≡ to_le_bytes w32 (length alg + 2 + length digest) → second ≡ to_le_bytes w32 (length path + 1)
    → ((((((first ++ alg) ++ 58 ∷ 0 ∷ []) ++ digest) ++ second) ++ path) ++ 0 ∷ []) ≡ data_of e
unfolding data_of
pieces e first alg digest second path a d p f s =
    let f_len : length alg + 2 + length digest ≡ length (digest_field e) = rw (a, d) (omega (arith, length-append (e.alg ++ 58 ∷ 0 ∷ []) e.digest, length-append e.alg (58 ∷ 0 ∷ []))) in
    let s_len : length path + 1 ≡ length (path_field e) = rw p (omega (arith, length-append e.path (0 ∷ []))) in
    let f_is : first ≡ to_le_bytes w32 (length (digest_field e)) = f ∙ ap (to_le_bytes w32) f_len in
    let s_is : second ≡ to_le_bytes w32 (length (path_field e)) = s ∙ ap (to_le_bytes w32) s_len in
    regroup first alg (58 ∷ 0 ∷ []) digest second path (0 ∷ []) ∙ rw (f_is, s_is, a, d, p) refl

-- seven pieces, each put behind the one before it
pub joined : (a b c d e f g r1 r2 r3 r4 r5 r6 r7 : List ℕ) → r1 ≡ [] ++ a → r2 ≡ r1 ++ b → r3 ≡ r2 ++ c → r4 ≡ r3 ++ d → r5 ≡ r4 ++ e → r6 ≡ r5 ++ f → r7 ≡ r6 ++ g
    → r7 ≡ ((((((a ++ b) ++ c) ++ d) ++ e) ++ f) ++ g)
joined a b c d e f g r1 r2 r3 r4 r5 r6 r7 p1 p2 p3 p4 p5 p6 p7 = rw (p7, p6, p5, p4, p3, p2, p1) refl
