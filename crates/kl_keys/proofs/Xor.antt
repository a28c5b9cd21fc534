-- The exclusive or of two texts: how long it is, that it undoes itself, and one byte more of it.
use Rattle.std.proofs.Common.{◌≡◌, ℕ, zero, suc, ◌+◌, ◌<◌, ◌≤◌, List, [], ◌∷◌, ◌++◌, length, take, drop, slice_set, slice_index_or, bit_xor, refl, ap, ap₂, ◌∙◌, arith}
use Rattle.std.proofs.lemmas.List.{take_all, drop_all, append-nil}
use Rattle.std.specs.Int.Bits.{xor_assoc, xor_self, xor_zero_r}
use Rattle.kl_keys.specs.Xor.{xor_of}

pub length-xor_of : (xs pad : List ℕ) → length xs ≤ length pad → length (xor_of xs pad) ≡ length xs
unfolding xor_of
length-xor_of [] pad fits = refl
length-xor_of (x ∷ xs) [] fits = absurd (omega arith)
length-xor_of (x ∷ xs) (p ∷ pad) fits = ap suc (length-xor_of xs pad (omega arith))

xor_twice : (a b : ℕ) → bit_xor (bit_xor a b) b ≡ a
xor_twice a b = xor_assoc a b b ∙ ap (bit_xor a) (xor_self b) ∙ xor_zero_r a

pub xor_of-twice : (xs pad : List ℕ) → length xs ≤ length pad → xor_of (xor_of xs pad) pad ≡ xs
unfolding xor_of
xor_of-twice [] pad fits = refl
xor_of-twice (x ∷ xs) [] fits = absurd (omega arith)
xor_of-twice (x ∷ xs) (p ∷ pad) fits = ap₂ ◌∷◌ (xor_twice x p) (xor_of-twice xs pad (omega arith))

-- the first i bytes are masked, and the others stand as they were
abbrev pub masked_to : List ℕ → List ℕ → ℕ → List ℕ
masked_to xs pad i = xor_of (take i xs) (take i pad) ++ drop i xs

pub masked_none : (xs pad : List ℕ) → xs ≡ masked_to xs pad 0
unfolding xor_of
masked_none xs pad = refl

pub masked_all : (xs pad : List ℕ) (n : ℕ) → length xs ≡ n → length pad ≡ n → masked_to xs pad n ≡ xor_of xs pad
masked_all xs pad n long padded =
    ap₂ ◌++◌ (ap₂ xor_of (take_all n xs (omega arith)) (take_all n pad (omega arith))) (drop_all n xs (omega arith)) ∙ append-nil (xor_of xs pad)

masked_suc : (xs pad : List ℕ) (i : ℕ) → i < length xs → i < length pad
    → slice_set (masked_to xs pad i) i (bit_xor (slice_index_or (masked_to xs pad i) i 0) (slice_index_or pad i 0)) ≡ masked_to xs pad (suc i)
unfolding xor_of
masked_suc [] pad i lt le = absurd (omega arith)
masked_suc (x ∷ xs) [] i lt le = absurd (omega arith)
masked_suc (x ∷ xs) (p ∷ pad) zero lt le = refl
masked_suc (x ∷ xs) (p ∷ pad) (suc i) lt le = ap (λ (ys : List ℕ). bit_xor x p ∷ ys) (masked_suc xs pad i (omega arith) (omega arith))

pub masked_more : (xs pad ys : List ℕ) (i : ℕ) → i < length xs → i < length pad → ys ≡ masked_to xs pad i
    → slice_set ys i (bit_xor (slice_index_or ys i 0) (slice_index_or pad i 0)) ≡ masked_to xs pad (i + 1)
masked_more xs pad ys i lt le same =
    ap (λ (l : List ℕ). slice_set l i (bit_xor (slice_index_or l i 0) (slice_index_or pad i 0))) same
    ∙ masked_suc xs pad i lt le
    ∙ ap (masked_to xs pad) (let e : suc i ≡ i + 1 = omega arith in e)
