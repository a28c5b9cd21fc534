-- The PCRs of a mask, one by one, and the values that are concatenated in their order.
use Rattle.std.proofs.Common.{◌≡◌, ℕ, zero, suc, ◌+◌, ◌-◌, ◌*◌, ◌/◌, ◌%◌, ◌^◌, ◌<◌, ◌==◌, cond, List, [], ◌∷◌, ◌++◌, length, take, drop, filter, count_ones, refl, sym, ap, ◌∙◌, arith, add-zero, zero-add, length-append}
use Rattle.std.specs.Int.{bit_at}
use Rattle.std.specs.List.{range_with_len, flat_map}
use Rattle.std.proofs.lemmas.Nat.{pow_pos, mod-pow-add}
use Rattle.std.proofs.Math.Nat.{mod-lt}
use Rattle.std.proofs.Math.Seq.{take-append_seam, drop-append_seam}
use Rattle.std.proofs.lemmas.List.Elements.{filter-append}
use Rattle.std.proofs.lemmas.List.Concat.{flat_map-append}
use lib.Count.{ones_cat, ones-ones, ones-le}
use Rattle.kl_bank.specs.declared.bank.Bank.{Bank}
use Rattle.kl_bank.specs.Banks.{size_of}
use Rattle.kl_pcr.specs.Values.{HaveSize, IsSelected, is_selected, lower_of, pcrs_below, pcrs_of, value_at, values_of}

-- ---- ranges of numbers

range_split : (a m k : ℕ) → range_with_len a (m + k) ≡ range_with_len a m ++ range_with_len (a + m) k
range_split a zero k = ap (range_with_len a) (zero-add k) ∙ ap (λ b. range_with_len b k) (sym (add-zero a))
range_split a (suc m) k =
    let count : suc m + k ≡ suc (m + k) = omega arith in
    let begin : a + 1 + m ≡ a + suc m = omega arith in
    ap (range_with_len a) count
    ∙ ap (λ (ns : List ℕ). a ∷ ns) (range_split (a + 1) m k ∙ ap (λ b. range_with_len (a + 1) m ++ range_with_len b k) begin)

range_more : (n : ℕ) → range_with_len 0 (suc n) ≡ range_with_len 0 n ++ n ∷ []
range_more n =
    let count : suc n ≡ n + 1 = omega arith in
    ap (range_with_len 0) count ∙ range_split 0 n 1 ∙ ap (λ m. range_with_len 0 n ++ m ∷ []) (zero-add n)

-- ---- how many there are

digit : (b : ℕ) → b < 2 → count_ones b ≡ b
digit zero small = ones-ones 0
digit (suc zero) small = ones-ones 1
digit (suc (suc b)) small = absurd (omega arith)

kept : (b n : ℕ) → b < 2 → length (cond (b == 1) (n ∷ []) []) ≡ b
kept zero n small = refl
kept (suc zero) n small = refl
kept (suc (suc b)) n small = absurd (omega arith)

-- one bit more of the mask
lower_of-suc : (mask n : ℕ) → lower_of mask (suc n) ≡ lower_of mask n + bit_at mask n
lower_of-suc mask n =
    let count : suc n ≡ 1 + n = omega arith in
    let parts : mask % 2 ^ suc n ≡ mask / 2 ^ n % 2 ^ 1 * 2 ^ n + mask % 2 ^ n = ap (λ k. mask % 2 ^ k) count ∙ mod-pow-add mask 1 n in
    let apart = ones_cat n (mask / 2 ^ n % 2 ^ 1) (mask % 2 ^ n) (mod-lt mask (pow_pos n)) in
    let bit : count_ones (bit_at mask n) ≡ bit_at mask n = digit (bit_at mask n) (omega arith) in
    let counts : lower_of mask (suc n) ≡ count_ones (bit_at mask n) + lower_of mask n = ap count_ones parts ∙ apart in
    omega (arith, counts, bit)

-- there are as many PCRs below n as bits
pub length-pcrs_below : (mask n : ℕ) → length (pcrs_below mask n) ≡ lower_of mask n
unfolding pcrs_below
length-pcrs_below mask zero =
    let none : lower_of mask 0 < 1 = omega (arith, ones-le 0 (mask % 2 ^ 0) (mod-lt mask (pow_pos 0))) in
    omega (arith, none)
length-pcrs_below mask (suc n) =
    let sel = is_selected mask in
    let front = filter sel (range_with_len 0 n) in
    let more : filter sel (range_with_len 0 (suc n)) ≡ front ++ cond (sel n) (n ∷ []) [] =
    ap (filter sel) (range_more n) ∙ filter-append sel (range_with_len 0 n) (n ∷ []) in
    let last : length (cond (sel n) (n ∷ []) []) ≡ bit_at mask n = kept (bit_at mask n) n (omega arith) in
    ap length more ∙ length-append front (cond (sel n) (n ∷ []) [])
    ∙ omega (arith, last, length-pcrs_below mask n, lower_of-suc mask n)

-- ---- values in the order of their PCRs

-- the PCRs of the mask that come after PCR n
pcrs_after : ℕ → ℕ → List ℕ
pcrs_after mask n = filter (is_selected mask) (range_with_len (n + 1) (31 - n))

-- a PCR of the mask stands between those below it and those after it
pcrs_of-split : (mask n : ℕ) → n < 32 → IsSelected mask n → pcrs_of mask ≡ pcrs_below mask n ++ n ∷ pcrs_after mask n
unfolding pcrs_of pcrs_below pcrs_after
pcrs_of-split mask n below selected =
    let sel = is_selected mask in
    let count : 32 ≡ n + suc (31 - n) = omega arith in
    ap (λ k. filter sel (range_with_len 0 k)) count
    ∙ ap (filter sel) (range_split 0 n (suc (31 - n)))
    ∙ filter-append sel (range_with_len 0 n) (range_with_len (0 + n) (suc (31 - n)))
    ∙ ap (λ b. filter sel (range_with_len 0 n) ++ filter sel (range_with_len b (suc (31 - n)))) (zero-add n)
    ∙ ap (λ b. filter sel (range_with_len 0 n) ++ cond (b == 1) (n ∷ filter sel (range_with_len (n + 1) (31 - n))) (filter sel (range_with_len (n + 1) (31 - n)))) selected

-- lists of one length make one that is as many times longer
pub length-flat_map_even : (f : ℕ → List ℕ) (size : ℕ) → ((k : ℕ) → length (f k) ≡ size) → (ns : List ℕ)
    → length (flat_map f ns) ≡ size * length ns
length-flat_map_even f size even [] = omega arith
length-flat_map_even f size even (n ∷ ns) =
    length-append (f n) (flat_map f ns) ∙ omega (arith, even n, length-flat_map_even f size even ns)

-- the value of each PCR of the mask is found in the values of its PCRs
pub value_at-flat_map : (bank : Bank) (mask : ℕ) (f : ℕ → List ℕ) → ((k : ℕ) → length (f k) ≡ size_of bank)
    → (n : ℕ) → n < 32 → IsSelected mask n → value_at bank mask (flat_map f (pcrs_of mask)) n ≡ f n
value_at-flat_map bank mask f even n below selected =
    let size = size_of bank in
    let lower = flat_map f (pcrs_below mask n) in
    let upper = flat_map f (pcrs_after mask n) in
    let values : flat_map f (pcrs_of mask) ≡ lower ++ (f n ++ upper) =
    ap (flat_map f) (pcrs_of-split mask n below selected) ∙ flat_map-append f (pcrs_below mask n) (n ∷ pcrs_after mask n) in
    let place : size * lower_of mask n ≡ length lower =
    sym (length-flat_map_even f size even (pcrs_below mask n) ∙ ap (λ k. size * k) (length-pcrs_below mask n)) in
    ap (λ (vs : List ℕ). take size (drop (size * lower_of mask n) vs)) values
    ∙ ap (λ k. take size (drop k (lower ++ (f n ++ upper)))) place
    ∙ ap (take size) (drop-append_seam lower (f n ++ upper))
    ∙ ap (λ k. take k (f n ++ upper)) (sym (even n))
    ∙ take-append_seam (f n) upper

-- so what is found among values that stand in the order of their PCRs is what the PCR holds
pub held_at : (bank : Bank) (mask : ℕ) (held : ℕ → List ℕ) → HaveSize bank held → (values : List ℕ) → values ≡ values_of mask held
    → (n : ℕ) → n < 32 → IsSelected mask n → value_at bank mask values n ≡ held n
held_at bank mask held even values same n below selected =
    ap (λ (vs : List ℕ). value_at bank mask vs n) same ∙ value_at-flat_map bank mask held even n below selected
