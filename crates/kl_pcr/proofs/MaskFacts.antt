-- How many PCRs of a mask are below one of them, and where its value stands.
use Rattle.std.proofs.Common.{◌≡◌, ℕ, ◌+◌, ◌*◌, ◌/◌, ◌%◌, ◌^◌, ◌≤◌, count_ones, ap, sym, ◌∙◌, arith}
use Rattle.std.proofs.lemmas.Nat.{pow_pos}
use Rattle.std.proofs.Math.Nat.{mod-lt, div-add-mod', mul-le-mul_left}
use lib.Count.{ones_cat, ones_step}
use Rattle.kl_pcr.specs.Values.{IsSelected, lower_of}

-- a PCR of the mask is one more than those below it
pub lower_of-lt : (mask n : ℕ) → IsSelected mask n → lower_of mask n + 1 ≤ count_ones mask
lower_of-lt mask n selected =
    let whole : mask / 2 ^ n * 2 ^ n + mask % 2 ^ n ≡ mask = div-add-mod' mask (2 ^ n) in
    let apart = ones_cat n (mask / 2 ^ n) (mask % 2 ^ n) (mod-lt mask (pow_pos n)) in
    let counts : count_ones mask ≡ count_ones (mask / 2 ^ n) + count_ones (mask % 2 ^ n) = ap count_ones (sym whole) ∙ apart in
    omega (arith, counts, ones_step (mask / 2 ^ n), selected)

-- so its value stands within the values of the mask's PCRs
pub value_fits : (size mask n len : ℕ) → IsSelected mask n → len ≡ size * count_ones mask → size * lower_of mask n + size ≤ len
value_fits size mask n len selected sized =
    omega (arith, sized, mul-le-mul_left size (lower_of-lt mask n selected))
