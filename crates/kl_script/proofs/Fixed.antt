-- How a part on a fixed PCR is cut, and that it spells one value.
use Rattle.std.proofs.Common.{◌≡◌, ◌≢◌, inl, inr, ℕ, zero, suc, ◌<◌, ◌≤◌, ◌^◌, List, [], ◌∷◌, ◌++◌, sym, ap, subst, ◌∙◌, arith, lit<}
use Rattle.std.specs.List.{AllZip}
use Rattle.std.specs.Fmt.{decimal}
use Rattle.std.proofs.lemmas.Fmt.{decimal_injective}
use Rattle.hex.proofs.HexLemmas.{decode_of-same}
use Rattle.kl_pcr.specs.declared.statics.Static.{Static}
use Rattle.kl_script.specs.Words.{HasNo}
use Rattle.kl_script.specs.Digits.{IsDigest}
use Rattle.kl_script.specs.Statics.{IsStatic, IsStatics, pieces_at}
use Rattle.kl_script.proofs.Splitting.{same_word, no_word}
use Rattle.kl_script.proofs.Decimals.{decimal_has_no}
use Rattle.kl_script.proofs.Zips.{AllZip-same}

number_has_no_sign : (fixed : Static) → fixed.pcr ≤ 23 → HasNo 61 (decimal fixed.pcr)
number_has_no_sign fixed le = decimal_has_no 61 fixed.pcr (omega arith) (lit< tt)

-- the number and the digests stand on the two sides of the first equals sign
pub static_cut : (written pcr digests : List ℕ) (fixed : Static) → written ≡ pcr ++ 61 ∷ digests → HasNo 61 pcr → (s : IsStatic written fixed) → (pcr ≡ decimal fixed.pcr) × (digests ≡ s.0)
static_cut written pcr digests fixed e h s = same_word 61 pcr (decimal fixed.pcr) digests s.0 h (number_has_no_sign fixed s.1) (sym e ∙ s.2)

pub static_uncut : (written : List ℕ) (fixed : Static) → HasNo 61 written → ¬ (IsStatic written fixed)
static_uncut written fixed h s = no_word 61 written (decimal fixed.pcr) s.0 h s.2

-- a number of a PCR is no other number
pub pcr_bound : (written : List ℕ) (n pcr : ℕ) → n < 2 ^ 64 → 23 < n → written ≡ decimal n → pcr ≤ 23 → written ≢ decimal pcr
pcr_bound written n pcr small big e le f = omega (arith, decimal_injective n pcr small (omega arith) (sym e ∙ f))

IsDigest-same : (written x y : List ℕ) → IsDigest written x → IsDigest written y → x ≡ y
IsDigest-same written x y g h = decode_of-same written x y g.0 h.0

IsStatic-same : (written : List ℕ) (x y : Static) → IsStatic written x → IsStatic written y → x ≡ y
IsStatic-same written x y g h =
    let cut = static_cut written (decimal x.pcr) g.0 y g.2 (number_has_no_sign x g.1) h in
    let pcr : x.pcr ≡ y.pcr = decimal_injective x.pcr y.pcr (omega (arith, g.1)) (omega (arith, h.1)) cut.0 in
    let allowed : x.allowed ≡ y.allowed = AllZip-same IsDigest IsDigest-same (pieces_at 44 g.0) x.allowed y.allowed g.3 (subst (λ (d : List ℕ). AllZip IsDigest (pieces_at 44 d) y.allowed) (sym cut.1) h.3) in
    let made : ℕ → List (List ℕ) → Static = λ p a. record { pcr = p; allowed = a } in
    ap (λ (p : ℕ). made p x.allowed) pcr ∙ ap (λ (a : List (List ℕ)). made y.pcr a) allowed

dash_has_no_sign : HasNo 61 (45 ∷ [])
dash_has_no_sign zero lt e = absurd (omega (arith, e))
dash_has_no_sign (suc i) lt e = absurd (omega arith)

-- `-` alone is no part
no_dash : (statics : List Static) → ¬ (AllZip IsStatic ((45 ∷ []) ∷ []) statics)
no_dash [] h = h
no_dash (x ∷ xs) h = static_uncut (45 ∷ []) x dash_has_no_sign h.0

pub IsStatics-same : (written : List ℕ) (xs ys : List Static) → IsStatics written xs → IsStatics written ys → xs ≡ ys
IsStatics-same written xs ys (inl g) (inl h) = g.1 ∙ sym h.1
IsStatics-same written xs ys (inl g) (inr h) = absurd (no_dash ys (subst (λ (w : List ℕ). AllZip IsStatic (pieces_at 59 w) ys) g.0 h))
IsStatics-same written xs ys (inr g) (inl h) = absurd (no_dash xs (subst (λ (w : List ℕ). AllZip IsStatic (pieces_at 59 w) xs) h.0 g))
IsStatics-same written xs ys (inr g) (inr h) = AllZip-same IsStatic IsStatic-same (pieces_at 59 written) xs ys g h
