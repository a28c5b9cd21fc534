-- Which bytes keys in memory unseal.
use Rattle.std.proofs.Common.{◌≡◌, ◌≢◌, ℕ, ◌<◌, List, ◌++◌, length, take, drop, codes, Some, None, sym, ap, ap₂, ◌∙◌, arith, length-append}
use Rattle.std.proofs.Math.Seq.{drop-append_seam, take-append_seam}
use Rattle.std.proofs.lemmas.List.{take-append-drop}
use Rattle.sha2.proofs.Facts256.{length-sha256}
use Rattle.kl_keys.proofs.Xor.{length-xor_of, xor_of-twice}
use Rattle.kl_keys.specs.Hmac.{hmac_of, hmac256_of}
use Rattle.kl_keys.specs.Mac.{mac_sealed, seal_pad}
use Rattle.kl_keys.specs.Relations.{Recovers}
use Rattle.kl_keys.specs.Xor.{xor_of}

length-hmac256 : (key message : List ℕ) → length (hmac256_of key message) ≡ 32
unfolding hmac_of hmac256_of
length-hmac256 key message = length-sha256 _

length-seal_pad : (public : List ℕ) → length (seal_pad public) ≡ 32
length-seal_pad public = length-hmac256 public (codes "seal")

-- the secret under the pad
abbrev masked : List ℕ → List ℕ → List ℕ
masked public secret = xor_of secret (seal_pad public)

length-masked : (public secret : List ℕ) → length secret ≡ 32 → length (masked public secret) ≡ 32
length-masked public secret long = length-xor_of secret (seal_pad public) (omega (arith, long, length-seal_pad public)) ∙ long

pub none_short : (public sealed : List ℕ) → length sealed < 32 → Recovers (mac_sealed public) sealed None
none_short public sealed short secret long same =
    omega (arith, short, ap length same, length-append (masked public secret) (hmac256_of public (masked public secret)), length-masked public secret long)

pub none_other : (public sealed front back : List ℕ) → front ≡ take 32 sealed → back ≡ drop 32 sealed → back ≢ hmac256_of public front
    → Recovers (mac_sealed public) sealed None
none_other public sealed front back first last other secret long same =
    let m = masked public secret in
    let value = hmac256_of public m in
    let is : length m ≡ 32 = length-masked public secret long in
    let before : front ≡ m = first ∙ ap (take 32) same ∙ ap (λ n. take n (m ++ value)) (sym is) ∙ take-append_seam m value in
    let after : back ≡ value = last ∙ ap (drop 32) same ∙ ap (λ n. drop n (m ++ value)) (sym is) ∙ drop-append_seam m value in
    other (after ∙ ap (hmac256_of public) (sym before))

pub some_made : (public sealed front back secret : List ℕ) → front ≡ take 32 sealed → back ≡ drop 32 sealed → length front ≡ 32
    → back ≡ hmac256_of public front → secret ≡ xor_of front (seal_pad public) → Recovers (mac_sealed public) sealed (Some secret)
some_made public sealed front back secret first last long value was =
    let again : masked public secret ≡ front = ap (masked public) was ∙ xor_of-twice front (seal_pad public) (omega (arith, long, length-seal_pad public)) in
    sym (take-append-drop 32 sealed) ∙ sym (ap₂ ◌++◌ first last) ∙ ap (λ (l : List ℕ). front ++ l) value
    ∙ sym (ap (λ (l : List ℕ). l ++ hmac256_of public l) again)
