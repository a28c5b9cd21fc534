-- Where a part of a line ends, and that a line has its parts in one way.
use Rattle.std.proofs.Common.{◌≡◌, ℕ, ◌+◌, ◌<◌, ◌≤◌, Bool, true, false, List, [], ◌∷◌, ◌++◌, length, get_or, take, drop, refl, sym, ap, ◌∙◌, subst, arith, add-one, drop-cons, length-append}
use Rattle.std.proofs.lemmas.Bool.{false≢true, ne_eqb, eqb-true}
use Rattle.std.proofs.lemmas.List.{take-append-drop, length-take, get_or-take, get_or_default}
use Rattle.std.proofs.lemmas.List.Elements.{All-head, All-tail}
use Rattle.std.proofs.lemmas.List.Sums.{prefix_len_passes}
use Rattle.std.proofs.Math.Seq.{take-append_seam, drop-append-add}
use Rattle.std.proofs.lemmas.Str.{IsCharBoundary-after_ascii}
use Rattle.std.specs.Str.{IsUtf8, IsCharBoundary}
use Rattle.std.specs.List.{AllPass, prefix_len}
use Rattle.std.specs.Prelude.{◌==◌, not, Some, None}
use Rattle.memchr.specs.Find.{IsFirstByte, is_byte}
use Rattle.hex.specs.Hex.{encode_lower}
use Rattle.kl_base.specs.Digits.{is_lower_digit}
use Rattle.kl_entry.specs.Lines.{is_name_byte, IsHashText, IsDigestText, IsName}

-- a text that passes a test, up to a byte that does not, stands at the front in one way
pub cut_same : (p : ℕ → Bool) (a b x y : List ℕ) (c d : ℕ) → AllPass p a → AllPass p b → p c ≡ false → p d ≡ false → a ++ c ∷ x ≡ b ++ d ∷ y → (a ≡ b) × (c ≡ d) × (x ≡ y)
cut_same p [] [] x y c d pa pb pc pd e = (refl, cc, cc)
cut_same p [] (h ∷ b) x y c d pa pb pc pd e = let same : c ≡ h = cc in absurd (false≢true (sym pc ∙ ap p same ∙ All-head (λ v. p v ≡ true) h b pb))
cut_same p (h ∷ a) [] x y c d pa pb pc pd e = let same : d ≡ h = cc in absurd (false≢true (sym pd ∙ ap p same ∙ All-head (λ v. p v ≡ true) h a pa))
cut_same p (h ∷ a) (i ∷ b) x y c d pa pb pc pd e =
    let rest : a ++ c ∷ x ≡ b ++ d ∷ y = cc in
    let heads : h ≡ i = cc in
    let same = cut_same p a b x y c d (All-tail (λ v. p v ≡ true) h a pa) (All-tail (λ v. p v ≡ true) i b pb) pc pd rest in
    (ap (λ (v : List ℕ). h ∷ v) same.0 ∙ ap (λ (v : ℕ). v ∷ b) heads, same.1, same.2)

-- a text in the parts before a place, at it and behind it
pub parted : (text : List ℕ) (at : ℕ) → at < length text → text ≡ take at text ++ get_or text at 0 ∷ drop (at + 1) text
parted text at lt = sym (take-append-drop at text) ∙ ap (λ (x : List ℕ). take at text ++ x) (drop-cons text at 0 lt ∙ ap (λ (k : ℕ). get_or text at 0 ∷ drop k text) (sym (add-one at)))

-- a text may be cut before and behind a place that holds an ASCII byte
pub cut_after : (text hay : List ℕ) (at c : ℕ) → IsUtf8 hay → hay ≡ text → at < length hay → get_or hay at 0 ≡ c → c < 128 → IsCharBoundary text (at + 1)
cut_after text hay at c utf8 same lt is ascii = subst (λ (t : List ℕ). IsCharBoundary t (at + 1)) same (IsCharBoundary-after_ascii hay at utf8 lt (omega arith))

-- ---- the hash's digits and a space

pub hash_found : (text hay hash rest : List ℕ) → hay ≡ text → 40 < length hay → get_or hay 40 0 ≡ 32 → take 40 hay ≡ encode_lower hash → rest ≡ drop 41 text → text ≡ encode_lower hash ++ 32 ∷ rest
hash_found text hay hash rest same lt space digits after =
    let whole : hay ≡ take 40 hay ++ 32 ∷ drop 41 hay = parted hay 40 lt ∙ ap (λ (b : ℕ). take 40 hay ++ b ∷ drop 41 hay) space in
    let back : drop 41 hay ≡ rest = ap (λ (t : List ℕ). drop 41 t) same ∙ sym after in
    sym same ∙ whole ∙ ap (λ (t : List ℕ). t ++ 32 ∷ drop 41 hay) digits ∙ ap (λ (t : List ℕ). encode_lower hash ++ 32 ∷ t) back

pub hash_missed : (text hay digits rest : List ℕ) → hay ≡ text → 40 < length hay → (AllPass is_lower_digit (take 40 hay) → ⊥) → IsHashText digits → text ≡ digits ++ 32 ∷ rest → ⊥
hash_missed text hay digits rest same lt none is spelled =
    let front : take 40 hay ≡ digits = ap (λ (t : List ℕ). take 40 t) (same ∙ spelled) ∙ ap (λ (k : ℕ). take k (digits ++ 32 ∷ rest)) (sym is.len) ∙ take-append_seam digits (32 ∷ rest) in
    none (subst (λ (t : List ℕ). AllPass is_lower_digit t) (sym front) is.digits)

-- ---- the name, the digest's digits and a space

-- a name stands at the front up to a byte that is none of a name
prefix_name : (name after : List ℕ) → AllPass is_name_byte name → prefix_len is_name_byte (name ++ 58 ∷ after) ≡ length name
prefix_name [] after h = refl
prefix_name (c ∷ name) after h =
    rw (All-head (λ v. is_name_byte v ≡ true) c name h) (omega (arith, prefix_name name after (All-tail (λ v. is_name_byte v ≡ true) c name h)))

get_or_seam : (xs ys : List ℕ) (c : ℕ) → get_or (xs ++ c ∷ ys) (length xs) 0 ≡ c
get_or_seam [] ys c = refl
get_or_seam (x ∷ xs) ys c = get_or_seam xs ys c

-- where a name and a colon stand at the front
pub record IsNameCut (text name after : List ℕ) (n : ℕ) : Type 0 where
  pub len : n ≡ length name
  pub within : n < length text
  pub colon : get_or text n 0 ≡ 58
  pub rest : drop (n + 1) text ≡ after

pub name_cut : (text name after : List ℕ) (n : ℕ) → n ≡ prefix_len is_name_byte text → AllPass is_name_byte name → text ≡ name ++ 58 ∷ after → IsNameCut text name after n
name_cut text name after n is pass spelled =
    let e : n ≡ length name = is ∙ ap (prefix_len is_name_byte) spelled ∙ prefix_name name after pass in
    let k : n + 1 ≡ length name + 1 = omega arith in
    record {
      len = e;
      within = omega (arith, ap length spelled, length-append name (58 ∷ after));
      colon = ap (λ (m : ℕ). get_or text m 0) e ∙ ap (λ (t : List ℕ). get_or t (length name) 0) spelled ∙ get_or_seam name after 58;
      rest = ap (λ (m : ℕ). drop m text) k ∙ ap (λ (t : List ℕ). drop (length name + 1) t) spelled ∙ drop-append-add name (58 ∷ after) 1;
    }

pub name_is : (text : List ℕ) (n : ℕ) → n ≡ prefix_len is_name_byte text → 1 ≤ n → n ≤ 32 → n < length text → IsName (take n text)
name_is text n is some short lt =
    let len : length (take n text) ≡ n = omega (arith, length-take n text) in
    record {
      some = omega arith;
      short = omega arith;
      bytes = λ k d in_name. let below : k < n = omega arith in rw (get_or-take n text k d below) (prefix_len_passes is_name_byte text k d (omega arith));
    }

-- no name of 1 to 32 bytes, colon, digits and space stand at the front: the name has another length, or no colon stands
-- behind it, or no digits and a space behind that
pub name_missed : (text name digits rest : List ℕ) (n : ℕ) → n ≡ prefix_len is_name_byte text → IsName name → text ≡ name ++ 58 ∷ (digits ++ 32 ∷ rest) → (1 ≤ n) × (n ≤ 32) × (n < length text) × (get_or text n 0 ≡ 58)
name_missed text name digits rest n len is spelled =
    let cut = name_cut text name (digits ++ 32 ∷ rest) n len is.bytes spelled in
    (omega (arith, is.some, cut.len), omega (arith, is.short, cut.len), cut.within, cut.colon)

pub digits_missed : (text hay after name digits rest : List ℕ) (n : ℕ) → hay ≡ text → n ≡ prefix_len is_name_byte hay → after ≡ drop (n + 1) text → ((digits rest : List ℕ) → IsDigestText digits → after ≡ digits ++ 32 ∷ rest → ⊥) → IsName name → IsDigestText digits
    → text ≡ name ++ 58 ∷ (digits ++ 32 ∷ rest) → ⊥
digits_missed text hay after name digits rest n same len back none is is_digits spelled =
    let cut = name_cut hay name (digits ++ 32 ∷ rest) n len is.bytes (same ∙ spelled) in
    none digits rest is_digits (back ∙ ap (λ (t : List ℕ). drop (n + 1) t) (sym same) ∙ cut.rest)

-- ---- the digits of a digest up to a space, as a search for the space found it

-- no space
abbrev is_other : ℕ → Bool
is_other b = not (b == 32)

other_of : (b : ℕ) → (b ≡ 32 → ⊥) → is_other b ≡ true
other_of b ne = ap not (ne_eqb b 32 ne)

digit_other : (b : ℕ) → is_lower_digit b ≡ true → is_other b ≡ true
digit_other b is = other_of b (λ same. let space : is_lower_digit 32 ≡ true = ap is_lower_digit (sym same) ∙ is in cc space)

digits_other : (digits : List ℕ) → AllPass is_lower_digit digits → AllPass is_other digits
digits_other digits pass = λ k d lt. digit_other (get_or digits k d) (pass k d lt)

-- where no space stands, no digits and a space do
pub space_missed : (text hay digits rest : List ℕ) → hay ≡ text → IsFirstByte (is_byte 32) hay None → text ≡ digits ++ 32 ∷ rest → ⊥
space_missed text hay digits rest same missed spelled =
    let whole : hay ≡ digits ++ 32 ∷ rest = same ∙ spelled in
    let there : get_or hay (length digits) 0 ≡ 32 = ap (λ (t : List ℕ). get_or t (length digits) 0) whole ∙ get_or_seam digits rest 32 in
    missed (length digits) (omega arith) (omega (arith, ap length whole, length-append digits (32 ∷ rest))) (rw there refl)

-- the digits are what stands before the first space
pub digits_same : (text hay digits rest : List ℕ) (at : ℕ) → hay ≡ text → IsFirstByte (is_byte 32) hay (Some at) → IsDigestText digits → text ≡ digits ++ 32 ∷ rest → take at hay ≡ digits
digits_same text hay digits rest at same found is spelled =
    let space : get_or hay at 0 ≡ 32 = eqb-true _ 32 found.1 in
    let cut : take at hay ++ 32 ∷ drop (at + 1) hay ≡ digits ++ 32 ∷ rest =
    sym (parted hay at found.0.high ∙ ap (λ (b : ℕ). take at hay ++ b ∷ drop (at + 1) hay) space) ∙ same ∙ spelled in
    let before : AllPass is_other (take at hay) =
    λ k d lt. let below : k < at = omega (arith, length-take at hay) in
    let inside : k < length hay = omega (arith, found.0.high) in
    rw (get_or-take at hay k d below, get_or_default hay k d 0 inside) (other_of (get_or hay k 0) (λ e. found.0.before k (omega arith) below (rw e refl))) in
    (cut_same is_other (take at hay) digits (drop (at + 1) hay) rest 32 32 before (digits_other digits is.digits) refl refl cut).0

-- a text may be cut behind the space
pub space_boundary : (text hay : List ℕ) (at : ℕ) → IsUtf8 hay → hay ≡ text → IsFirstByte (is_byte 32) hay (Some at) → IsCharBoundary text (at + 1)
space_boundary text hay at utf8 same found = cut_after text hay at 32 utf8 same found.0.high (eqb-true _ 32 found.1) (omega arith)
