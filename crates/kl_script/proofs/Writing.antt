-- The field that is written spells its text.
use Rattle.std.proofs.Common.{◌≡◌, ◌≢◌, ℕ, zero, suc, ◌==◌, ◌/◌, ◌+◌, ◌≤◌, ltb, cond, Bool, true, false, List, [], ◌∷◌, ◌++◌, flat_map, codes, inl, inr}
use Rattle.std.proofs.Common.{refl, sym, ap, subst, ◌∙◌, arith, append-nil, append_assoc}
use Rattle.std.proofs.Math.Utf8.{encode, encodes, next}
use Rattle.std.proofs.lemmas.Str.{encodes-append}
use Rattle.std.proofs.lemmas.Bool.{cases_Bool, eqb-true, eqb-false, ne_eqb, cond-false}
use Rattle.kl_script.specs.Words.{HasNo, SpellsByte, IsEscaped, IsField, spelling_of, field_of}

-- ---- a byte

-- a byte that is neither a space nor a newline nor a backslash is written as itself
plain : (byte : ℕ) → byte ≢ 32 → byte ≢ 10 → byte ≢ 92 → spelling_of byte ≡ byte ∷ []
plain byte space newline backslash =
    cond-false (byte == 32) _ _ (ne_eqb byte 32 space) ∙ cond-false (byte == 10) _ _ (ne_eqb byte 10 newline) ∙ cond-false (byte == 92) _ _ (ne_eqb byte 92 backslash)

-- what holds of the three that are written otherwise, and of a plain byte, holds of each
each_byte : (P : ℕ → List ℕ → Type 0) → P 32 (codes "\\s") → P 10 (codes "\\n") → P 92 (codes "\\\\")
    → ((byte : ℕ) → byte ≢ 32 → byte ≢ 10 → byte ≢ 92 → P byte (byte ∷ [])) → (byte : ℕ) → P byte (spelling_of byte)
each_byte P space newline backslash other byte = elim (cases_Bool (byte == 32)) [
  | inl is ↦ subst (λ (b : ℕ). P b (spelling_of b)) (sym (eqb-true byte 32 is)) space
  | inr no_space ↦ elim (cases_Bool (byte == 10)) [
    | inl is ↦ subst (λ (b : ℕ). P b (spelling_of b)) (sym (eqb-true byte 10 is)) newline
    | inr no_newline ↦ elim (cases_Bool (byte == 92)) [
      | inl is ↦ subst (λ (b : ℕ). P b (spelling_of b)) (sym (eqb-true byte 92 is)) backslash
      | inr no_backslash ↦ let a = eqb-false byte 32 no_space in
          let b = eqb-false byte 10 no_newline in
          let c = eqb-false byte 92 no_backslash in
          subst (P byte) (sym (plain byte a b c)) (other byte a b c)
    ]
  ]
]

spelled : (byte : ℕ) → SpellsByte (spelling_of byte) byte
spelled = each_byte (λ byte spelling. SpellsByte spelling byte)
    (inr (115, inl (refl, refl), refl)) (inr (110, inr (inl (refl, refl)), refl)) (inr (92, inr (inr (refl, refl)), refl))
    (λ byte a b c. inl (c, refl))

-- ---- a text

HasNo-nil : (k : ℕ) → HasNo k []
HasNo-nil k i lt e = absurd (omega (arith, lt))

HasNo-cons : (k x : ℕ) (xs : List ℕ) → x ≢ k → HasNo k xs → HasNo k (x ∷ xs)
HasNo-cons k x xs ne h zero lt e = ne e
HasNo-cons k x xs ne h (suc i) lt e = h i (omega (arith, lt)) e

HasNo-append : (k : ℕ) (xs ys : List ℕ) → HasNo k xs → HasNo k ys → HasNo k (xs ++ ys)
HasNo-append k [] ys hx hy = hy
HasNo-append k (x ∷ xs) ys hx hy = HasNo-cons k x (xs ++ ys) (hx 0 (omega arith)) (HasNo-append k xs ys (λ i lt. hx (suc i) (omega (arith, lt))) hy)

pair_free : (k a b : ℕ) → a ≢ k → b ≢ k → HasNo k (a ∷ b ∷ [])
pair_free k a b na nb = HasNo-cons k a (b ∷ []) na (HasNo-cons k b [] nb (HasNo-nil k))

spelling_spaceless : (byte : ℕ) → HasNo 32 (spelling_of byte)
spelling_spaceless = each_byte (λ byte spelling. HasNo 32 spelling)
    (pair_free 32 92 115 (λ e. omega (arith, e)) (λ e. omega (arith, e))) (pair_free 32 92 110 (λ e. omega (arith, e)) (λ e. omega (arith, e)))
    (pair_free 32 92 92 (λ e. omega (arith, e)) (λ e. omega (arith, e))) (λ byte a b c. HasNo-cons 32 byte [] a (HasNo-nil 32))

spelling_lineless : (byte : ℕ) → HasNo 10 (spelling_of byte)
spelling_lineless = each_byte (λ byte spelling. HasNo 10 spelling)
    (pair_free 10 92 115 (λ e. omega (arith, e)) (λ e. omega (arith, e))) (pair_free 10 92 110 (λ e. omega (arith, e)) (λ e. omega (arith, e)))
    (pair_free 10 92 92 (λ e. omega (arith, e)) (λ e. omega (arith, e))) (λ byte a b c. HasNo-cons 10 byte [] b (HasNo-nil 10))

free : (k : ℕ) → ((byte : ℕ) → HasNo k (spelling_of byte)) → (text : List ℕ) → HasNo k (flat_map spelling_of text)
free k each [] = HasNo-nil k
free k each (byte ∷ text) = HasNo-append k (spelling_of byte) (flat_map spelling_of text) (each byte) (free k each text)

escaped : (text : List ℕ) → IsEscaped (flat_map spelling_of text) text
escaped [] = refl
escaped (byte ∷ text) = (spelling_of byte, flat_map spelling_of text, refl, spelled byte, escaped text)

pub field_spells : (text : List ℕ) → IsField (field_of text) text
field_spells [] = (pair_free 32 92 48 (λ e. omega (arith, e)) (λ e. omega (arith, e)), inr (refl, refl))
field_spells (byte ∷ text) = (free 32 spelling_spaceless (byte ∷ text), inl ((λ e. absurd cc), escaped (byte ∷ text)))

pub field_lineless : (text : List ℕ) → HasNo 10 (field_of text)
field_lineless [] = pair_free 10 92 48 (λ e. omega (arith, e)) (λ e. omega (arith, e))
field_lineless (byte ∷ text) = free 10 spelling_lineless (byte ∷ text)

-- ---- characters

high : (byte : ℕ) → 128 ≤ byte → spelling_of byte ≡ byte ∷ []
high byte le = plain byte (λ e. omega (arith, e)) (λ e. omega (arith, e)) (λ e. omega (arith, e))

-- a byte that is written as itself, before others
one : (byte : ℕ) (bytes : List ℕ) → 128 ≤ byte → flat_map spelling_of bytes ≡ bytes → flat_map spelling_of (byte ∷ bytes) ≡ byte ∷ bytes
one byte bytes le rest = ap (λ (s : List ℕ). s ++ flat_map spelling_of bytes) (high byte le) ∙ ap (λ (s : List ℕ). byte ∷ s) rest

by_length : (c : ℕ) → spelling_of c ≡ c ∷ [] → (a b d : Bool)
    → (let bytes = cond a (c ∷ [])
    (cond b ((192 + c / 64) ∷ next c ∷ []) (cond d ((224 + c / 4096) ∷ next (c / 64) ∷ next c ∷ []) ((240 + c / 262144) ∷ next (c / 4096) ∷ next (c / 64) ∷ next c ∷ []))) in
    flat_map spelling_of bytes ≡ bytes)
by_length c itself true b d = ap (λ (s : List ℕ). s ++ []) itself
by_length c itself false true d = one (192 + c / 64) (next c ∷ []) (omega arith) (one (next c) [] (omega arith) refl)
by_length c itself false false true =
    one (224 + c / 4096) (next (c / 64) ∷ next c ∷ []) (omega arith) (one (next (c / 64)) (next c ∷ []) (omega arith) (one (next c) [] (omega arith) refl))
by_length c itself false false false =
    one (240 + c / 262144) (next (c / 4096) ∷ next (c / 64) ∷ next c ∷ []) (omega arith)
    (one (next (c / 4096)) (next (c / 64) ∷ next c ∷ []) (omega arith) (one (next (c / 64)) (next c ∷ []) (omega arith) (one (next c) [] (omega arith) refl)))

-- a character that is neither a space nor a newline nor a backslash is written as itself
pub plain_char : (c : ℕ) → c ≢ 32 → c ≢ 10 → c ≢ 92 → flat_map spelling_of (encode c) ≡ encode c
unfolding encode
plain_char c space newline backslash = by_length c (plain c space newline backslash) (ltb c 128) (ltb c 2048) (ltb c 65536)

written-append : (xs ys : List ℕ) → flat_map spelling_of (xs ++ ys) ≡ flat_map spelling_of xs ++ flat_map spelling_of ys
written-append [] ys = refl
written-append (x ∷ xs) ys =
    ap (λ (s : List ℕ). spelling_of x ++ s) (written-append xs ys) ∙ sym (append_assoc (spelling_of x) (flat_map spelling_of xs) (flat_map spelling_of ys))

-- what is written, once one character more was
pub one_more : (written grown : List ℕ) (cs : List ℕ) (c : ℕ) → written ≡ flat_map spelling_of (encodes cs) → grown ≡ written ++ flat_map spelling_of (encode c)
    → grown ≡ flat_map spelling_of (encodes (cs ++ c ∷ []))
one_more written grown cs c so grew =
    grew ∙ ap (λ (s : List ℕ). s ++ flat_map spelling_of (encode c)) so ∙ sym (written-append (encodes cs) (encode c))
    ∙ ap (flat_map spelling_of) (ap (λ (s : List ℕ). encodes cs ++ s) (sym (append-nil (encode c))) ∙ sym (encodes-append cs (c ∷ [])))
