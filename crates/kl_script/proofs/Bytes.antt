-- A text is cut at the first byte that a search finds.
use Rattle.std.proofs.Common.{◌≡◌, ◌≢◌, ℕ, zero, suc, ◌+◌, ◌<◌, ◌≤◌, List, [], ◌∷◌, ◌++◌, length, get_or, take, drop, refl, sym, ap, ◌∙◌, subst, arith, add-one, drop-cons}
use Rattle.std.proofs.lemmas.Bool.{eqb-true, eq-eqb}
use Rattle.std.proofs.lemmas.List.{take-append-drop}
use Rattle.std.proofs.lemmas.Str.{IsCharBoundary-after_ascii}
use Rattle.std.specs.Str.{IsUtf8, IsCharBoundary}
use Rattle.std.specs.Prelude.{slice_range, Some, None}
use Rattle.memchr.specs.Find.{IsFirstByte, is_byte}
use Rattle.kl_script.specs.Words.{HasNo}

HasNo-cons : (b x : ℕ) (xs : List ℕ) → x ≢ b → HasNo b xs → HasNo b (x ∷ xs)
HasNo-cons b x xs ne rest zero lt = ne
HasNo-cons b x xs ne rest (suc i) lt = rest i (omega (arith, lt))

HasNo-take : (b n : ℕ) (xs : List ℕ) → ((k : ℕ) → k < n → get_or xs k 0 ≡ b → ⊥) → n ≤ length xs → HasNo b (take n xs)
HasNo-take b zero xs h le = λ i lt. absurd (omega (arith, lt))
HasNo-take b (suc n) [] h le = absurd (omega (arith, le))
HasNo-take b (suc n) (x ∷ xs) h le = HasNo-cons b x (take n xs) (h 0 (omega arith)) (HasNo-take b n xs (λ k lt. h (suc k) (omega (arith, lt))) (omega (arith, le)))

HasNo-whole : (b : ℕ) (xs : List ℕ) → ((k : ℕ) → k < length xs → get_or xs k 0 ≡ b → ⊥) → HasNo b xs
HasNo-whole b [] h = λ i lt. absurd (omega (arith, lt))
HasNo-whole b (x ∷ xs) h = HasNo-cons b x xs (h 0 (omega arith)) (HasNo-whole b xs (λ k lt. h (suc k) (omega (arith, lt))))

range_from_start : (xs : List ℕ) (n : ℕ) → slice_range xs 0 n ≡ take n xs
range_from_start xs n = grind arith

module _ (b : ℕ) (text hay : List ℕ) (same : hay ≡ text) where
  pub cut_found : (before behind : List ℕ) (at : ℕ) → IsFirstByte (is_byte b) hay (Some at) → before ≡ slice_range text 0 at → behind ≡ drop (at + 1) text
      → (text ≡ before ++ b ∷ behind) × HasNo b before
  cut_found before behind at found l r =
      let found' = subst (λ (h : List ℕ). IsFirstByte (is_byte b) h (Some at)) same found in
      let is : get_or text at 0 ≡ b = eqb-true _ b found'.1 in
      let lt : at < length text = found'.0.high in
      let parts : text ≡ take at text ++ b ∷ drop (at + 1) text =
      sym (take-append-drop at text) ∙ ap (λ (x : List ℕ). take at text ++ x) (drop-cons text at 0 lt ∙ ap (λ (x : ℕ). x ∷ drop (suc at) text) is ∙ ap (λ (k : ℕ). b ∷ drop k text) (sym (add-one at))) in
      let none = HasNo-take b at text (λ k low e. found'.0.before k (omega arith) low (eq-eqb _ b e)) (omega (arith, lt)) in
      rw (l, r, range_from_start text at) (parts, none)

  pub cut_missed : IsFirstByte (is_byte b) hay None → HasNo b text
  cut_missed missed =
      let missed' = subst (λ (h : List ℕ). IsFirstByte (is_byte b) h None) same missed in
      HasNo-whole b text (λ k lt e. missed' k (omega arith) lt (eq-eqb _ b e))

  pub boundary : (at : ℕ) → IsUtf8 hay → IsFirstByte (is_byte b) hay (Some at) → b < 128 → IsCharBoundary text (at + 1)
  boundary at utf8 found ascii =
      let found' = subst (λ (h : List ℕ). IsFirstByte (is_byte b) h (Some at)) same found in
      let is : get_or text at 0 ≡ b = eqb-true _ b found'.1 in
      IsCharBoundary-after_ascii text at (subst IsUtf8 same utf8) found'.0.high (omega (arith, is, ascii))
