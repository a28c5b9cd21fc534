-- Pieces that spell values, one for one.
use Rattle.std.proofs.Common.{◌≡◌, ℕ, zero, suc, ◌<◌, List, [], ◌∷◌, ◌++◌, length, get_or, take, refl, sym, ap, subst, ◌∙◌, arith}
use Rattle.std.proofs.lemmas.List.{take_more, take_all, length_push}
use Rattle.std.specs.List.{AllZip}

module _ {X : Type 0} (spells : List ℕ → X → Type 0) where
  AllZip-push : (pieces : List (List ℕ)) (xs : List X) (piece : List ℕ) (x : X) → AllZip spells pieces xs → spells piece x → AllZip spells (pieces ++ piece ∷ []) (xs ++ x ∷ [])
  AllZip-push [] [] piece x h p = (p, tt)
  AllZip-push [] (y ∷ ys) piece x h p = absurd h
  AllZip-push (w ∷ ws) [] piece x h p = absurd h
  AllZip-push (w ∷ ws) (y ∷ ys) piece x h p = (h.0, AllZip-push ws ys piece x h.1 p)

  AllZip-at : (pieces : List (List ℕ)) (xs : List X) (i : ℕ) (d : List ℕ) → AllZip spells pieces xs → i < length pieces → (x : X) × spells (get_or pieces i d) x
  AllZip-at [] xs i d h lt = absurd (omega arith)
  AllZip-at (w ∷ ws) [] i d h lt = absurd h
  AllZip-at (w ∷ ws) (x ∷ xs) zero d h lt = (x, h.0)
  AllZip-at (w ∷ ws) (x ∷ xs) (suc i) d h lt = AllZip-at ws xs i d h.1 (omega arith)

  module _ (pieces : List (List ℕ)) where
    -- the next piece behind those that were gone over, which are as many as the items yielded
    abbrev pub IsNext : {Y : Type 0} → List Y → List ℕ → Type 0
    IsNext yielded text = (length yielded < length pieces) × (text ≡ get_or pieces (length yielded) text)

    -- it spells the next value
    pub AllZip-more : {Y : Type 0} (yielded : List Y) (item : Y) (text : List ℕ) (xs grown : List X) (x : X) → IsNext yielded text → AllZip spells (take (length yielded) pieces) xs → spells text x → grown ≡ xs ++ x ∷ []
        → AllZip spells (take (length (yielded ++ item ∷ [])) pieces) grown
    AllZip-more {Y} yielded item text xs grown x next h p e =
        let count = length yielded in
        let front : take (length (yielded ++ item ∷ [])) pieces ≡ take count pieces ++ text ∷ [] =
        ap (λ (k : ℕ). take k pieces) (length_push yielded item) ∙ take_more pieces count text next.0 ∙ ap (λ (w : List ℕ). take count pieces ++ w ∷ []) (sym next.1) in
        let pushed = AllZip-push (take count pieces) xs text x h p in
        subst (λ (ys : List X). AllZip spells (take (length (yielded ++ item ∷ [])) pieces) ys) (sym e) (subst (λ (ps : List (List ℕ)). AllZip spells ps (xs ++ x ∷ [])) (sym front) pushed)

    -- where it spells none, all pieces together spell no list
    pub AllZip-none : {Y : Type 0} (yielded : List Y) (text : List ℕ) → IsNext yielded text → ((x : X) → ¬ (spells text x)) → (xs : List X) → ¬ (AllZip spells pieces xs)
    AllZip-none yielded text next none xs h =
        let here = AllZip-at pieces xs (length yielded) text h next.0 in
        none here.0 (subst (λ (w : List ℕ). spells w here.0) (sym next.1) here.1)

    -- at the end the list is whole
    pub AllZip-end : (count : ℕ) (xs : List X) → count ≡ length pieces → AllZip spells (take count pieces) xs → AllZip spells pieces xs
    AllZip-end count xs e h = subst (λ (ps : List (List ℕ)). AllZip spells ps xs) (take_all count pieces (omega arith)) h

  pub AllZip-same : ((w : List ℕ) (x y : X) → spells w x → spells w y → x ≡ y) → (pieces : List (List ℕ)) (xs ys : List X) → AllZip spells pieces xs → AllZip spells pieces ys → xs ≡ ys
  AllZip-same same [] [] [] g h = refl
  AllZip-same same [] (x ∷ xs) ys g h = absurd g
  AllZip-same same [] [] (y ∷ ys) g h = absurd h
  AllZip-same same (w ∷ ws) [] ys g h = absurd g
  AllZip-same same (w ∷ ws) (x ∷ xs) [] g h = absurd h
  AllZip-same same (w ∷ ws) (x ∷ xs) (y ∷ ys) g h =
      ap (λ (z : X). z ∷ xs) (same w x y g.0 h.0) ∙ ap (λ (zs : List X). y ∷ zs) (AllZip-same same ws xs ys g.1 h.1)
