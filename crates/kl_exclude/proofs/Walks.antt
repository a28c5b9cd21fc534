-- Lists that a loop builds, item by item.
use Rattle.std.proofs.Common.{◌≡◌, ◌<◌, ◌+◌, ℕ, Bool, true, false, ◌||◌, List, [], ◌∷◌, ◌++◌, map, length, get_or, take, refl, sym, ap, ◌∙◌}
use Rattle.std.proofs.Math.Seq.{take-suc}
use Rattle.std.proofs.Math.Numerals.{add-one}
use Rattle.std.proofs.lemmas.List.{map-append}

-- ---- one item more
take_one : {X : Type 0} (xs : List X) (i : ℕ) (d : X) → i < length xs → take (i + 1) xs ≡ take i xs ++ get_or xs i d ∷ []
take_one xs i d lt = ap (λ n. take n xs) (add-one i) ∙ take-suc xs i d lt

pub take_next : {X : Type 0} (xs : List X) (i : ℕ) (x : X) → i < length xs → x ≡ get_or xs i x → take (i + 1) xs ≡ take i xs ++ x ∷ []
take_next xs i x lt e = take_one xs i x lt ∙ ap (λ y. take i xs ++ y ∷ []) (sym e)

map_take_one : {X Y : Type 0} (f : X → Y) (xs : List X) (i : ℕ) (d : X) → i < length xs → map f (take (i + 1) xs) ≡ map f (take i xs) ++ f (get_or xs i d) ∷ []
map_take_one f xs i d lt = ap (map f) (take_one xs i d lt) ∙ map-append f (take i xs) (get_or xs i d ∷ [])

-- a loop that pushes an answer for each item
pub grows : {X Y : Type 0} (f : X → Y) (xs : List X) (i : ℕ) (d : X) → i < length xs → (old new : List Y) (y : Y)
    → new ≡ old ++ y ∷ [] → old ≡ map f (take i xs) → y ≡ f (get_or xs i d) → new ≡ map f (take (i + 1) xs)
grows f xs i d lt old new y e before found =
    e ∙ ap (λ ys. ys ++ y ∷ []) before ∙ ap (λ z. map f (take i xs) ++ z ∷ []) found ∙ sym (map_take_one f xs i d lt)

-- ---- booleans
pub or_with_true : (a : Bool) → (a || true) ≡ true
or_with_true true = refl
or_with_true false = refl

pub or_with_false : (a : Bool) → (a || false) ≡ a
or_with_false true = refl
or_with_false false = refl
