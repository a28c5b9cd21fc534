-- A command line of one word.
use Rattle.std.proofs.Common.{◌≡◌, ℕ, Bool, List, [], ◌∷◌, length, get_or, map, IsTrue, ◌↔◌, sym, ap, ◌∙◌, arith}

pub one_word : {A : Type 0} (f : A → List ℕ) (xs : List A) (x : A) (word : List ℕ) (b : Bool) → length xs ≡ 1 → x ≡ get_or xs 0 x → (IsTrue b ↔ (f x ≡ word)) → IsTrue b ↔ (map f xs ≡ word ∷ [])
one_word f [] x word b one at says = absurd (omega arith)
one_word f (y ∷ []) x word b one at says = (λ yes. ap (λ w. w ∷ []) (ap f (sym at) ∙ says.0 yes), λ same. says.1 (ap f at ∙ cc))
one_word f (y ∷ z ∷ ys) x word b one at says = absurd (omega arith)
