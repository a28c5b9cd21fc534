-- The first item of a list that fails a test is one, and stands at one place.
use Rattle.std.proofs.Common.{◌≡◌, ℕ, ◌<◌, List, ◌∷◌, ◌++◌, length, get_or, All, sym, ap, ◌∙◌, subst, inl, inr, arith}
use Rattle.std.proofs.Math.ListN.{get_or-append}
use Rattle.std.proofs.Math.Seq.{get_or-append_seam}
use Rattle.std.proofs.lemmas.Bool.{cases_lt}
use Rattle.kl_entry.specs.Lines.{IsFirstFailing}

-- an item that fails does not stand among those that pass
not_among : {X : Type 0} (Good : X → Type 0) (a b c d : List X) (x y : X) → a ++ x ∷ b ≡ c ++ y ∷ d → All Good c → ¬ (Good x) → ¬ (length a < length c)
not_among Good a b c d x y same good bad below =
    let there : get_or c (length a) x ≡ x =
    sym (get_or-append c (y ∷ d) x (length a) below) ∙ ap (λ xs. get_or xs (length a) x) (sym same) ∙ get_or-append_seam a x b x in
    bad (subst Good there (good (length a) x below))

pub one_place : {X : Type 0} (Good : X → Type 0) (a b c d : List X) (x y : X) → a ++ x ∷ b ≡ c ++ y ∷ d → All Good a → All Good c → ¬ (Good x) → ¬ (Good y)
    → length a ≡ length c
one_place Good a b c d x y same first also bad worse = elim (cases_lt (length a) (length c)) [
  | inl below ↦ absurd (not_among Good a b c d x y same also bad below)
  | inr reached ↦ elim (cases_lt (length c) (length a)) [
    | inl above ↦ absurd (not_among Good c d a b y x (sym same) first worse above)
    | inr level ↦ omega (arith, reached, level)
  ]
]

pub one_item : {X : Type 0} (a b c d : List X) (x y : X) → a ++ x ∷ b ≡ c ++ y ∷ d → length a ≡ length c → x ≡ y
one_item a b c d x y same place =
    sym (get_or-append_seam a x b x) ∙ ap (λ xs. get_or xs (length a) x) same ∙ ap (λ n. get_or (c ++ y ∷ d) n x) place ∙ get_or-append_seam c y d x

-- so the first item that fails stands at one place, whatever is said of its failing
pub one_failing : {X : Type 0} (Good F G : X → Type 0) → ((item : X) → F item → ¬ (Good item)) → ((item : X) → G item → ¬ (Good item)) → (items : List X) (p q : ℕ)
    → IsFirstFailing Good F items p → IsFirstFailing Good G items q → p ≡ q
one_failing Good F G bad worse items p q f g =
    sym f.counted ∙ one_place Good f.before f.after g.before g.after f.item g.item (sym f.cut ∙ g.cut) f.good g.good (bad f.item f.fails) (worse g.item g.fails) ∙ g.counted
