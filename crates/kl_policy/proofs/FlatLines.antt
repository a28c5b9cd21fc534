-- The parts of a line of a flat policy, by its first space.
use Rattle.std.proofs.Common.{◌≡◌, ◌≢◌, ℕ, ◌<◌, true, Option, Some, None, Ok, List, ◌∷◌, ◌++◌, length, get_or, codes, subst, ◌∙◌, append_assoc, IfNone, MatchOption, lit<, Bor}
use Rattle.std.proofs.lemmas.Str.Pattern.{IsSplitOnceResult, split_after}
use Rattle.hex.specs.Hex.{decode_of, is_hex_digit}
use Rattle.hex.proofs.HexLemmas.{decode_of-ok}
use Rattle.kl_policy.specs.Flat.{FlatLine}

-- the line gives no digest and no path
abbrev pub GivesNone : List ℕ → Type 0
GivesNone line = (digest path : List ℕ) → ¬ (FlatLine line digest path)

-- what holds anyway holds for that variant
pub if_none : {T : Type 0} (o : Option T) (line : List ℕ) → GivesNone line → IfNone o (GivesNone line)
if_none None line p = p
if_none (Some x) line p = tt

-- the same line, by its bytes
pub by_spaces : (digits path : List ℕ) → digits ++ codes "  " ++ path ≡ digits ++ 32 ∷ 32 ∷ path
by_spaces digits path = append_assoc digits (codes "  ") path

-- a space is no digit
not_space : (b : ℕ) → is_hex_digit b ≡ true → b ≢ 32
not_space b h e = let no : is_hex_digit 32 ≡ true = subst (λ c. is_hex_digit c ≡ true) e h in cc no

-- digits that decode hold no space
pub no_space : (digits digest : List ℕ) → decode_of digits ≡ Ok digest → (i : ℕ) → i < length digits → get_or digits i 0 ≢ 32
no_space digits digest h i below = not_space (get_or digits i 0) ((decode_of-ok digits digest h).1 i 0 below)

-- where a line is cut at its first space, its digits stand before that, and a space and its path behind
pub cut_at_space : (line digest path : List ℕ) (f : FlatLine line digest path) (r : Option (Bor (List ℕ) × Bor (List ℕ)))
    → IsSplitOnceResult 32 line r → MatchOption r ⊥ (λ x. (x.0.now ≡ f.digits) × (x.1.now ≡ 32 ∷ path))
cut_at_space line digest path f r h =
    split_after 32 line f.digits (32 ∷ path) r h (lit< tt) (f.parts ∙ by_spaces f.digits path) (no_space f.digits digest f.spelled.decoded)

-- what stands behind the first byte
pub same_tail : {x y : ℕ} {xs ys : List ℕ} → x ∷ xs ≡ y ∷ ys → xs ≡ ys
same_tail h = cc h
