-- The exclusive or of two texts.
use Rattle.std.specs.Prelude.{ℕ, List, [], ◌∷◌, bit_xor}

-- each byte xor the one at its place, up to the end of the shorter text
unfoldable pub xor_of : List ℕ → List ℕ → List ℕ
xor_of [] pad = []
xor_of (x ∷ xs) [] = []
xor_of (x ∷ xs) (p ∷ pad) = bit_xor x p ∷ xor_of xs pad
