-- How large an agent's answer is, and may be.
use Rattle.std.specs.Prelude.{ℕ, ◌+◌, List, length}

-- how many bytes four texts have together
abbrev pub total_bytes : List ℕ → List ℕ → List ℕ → List ℕ → ℕ
total_bytes bank public quote list = length bank + length public + length quote + length list

-- the most bytes that they may have: 16 MiB
abbrev pub evidence_limit : ℕ
evidence_limit = 16777216
