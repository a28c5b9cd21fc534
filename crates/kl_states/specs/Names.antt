-- Which bytes name an agent, and which are a nonce.
use Rattle.std.specs.Prelude.{ℕ, ◌≤◌, Bool, ◌||◌, ◌==◌, List, length}
use Rattle.std.specs.List.{AllPass}
use Rattle.std.specs.Char.{is_ascii_alphanumeric}

-- 1 to 64 bytes, each of which passes the test
pub record IsWord (passes : ℕ → Bool) (bytes : List ℕ) : Type 0 where
  pub some : 1 ≤ length bytes
  pub fits : length bytes ≤ 64
  pub each : AllPass passes bytes

-- an ASCII letter or digit, or `-` (45), `_` (95) or `.` (46)
abbrev pub is_agent_id_byte : ℕ → Bool
is_agent_id_byte b = is_ascii_alphanumeric b || (b == 45 || b == 95 || b == 46)

-- 1 to 64 letters, digits, `-`, `_` and `.`
abbrev pub IsAgentId : List ℕ → Type 0
IsAgentId bytes = IsWord is_agent_id_byte bytes

-- 1 to 64 ASCII letters and digits
abbrev pub IsNonce : List ℕ → Type 0
IsNonce bytes = IsWord is_ascii_alphanumeric bytes
