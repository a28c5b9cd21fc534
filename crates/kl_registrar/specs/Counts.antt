-- How many agents have a record, told by their names.
use Rattle.std.specs.Prelude.{◌≡◌, ◌↔◌, ℕ, List, length, Contains, IsTrue}
use Rattle.std.specs.List.{IsDistinct}
use Rattle.std.specs.Str.{bytes_eq}
use Rattle.kl_registrar.specs.Calls.{Log}
use Rattle.kl_registrar.specs.Records.{has_record}

-- there are so many agents that have a record, no two of them alike
pub record IsCountOf (past : Log) (n : ℕ) : Type 0 where
  pub agents : List (List ℕ)
  pub apart : IsDistinct bytes_eq agents
  pub each : (id : List ℕ) → Contains agents id ↔ IsTrue (has_record past id)
  pub many : length agents ≡ n
