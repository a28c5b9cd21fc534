-- Words that are drawn.
use Rattle.std.specs.Prelude.{◌≡◌, ◌⊎◌, ℕ, ◌<◌, List, length, Option, Some, None, ⊤}
use Rattle.std.specs.Io.KnownBytes.{Consumes}
use Rattle.kl_io.specs.Calls.{Counts}
use Rattle.kl_session.specs.Outside.{Outside}

-- one draw of so many bytes, which are these
pub record Draws (n : ℕ) (o o' : Outside) (drawn : List ℕ) : Type 0 where
  pub counted : length drawn ≡ n
  pub taken : Consumes o.words.left o'.words.left drawn
  pub once : Counts o.words.calls o'.words.calls ⊥
  pub keys : o'.keys ≡ o.keys
  pub maker : o'.maker ≡ o.maker
  pub steps : o'.steps ≡ o.steps

-- fewer bytes are left than so many, where it is known how many are
abbrev pub HasFewer : Option (List ℕ) → ℕ → Type 0
HasFewer None n = ⊤
HasFewer (Some left) n = length left < n

-- one draw of so many bytes took nothing: it met a fault, or fewer are left
pub record DrawsNone (n : ℕ) (o o' : Outside) : Type 0 where
  pub left : o'.words.left ≡ o.words.left
  pub cause : Counts o.words.calls o'.words.calls ⊤ ⊎ (HasFewer o.words.left n × Counts o.words.calls o'.words.calls ⊥)
  pub keys : o'.keys ≡ o.keys
  pub maker : o'.maker ≡ o.maker
  pub steps : o'.steps ≡ o.steps
