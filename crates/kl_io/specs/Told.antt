-- What a source and a sink tell.
use Rattle.std.specs.Prelude.{◌≡◌, ℕ, ◌<◌, ◌↔◌, List, ◌++◌, length, Option, None, Some, ⊤}
use Rattle.std.specs.Io.KnownBytes.{Appends}
use Rattle.kl_io.specs.Calls.{Calls, no_calls}

pub record SourceTold : Type 0 where
  -- the bytes that reads will take from here on, where they are known
  pub left : Option (List ℕ)
  -- the bytes that the object holds as a sink, where it is one and they are known
  pub kept : Option (List ℕ)
  -- which object it is, where it is a borrow of another
  pub place : ℕ
  -- its calls of `read`
  pub calls : Calls

pub record SinkTold : Type 0 where
  -- the bytes that it holds, where they are known
  pub held : Option (List ℕ)
  -- the bytes that the object has left as a source, where it is one and they are known
  pub ahead : Option (List ℕ)
  -- which object it is, where it is a borrow of another
  pub place : ℕ
  -- its calls of `put`
  pub calls : Calls

pub record WordsTold : Type 0 where
  -- the bytes that fills will take from here on, where they are known
  pub left : Option (List ℕ)
  -- its calls of `fill`
  pub calls : Calls

-- a source that is no sink and no borrow, before its first call
abbrev pub new_source : Option (List ℕ) → SourceTold
new_source left = record { left = left; kept = None; place = 0; calls = no_calls }

-- a sink that is no source and no borrow, before its first call
abbrev pub new_sink : Option (List ℕ) → SinkTold
new_sink held = record { held = held; ahead = None; place = 0; calls = no_calls }

-- words before the first call
abbrev pub new_words : Option (List ℕ) → WordsTold
new_words left = record { left = left; calls = no_calls }

-- the answer that words have ended comes exactly where fewer than n bytes are left, where it is known how many are
abbrev pub Ends : Option (List ℕ) → ℕ → Type 0 → Type 0
Ends None n Ended = ⊤
Ends (Some left) n Ended = Ended ↔ (length left < n)

-- known bytes grew by a front of the piece: none of it, some of it or all of it
abbrev pub AppendsFront : Option (List ℕ) → Option (List ℕ) → List ℕ → Type 0
AppendsFront old new piece = (front : List ℕ) × (rest : List ℕ) × (piece ≡ front ++ rest) × Appends old new front
