-- What a caller sees of the objects in memory.
use Rattle.std.specs.Prelude.{ℕ, ◌+◌, ◌<◌, List, length, Contains}
use Rattle.kl_io.specs.Calls.{Calls, one_more, no_calls}

-- which calls fail, and what was counted
pub record ScriptState : Type 0 where
  -- the numbers of the calls that fail, where the first call is number 1
  pub fails : List ℕ
  -- the calls so far
  pub calls : Calls

-- before the first call
abbrev pub new_script : List ℕ → ScriptState
new_script fails = record { fails = fails; calls = no_calls }

-- a source in memory
pub record SourceState : Type 0 where
  -- the bytes that reads have not taken
  pub rest : List ℕ
  pub script : ScriptState

-- a sink in memory
pub record SinkState : Type 0 where
  -- the bytes that puts have appended
  pub bytes : List ℕ
  -- how many bytes it has room for, those that it holds among them
  pub room : ℕ
  pub script : ScriptState

-- the next call is listed as one that fails
abbrev pub IsListed : ScriptState → Type 0
IsListed script = Contains script.fails (one_more script.calls.made)

-- the piece passes the room that is left
abbrev pub PassesRoom : SinkState → List ℕ → Type 0
PassesRoom sink piece = sink.room < length sink.bytes + length piece
