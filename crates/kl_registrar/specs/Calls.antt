-- The calls that a registrar has done.
use Rattle.std.specs.Prelude.{ℕ, List, [], ◌∷◌, if◌then◌else◌}
use Rattle.std.specs.Str.{bytes_eq}

-- what a register tells of an agent
pub record Registration : Type 0 where
  pub ek : List ℕ
  pub ak : List ℕ
  pub contact : List ℕ
  pub secret : List ℕ

abbrev pub registration : List ℕ → List ℕ → List ℕ → List ℕ → Registration
registration ek ak contact secret = record { ek = ek; ak = ak; contact = contact; secret = secret }

pub data Call : Type 0 where
  Register : List ℕ → Registration → Call
  -- of an agent and the tag that it gave
  Activate : List ℕ → List ℕ → Call
  Remove : List ℕ → Call

-- all calls that were done, the newest first
abbrev pub Log : Type 0
Log = List Call

abbrev pub agent_of : Call → List ℕ
agent_of (Register id r) = id
agent_of (Activate id tag) = id
agent_of (Remove id) = id

-- the calls on one agent
abbrev pub own : Log → List ℕ → Log
own [] id = []
own (call ∷ past) id = if bytes_eq (agent_of call) id then call ∷ own past id else own past id
