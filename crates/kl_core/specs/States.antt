-- What a verifier says of an agent, by its records.
use Rattle.std.specs.Prelude.{◌≡◌, ℕ, List, length, Option, Some, None}
use Rattle.kl_entry.specs.Entries.{EntryFields}
use Rattle.kl_states.specs.declared.op.State.{State}
use Rattle.kl_appraise.specs.declared.judged.Boot.{Boot}
use Rattle.kl_history.specs.Records.{Past, own}
use Rattle.kl_history.specs.LookBacks.{Installed, installed}
use Rattle.kl_history.specs.Accepted.{IsAccepted}
use Rattle.kl_history.specs.States.{IsOp}

-- as many entries of the agent's measurement list are accepted
abbrev pub Accepted : Past → ℕ → Type 0
Accepted own_past n = (entries : List EntryFields) × (boot : Boot) × IsAccepted own_past entries boot × (length entries ≡ n)

-- the state of an installed agent, its generation, and how many entries of its list are accepted
pub record IsState (own_past : Past) (s : State) : Type 0 where
  pub with : Installed
  pub installed : installed own_past ≡ Some with
  pub generation : s.generation ≡ with.generation
  pub op : IsOp own_past s.op
  pub accepted : Accepted own_past s.accepted

-- the state of an agent, none where it is not installed
abbrev pub StateAnswers : List ℕ → Option State → Past → Type 0
StateAnswers a None past = installed (own past a) ≡ None
StateAnswers a (Some s) past = IsState (own past a) s
