-- The texts of refusals.
use Rattle.std.specs.Prelude.{ℕ, List, ◌++◌, codes, decimal}
use Rattle.kl_states.specs.Ops.{number_of}
use Rattle.kl_core.specs.declared.refusal.Refusal.{Refusal}
use Rattle.kl_core.specs.declared.refusal.Refusal.TheVariants.{NoAgent, Exists, AgentsFull, WrongState, Busy, NoPoll, NoRelease, JournalRecords, JournalBytes, Memory}

abbrev pub refusal_text : Refusal → List ℕ
refusal_text NoAgent = codes "noagent"
refusal_text Exists = codes "exists"
refusal_text AgentsFull = codes "agentsfull"
refusal_text (WrongState op) = codes "state " ++ decimal (number_of op)
refusal_text (Busy n) = codes "busy " ++ decimal n
refusal_text (NoPoll n) = codes "nopoll " ++ decimal n
refusal_text (NoRelease n) = codes "norelease " ++ decimal n
refusal_text JournalRecords = codes "journalfull records"
refusal_text JournalBytes = codes "journalfull bytes"
refusal_text Memory = codes "memory"
