-- What the command that asks how an agent stands prints.
use Rattle.std.specs.Prelude.{◌≡◌, ℕ, List, Option, Some, None}
use Rattle.kl_states.specs.declared.op.State.{State}
use Rattle.kl_core.specs.declared.refusal.Refusal.TheVariants.{NoAgent}
use Rattle.kl_core.specs.Texts.{refusal_text}
use Rattle.kl_core.specs.States.{StateAnswers}
use Rattle.kl_session.specs.Calls.{VerifierFields, past}
use Rattle.kl_session.specs.Texts.{standing_line, refused_line}

abbrev pub says_state : List ℕ → Option State → List ℕ
says_state agent (Some state) = standing_line agent state
says_state agent None = refused_line (refusal_text NoAgent)

abbrev pub SaysState : List ℕ → VerifierFields → List ℕ → Type 0
SaysState agent s line = (state : Option State) × StateAnswers agent state (past s) × (line ≡ says_state agent state)
