-- What the command that gives a poll up as lost does.
use Rattle.std.specs.Prelude.{◌≡◌, ◌⊎◌, ℕ, List, Option, Some, None, Result, Ok, Err}
use Rattle.kl_states.specs.declared.outcome.LostWhy.TheVariants.{Named}
use Rattle.kl_incr.specs.Kept.{TicketFields}
use Rattle.kl_core.specs.declared.closed.Closed.{Closed}
use Rattle.kl_core.specs.declared.refusal.Refusal.{Refusal}
use Rattle.kl_core.specs.Closes.{Loses, lose_makes}
use Rattle.kl_session.specs.Calls.{VerifierFields, Answered, FindsNoPoll}
use Rattle.kl_session.specs.Texts.{closed_line}

-- how a poll was closed; the ticket of an open poll is never refused
abbrev pub says_closed : Result Closed (Refusal × TicketFields) → Option (List ℕ)
says_closed (Ok c) = Some (closed_line c)
says_closed (Err e) = None

-- the open poll of this number is closed as lost, since it was named
abbrev pub LosesPoll : ℕ → VerifierFields → VerifierFields → List ℕ → Type 0
LosesPoll p s s' line = (t : TicketFields) × (t.poll ≡ p) × Answered (Loses t Named) (lose_makes t Named) says_closed s s' line

abbrev pub DoesLose : ℕ → VerifierFields → VerifierFields → List ℕ → Type 0
DoesLose p s s' line = LosesPoll p s s' line ⊎ FindsNoPoll p s s' line
