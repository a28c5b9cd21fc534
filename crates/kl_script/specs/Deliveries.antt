-- How a delivery ended that was tried: its word, and the outcome of its release.
use Rattle.std.specs.Prelude.{ℕ, List, codes}
use Rattle.kl_states.specs.declared.outcome.Outcome.{Outcome}
use Rattle.kl_states.specs.declared.outcome.Outcome.TheVariants as outcome
use Rattle.kl_script.specs.declared.command.Delivery.{Delivery}
use Rattle.kl_script.specs.declared.command.Delivery.TheVariants.{Arrived, Missed}

abbrev pub delivery_word : Delivery → List ℕ
delivery_word Arrived = codes "arrived"
delivery_word Missed = codes "missed"

abbrev pub outcome_of : Delivery → Outcome
outcome_of Arrived = outcome.Arrived
outcome_of Missed = outcome.Missed
