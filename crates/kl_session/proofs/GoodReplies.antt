-- A reply with genuine evidence passes.
use Rattle.std.proofs.Common.{◌≡◌, ℕ, Bool}
use Rattle.kl_quote.specs.declared.evidence.Evidence.{Evidence}
use Rattle.kl_states.specs.declared.verdict.Verdict.TheVariants.{Pass}
use Rattle.kl_appraise.specs.declared.judged.Outcome.{Outcome as Finding}
use Rattle.kl_appraise.specs.declared.judged.Outcome.TheVariants.{Verdict as Judged}
use Rattle.kl_appraise.specs.Genuine.{IsGenuine, AllowsList}
use Rattle.kl_appraise.specs.ListRules.{Case}
use Rattle.kl_appraise.proofs.GenuineFacts.{genuine_outcome}
use Rattle.kl_history.specs.Records.{Past}
use Rattle.kl_history.specs.Legal.{IsCaseOf}
use Rattle.kl_incr.specs.Kept.{TicketFields}
use Rattle.kl_session.specs.Outside.{Outside}
use Rattle.kl_session.specs.Replies.{Finds, Went}

pub genuine_passes : (o o' : Outside) (past : Past) (t : TicketFields) (e : Evidence) (signed : Bool) (found : Finding)
    → Went o o' past t e (Finds signed found) → ((k : Case) → IsCaseOf past t.poll e signed k → IsGenuine k × AllowsList k)
    → (cut : ℕ) × (found ≡ Judged (Pass cut))
genuine_passes o o' past t e signed found went good =
    let is = good went.case went.poll_case in
    let (_, cut, _, _, same) = genuine_outcome went.case found is.0 is.1 went.outcome in
    (cut, same)
