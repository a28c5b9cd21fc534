-- How an open poll of a book is closed.
use Rattle.std.specs.Prelude.{◌≡◌, ℕ, Bool, [], ◌∷◌}
use Rattle.kl_quote.specs.declared.evidence.Evidence.{Evidence}
use Rattle.kl_appraise.specs.ListRules.{Case}
use Rattle.kl_appraise.specs.declared.judged.Outcome.{Outcome as Finding}
use Rattle.kl_appraise.specs.Outcome.{IsOutcome}
use Rattle.kl_incr.specs.Kept.{TicketFields}
use Rattle.kl_history.specs.declared.record.Record.{Record}
use Rattle.kl_history.specs.Records.{Past}
use Rattle.kl_history.specs.Legal.{IsCaseOf}
use Rattle.kl_core.specs.declared.closed.Closed.{Closed}
use Rattle.kl_core.specs.Books.{BookFields, past, with_more}
use Rattle.kl_session.specs.Outside.{Outside}
use Rattle.kl_session.specs.Replies.{Closes}

-- the rules find this of a reply to the poll
abbrev pub IsFound : Past → ℕ → Evidence → Bool → Finding → Type 0
IsFound past p e signed found = (k : Case) × IsCaseOf past p e signed k × IsOutcome k found

-- the poll of the ticket is closed by the appraisal of the evidence, and the record of that stands behind those before
abbrev pub ClosesBook : Outside → Outside → BookFields → TicketFields → Evidence → Closed → BookFields → Type 0
ClosesBook o o' b t e c b' = (made : Record) × (b' ≡ with_more (made ∷ []) b) × Closes o o' (past b) t e made c
