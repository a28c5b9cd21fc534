-- The tickets of polls.
use Rattle.std.specs.Prelude.{◌≡◌, ℕ, true, Some, None}
use Rattle.kl_incr.specs.Kept.{TicketFields}
use Rattle.kl_appraise.specs.Kept.{from_of}
use Rattle.kl_history.specs.Records.{Past, start_of, is_open, terms_of}

-- The ticket that the Begin of its poll gave: what that names, and the terms of the generation that it names. Nothing is
-- kept of an accepted list, since each poll asks for the whole list.
pub record IsGiven (past : Past) (t : TicketFields) : Type 0 where
  pub at : ℕ
  pub began : start_of past t.poll ≡ Some (record { agent = t.agent; generation = t.generation; nonce = t.nonce; at = at; from = from_of t.kept })
  pub terms : terms_of past t.generation ≡ Some t.terms
  pub kept : t.kept ≡ None

-- the ticket of an open poll
abbrev pub IsOpenTicket : Past → TicketFields → Type 0
IsOpenTicket past t = (is_open past t.poll ≡ true) × IsGiven past t
