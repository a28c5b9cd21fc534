-- A ticket, and what it keeps of an accepted measurement list.
use Rattle.std.specs.Prelude.{ℕ, List, Option, Some, None, ⊤}
use Rattle.kl_appraise.specs.Kept.{IsKept}
use Rattle.kl_appraise.specs.declared.kept.Kept.{Kept}
use Rattle.kl_appraise.specs.Terms.{TermsFields}

-- a ticket: its poll, whose that is, the generation that the poll's Begin named, the nonce, the terms of that generation,
-- and what is kept of the list that was accepted when the poll began
pub record TicketFields : Type 0 where
  pub poll : ℕ
  pub agent : List ℕ
  pub generation : ℕ
  pub nonce : List ℕ
  pub terms : TermsFields
  pub kept : Option Kept

-- what is kept has its form, where something is
abbrev pub AreKept : TermsFields → Option Kept → Type 0
AreKept t None = ⊤
AreKept t (Some k) = IsKept t.bank k
