-- The tickets and the shares that a session keeps.
use Rattle.std.specs.Prelude.{◌≡◌, ℕ, Bool, true, List, ◌∷◌, ◌++◌, map, All, Contains}
use Rattle.kl_incr.specs.Kept.{TicketFields}
use Rattle.kl_history.specs.Records.{Past, is_open, is_unsettled}
use Rattle.kl_core.specs.Tickets.{IsGiven}
use Rattle.kl_core.specs.Shares.{ShareFields, IsGivenShare}
use Rattle.kl_session.specs.Closing.{IsRising}

-- What is kept of the open ones, in the order of their numbers: each is what an open one gave, and each open one has its own.
pub record AreOfOpen {X : Type 0} (number : X → ℕ) (is_open : ℕ → Bool) (Gave : X → Type 0) (kept : List X) : Type 0 where
  pub rising : IsRising (map number kept)
  pub opened : All (λ x. (is_open (number x) ≡ true) × Gave x) kept
  pub all : (n : ℕ) → is_open n ≡ true → Contains (map number kept) n

-- the tickets of the open polls
abbrev pub AreTickets : Past → List TicketFields → Type 0
AreTickets past tickets = AreOfOpen (λ (t : TicketFields). t.poll) (is_open past) (IsGiven past) tickets

-- the shares of the open releases
abbrev pub AreShares : Past → List ShareFields → Type 0
AreShares past shares = AreOfOpen (λ (s : ShareFields). s.number) (is_unsettled past) (IsGivenShare past) shares

-- all that is kept
pub record AreKept (past : Past) (tickets : List TicketFields) (shares : List ShareFields) : Type 0 where
  pub tickets_are : AreTickets past tickets
  pub shares_are : AreShares past shares

-- it was one of these, and those are the others
abbrev pub Takes : {X : Type 0} → List X → X → List X → Type 0
Takes {X} all taken others = (front : List X) × (back : List X) × (all ≡ front ++ taken ∷ back) × (others ≡ front ++ back)
