-- What the command that begins a poll does.
use Rattle.std.specs.Prelude.{◌≡◌, ℕ, List, Option, Some, None, Result, Ok, Err}
use Rattle.hex.specs.Hex.{encode_lower}
use Rattle.kl_incr.specs.Kept.{TicketFields}
use Rattle.kl_script.specs.declared.command.Begin.{Begin}
use Rattle.kl_core.specs.declared.refusal.Refusal.{Refusal}
use Rattle.kl_core.specs.Begins.{BeginAnswers, begin_makes}
use Rattle.kl_session.specs.Outside.{Outside}
use Rattle.kl_session.specs.Calls.{VerifierFields, Answered}
use Rattle.kl_session.specs.Drawing.{Draws}
use Rattle.kl_session.specs.Texts.{polled_line, says_refused}

-- the nonce that is named, or the 32 hexadecimal digits, in lower case, of 16 bytes that are drawn
abbrev pub HasNonce : Outside → Outside → Option (List ℕ) → List ℕ → Type 0
HasNonce o o' (Some named) nonce = (o' ≡ o) × (nonce ≡ named)
HasNonce o o' None nonce = (drawn : List ℕ) × Draws 16 o o' drawn × (nonce ≡ encode_lower drawn)

abbrev pub says_polled : Result TicketFields Refusal → Option (List ℕ)
says_polled (Ok t) = Some (polled_line t)
says_polled (Err why) = says_refused why

-- a poll of the agent begins, at the moment and with this nonce
abbrev pub BeginsWith : List ℕ → List ℕ → VerifierFields → VerifierFields → List ℕ → Type 0
BeginsWith agent nonce s s' line = Answered (BeginAnswers agent nonce s.moment) (begin_makes s.moment) says_polled s s' line

-- a nonce that is to be drawn is drawn first, also where the poll is then refused
abbrev pub DoesBegin : Outside → Outside → Begin → VerifierFields → VerifierFields → List ℕ → Type 0
DoesBegin o o' b s s' line = (nonce : List ℕ) × HasNonce o o' b.nonce nonce × BeginsWith b.agent nonce s s' line
