-- What the key object is asked about a quote, and how often.
use Rattle.std.specs.Prelude.{◌≡◌, Bool, List, ℕ, Option, IsNone, IfSome}
use Rattle.kl_io.specs.Calls.{Counts}
use Rattle.kl_keys.specs.Relations.{Answers}
use Rattle.kl_keys.specs.Told.{KeysTold, Logs, Verified}
use Rattle.kl_quote.specs.QuoteText.{IsQuoteText}

-- It was asked once: whether the signature of the quote text is the attestation key's, of the attestation there. It answered
-- this, by its relations where it tells them, or met a fault, in which case there is no answer.
pub record Asked (old new : KeysTold) (ak quote : List ℕ) (answer : Option Bool) : Type 0 where
  pub attest : List ℕ
  pub signature : List ℕ
  pub values : List ℕ
  pub text : IsQuoteText quote attest signature values
  pub related : IfSome answer (λ yes. Answers old.relations ak attest signature yes)
  pub relations : new.relations ≡ old.relations
  pub counted : Counts old.calls new.calls (IsNone answer)
  pub logged : Logs old.log new.log (Verified ak attest signature answer)

-- whatever it answered
abbrev pub AskedOnce : KeysTold → KeysTold → List ℕ → List ℕ → Type 0
AskedOnce old new ak quote = (answer : Option Bool) × Asked old new ak quote answer
