-- What a hasher of a bank has taken in so far.
use Rattle.std.specs.Prelude.{ℕ, List}
use Rattle.sha1.specs.Sha1 as one
use Rattle.sha2.specs.Hashers.{Holds256, Holds384}
use Rattle.kl_bank.specs.declared.bank.Bank.{Bank}
use Rattle.kl_bank.specs.declared.bank.Bank.TheVariants.{Sha1, Sha256, Sha384}
use Rattle.kl_bank.specs.declared.hasher.Hasher.{Hasher}
use Rattle.kl_bank.specs.declared.hasher.State.{State}
use Rattle.kl_bank.specs.declared.hasher.State.TheVariants as state

-- the state is one of the bank's hash, and has taken in the message
abbrev pub HoldsState : State → Bank → List ℕ → Type 0
HoldsState (state.Sha1 s) Sha1 message = one.Holds s message
HoldsState (state.Sha256 s) Sha256 message = Holds256 s message
HoldsState (state.Sha384 s) Sha384 message = Holds384 s message
HoldsState _ _ _ = ⊥

-- the hasher is one of the bank, and has taken in the message
abbrev pub Holds : Hasher → Bank → List ℕ → Type 0
Holds hasher bank message = HoldsState hasher.state bank message
