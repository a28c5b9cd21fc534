-- What an object of keys tells.
use Rattle.std.specs.Prelude.{◌≡◌, ℕ, Bool, List, [], ◌∷◌, ◌++◌, Option, None, Some}
use Rattle.std.specs.Option.{option_map}
use Rattle.kl_io.specs.Calls.{Calls, no_calls}
use Rattle.kl_keys.specs.Relations.{Relations}

-- a question and its answer
pub data Exchange : Type 0 where
  -- of a key, a message and a signature: the answer, none at a fault
  Verified : List ℕ → List ℕ → List ℕ → Option Bool → Exchange
  -- of a key and a message: the signature, none at a fault or without memory
  Signed : List ℕ → List ℕ → Option (List ℕ) → Exchange
  -- of a public key and a secret: the sealed bytes, none at a fault or without memory
  Sealed : List ℕ → List ℕ → Option (List ℕ) → Exchange
  -- of a public key and sealed bytes: the answer, the secret or none, and none at all at a fault
  Unsealed : List ℕ → List ℕ → Option (Option (List ℕ)) → Exchange
  -- of an endorsement key, an attestation key and a secret: the blob, none at a fault or without memory
  Credential : List ℕ → List ℕ → List ℕ → Option (List ℕ) → Exchange
  -- of an endorsement key, an attestation key and a blob: the answer as that of `unseal`
  Activated : List ℕ → List ℕ → List ℕ → Option (Option (List ℕ)) → Exchange

pub record KeysTold : Type 0 where
  -- the relations that the answers follow, where they are told
  pub relations : Option Relations
  -- all calls together
  pub calls : Calls
  -- every question that was ever asked, with its answer, oldest first, where they are told
  pub log : Option (List Exchange)

-- one exchange more, where they are told
abbrev pub Logs : Option (List Exchange) → Option (List Exchange) → Exchange → Type 0
Logs old new exchange = new ≡ option_map (λ l. l ++ exchange ∷ []) old

-- keys that follow these relations and tell no exchange, before the first call
abbrev pub new_keys : Relations → KeysTold
new_keys relations = record { relations = Some relations; calls = no_calls; log = None }
