-- What an object of keys may tell: the fixed relations that its answers follow.
use Rattle.std.specs.Prelude.{◌≡◌, ◌≢◌, ℕ, Bool, List, length, Option, Some, None, ⊤}

pub record Relations : Type 0 where
  -- of a key, a message and a signature: whether the signature is the key's, of that message
  pub verifies : List ℕ → List ℕ → List ℕ → Bool
  -- of a key and a message: the signature
  pub signs : List ℕ → List ℕ → List ℕ
  -- of a public key and a secret: the secret sealed
  pub sealed : List ℕ → List ℕ → List ℕ
  -- of an endorsement key, an attestation key and a secret: the credential blob
  pub credential_of : List ℕ → List ℕ → List ℕ → List ℕ

-- an answer of `verify` is the relation's, where relations are told
abbrev pub Answers : Option Relations → List ℕ → List ℕ → List ℕ → Bool → Type 0
Answers None key message signature answer = ⊤
Answers (Some r) key message signature answer = answer ≡ r.verifies key message signature

-- a signature that `sign` gives is the relation's, where relations are told
abbrev pub AnswersSign : Option Relations → List ℕ → List ℕ → List ℕ → Type 0
AnswersSign None key message signature = ⊤
AnswersSign (Some r) key message signature = signature ≡ r.signs key message

-- what `seal` gives is the secret sealed, where relations are told
abbrev pub AnswersSeal : Option Relations → List ℕ → List ℕ → List ℕ → Type 0
AnswersSeal None public secret answer = ⊤
AnswersSeal (Some r) public secret answer = answer ≡ r.sealed public secret

-- what `credential` gives is the blob, where relations are told
abbrev pub AnswersCredential : Option Relations → List ℕ → List ℕ → List ℕ → List ℕ → Type 0
AnswersCredential None ek ak secret answer = ⊤
AnswersCredential (Some r) ek ak secret answer = answer ≡ r.credential_of ek ak secret

-- how many bytes a secret has
abbrev pub secret_len : ℕ
secret_len = 32

-- the answer is the secret of which these bytes are made, or None where they are made of no secret
abbrev pub Recovers : (List ℕ → List ℕ) → List ℕ → Option (List ℕ) → Type 0
Recovers made bytes (Some secret) = bytes ≡ made secret
Recovers made bytes None = (secret : List ℕ) → length secret ≡ secret_len → bytes ≢ made secret

-- what `unseal` gives is the secret that was sealed for this key, where relations are told
abbrev pub AnswersUnseal : Option Relations → List ℕ → List ℕ → Option (List ℕ) → Type 0
AnswersUnseal None public sealed answer = ⊤
AnswersUnseal (Some r) public sealed answer = Recovers (r.sealed public) sealed answer

-- what `activate` gives is the secret of a blob for these keys, where relations are told
abbrev pub AnswersActivate : Option Relations → List ℕ → List ℕ → List ℕ → Option (List ℕ) → Type 0
AnswersActivate None ek ak blob answer = ⊤
AnswersActivate (Some r) ek ak blob answer = Recovers (r.credential_of ek ak) blob answer
