-- Names of agents, compared, and the calls on one agent.
use Rattle.std.proofs.Common.{◌≡◌, ℕ, Bool, true, false, List, ◌∷◌, ◌⊎◌, inl, inr, refl}
use Rattle.std.specs.Bool.{Decides}
use Rattle.std.specs.Str.{bytes_eq}
use Rattle.std.proofs.lemmas.Bool.{both_ways, cond-true, cond-false}
use Rattle.std.proofs.lemmas.Slice.Eq.{bytes_eq-Decides}
use Rattle.kl_registrar.specs.Calls.{Call, Log, agent_of, own}

decided : (b : Bool) (P : Type 0) → Decides b P → ((b ≡ true) × P) ⊎ ((b ≡ false) × (P → ⊥))
decided true P is = inl (refl, is.0 refl)
decided false P is = inr (refl, λ has. both_ways false refl (is.1 has))

-- two names are equal or not
pub same_or_not : (a b : List ℕ) → ((bytes_eq a b ≡ true) × (a ≡ b)) ⊎ ((bytes_eq a b ≡ false) × (a ≡ b → ⊥))
same_or_not a b = decided (bytes_eq a b) (a ≡ b) (bytes_eq-Decides a b)

-- a call on the agent, and one on another
pub own_ours : (call : Call) (past : Log) (id : List ℕ) → bytes_eq (agent_of call) id ≡ true → own (call ∷ past) id ≡ call ∷ own past id
own_ours call past id is = cond-true (bytes_eq (agent_of call) id) (call ∷ own past id) (own past id) is

pub own_theirs : (call : Call) (past : Log) (id : List ℕ) → bytes_eq (agent_of call) id ≡ false → own (call ∷ past) id ≡ own past id
own_theirs call past id is = cond-false (bytes_eq (agent_of call) id) (call ∷ own past id) (own past id) is

pub same_self : (a : List ℕ) → bytes_eq a a ≡ true
same_self a = elim (same_or_not a a) [ inl is ↦ is.0 | inr not ↦ absurd (not.1 refl) ]
