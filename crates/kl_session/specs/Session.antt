-- A session: what the commands of a script do, one after the other, and what each prints.
use Rattle.std.specs.Prelude.{◌≡◌, ℕ, List, [], ◌∷◌}
use Rattle.kl_script.specs.Commands.{CommandFields, nothing, to_verifier, to_registrar}
use Rattle.kl_session.specs.Outside.{Outside}
use Rattle.kl_session.specs.Calls.{SessionFields}
use Rattle.kl_session.specs.Verifying.{VerifierDoes}
use Rattle.kl_session.specs.Registering.{RegistrarDoes}

-- The command leads from the one session to the other, and prints this line; what prints nothing prints an empty one. The
-- objects of the outside told the one before it, and the other after it.
unfoldable pub Does : Outside → Outside → SessionFields → CommandFields → SessionFields → List ℕ → Type 0
Does o o' s nothing s' line = (o' ≡ o) × (s' ≡ s) × (line ≡ [])
Does o o' s (to_verifier c) s' line = VerifierDoes o o' s.verifier c s'.verifier line × (s'.calls ≡ s.calls)
Does o o' s (to_registrar c) s' line = RegistrarDoes o o' s.calls c s'.calls line × (s'.verifier ≡ s.verifier)

-- the commands, one after the other, print these lines
abbrev pub Follows : Outside → Outside → SessionFields → List CommandFields → List (List ℕ) → SessionFields → Type 0
Follows o o' s [] [] last = (o' ≡ o) × (last ≡ s)
Follows o o' s (c ∷ commands) (line ∷ lines) last =
    (then : Outside) × (next : SessionFields) × Does o then s c next line × Follows then o' next commands lines last
Follows o o' s _ _ last = ⊥
