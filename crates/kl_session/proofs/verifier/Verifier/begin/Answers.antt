use Rattle.std.proofs.Common.{◌≡◌, List, ℕ, Option, Some, None, ◌⊎◌, inl, inr, refl, sym, subst}
use Rattle.std.proofs.lemmas.Result.{IfErr-weaker}
use Rattle.kl_script.specs.declared.command.Begin.{Begin}
use Rattle.kl_session.specs.declared.stop.Stop.{Stop}
use Rattle.kl_session.specs.Outside.{Outside, outside}
use Rattle.kl_session.specs.Calls.{VerifierFields}
use Rattle.kl_session.specs.Polls.{HasNonce, BeginsWith}
use Rattle.kl_session.specs.Drawing.{Draws}
use Rattle.kl_session.specs.Inner.Stopping.{IsShort, IsUnbegun}
use Rattle.kl_session.proofs.verifier.Verifier.begin.Goals as goal

-- nothing was asked for a nonce that was named
drawn_or_named : (o o' : Outside) (named : Option (List ℕ)) (nonce : List ℕ) → HasNonce o o' named nonce
    → (o' ≡ o) ⊎ ((named ≡ None) × ((drawn : List ℕ) × Draws 16 o o' drawn))
drawn_or_named o o' (Some named) nonce has = inl has.0
drawn_or_named o o' None nonce has = inr (refl, (has.0, has.1))

unbegun : (stop : Stop) (o o' : Outside) (s s' : VerifierFields) (b : Begin) (nonce : List ℕ)
    → HasNonce o o' b.nonce nonce → IsShort stop s s' (BeginsWith b.agent nonce s s') → IsUnbegun stop o o' s b s'
unbegun stop o o' s s' b nonce has (e, short) = subst (λ (why : Stop). IsUnbegun why o o' s b s') (sym e) (elim short [
  | inl did ↦ inl (did.0, (nonce, has, did.1))
  | inr same ↦ inr (same, drawn_or_named o o' b.nonce nonce has)
])

pub returns-in_default-clause-stopped : goal.returns-in_default-clause-stopped
returns-in_default-clause-stopped g c = λ keys maker steps.
    let none = c.nonce_of.ensures.none c.in_default.is in
    (refl, none.0, none.1 keys maker steps)

pub returns-clause-stopped : goal.returns-clause-stopped
returns-clause-stopped g c =
    IfErr-weaker c.begin_with.result _ _
    (λ stop short. λ keys maker steps.
    let o = outside keys (g.N.Words.told c.args.nonces.now) maker steps in
    let o' = outside keys (g.N.Words.told c.nonce_of.new.nonces) maker steps in
    let has = c.in-Some.ensures.some keys maker steps in
    unbegun stop o o' c.args.self.now c.begin_with.new.self c.args.begin c.in-Some.nonce has short)
    c.begin_with.ensures.short
