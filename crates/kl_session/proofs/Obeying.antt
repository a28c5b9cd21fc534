-- Where a command was not answered, by what its call says of that.
use Rattle.std.proofs.Common.{ℕ, List, Result, Ok, Err, inl, inr, refl, sym, subst}
use Rattle.std.specs.Result.{IfErr}
use Rattle.kl_script.specs.declared.command.Begin.{Begin}
use Rattle.kl_script.specs.Commands.{VerifierCommandFields, ReplyFields, begin, reply}
use Rattle.kl_states.specs.declared.policy_kind.PolicyKind.{PolicyKind}
use Rattle.kl_session.specs.declared.stop.Stop.{Stop}
use Rattle.kl_session.specs.declared.stop.Stop.TheVariants.{NoNonce, Memory}
use Rattle.kl_session.specs.Outside.{Outside}
use Rattle.kl_session.specs.Calls.{VerifierFields}
use Rattle.kl_session.specs.Replies.{DoesReply}
use Rattle.kl_session.specs.Verifying.{VerifierDoes}
use Rattle.kl_session.specs.Stopped.{VerifierStopped, IsToRead, MadeSome}
use Rattle.kl_session.specs.Inner.Stopping.{IsShort, IsUndone, IsUnread, IsUnbegun}

-- a command that asks nothing of the outside
pub alone : {X : Type 0} (r : Result X Stop) (o : Outside) (s s' : VerifierFields) (c : VerifierCommandFields) (Done : List ℕ → Type 0)
    → ((line : List ℕ) → Done line → VerifierDoes o o s c s' line) → IfErr r (λ stop. IsShort stop s s' Done) → IfErr r (λ why. VerifierStopped why o o s c s')
alone (Ok x) o s s' c Done does short = short
alone (Err why) o s s' c Done does short = subst (λ (stop : Stop). VerifierStopped stop o o s c s') (sym short.0) (elim short.1 [
  | inl did ↦ inl (did.0, does did.0 did.1)
  | inr same ↦ inr (same, inl refl)
])

-- a command whose policy is read
pub unread : {X : Type 0} (r : Result X Stop) (o o' : Outside) (kind : PolicyKind) (text : List ℕ) (s s' : VerifierFields) (c : VerifierCommandFields) (Done : List ℕ → Type 0)
    → ((line : List ℕ) → Done line → VerifierDoes o o' s c s' line) → (MadeSome o o' kind text → IsToRead c o o') → IfErr r (λ stop. IsUnread stop o o' kind text s s' Done)
    → IfErr r (λ why. VerifierStopped why o o' s c s')
unread (Ok x) o o' kind text s s' c Done does reads short = short
unread (Err why) o o' kind text s s' c Done does reads short = subst (λ (stop : Stop). VerifierStopped stop o o' s c s') (sym short.0) (elim short.1 [
  | inl did ↦ inl (did.0, does did.0 did.1)
  | inr same ↦ inr (same.0, inr (inr (reads same.1)))
])

-- a begin
pub unbegun : (why : Stop) (o o' : Outside) (s s' : VerifierFields) (b : Begin) → IsUnbegun why o o' s b s' → VerifierStopped why o o' s (begin b) s'
unfolding VerifierDoes
unbegun NoNonce o o' s s' b (same, unnamed, none) = (same, (unnamed, none))
unbegun Memory o o' s s' b (inl did) = inl did
unbegun Memory o o' s s' b (inr (same, inl left)) = inr (same, inl left)
unbegun Memory o o' s s' b (inr (same, inr drawn)) = inr (same, inr (inl drawn))

-- a reply
pub unanswered : {X : Type 0} (r : Result X Stop) (o o' : Outside) (s s' : VerifierFields) (said : ReplyFields)
    → IfErr r (λ stop. IsUndone stop o o' s s' (DoesReply o o' said s s')) → IfErr r (λ why. VerifierStopped why o o' s (reply said) s')
unfolding VerifierDoes
unanswered (Ok x) o o' s s' said short = short
unanswered (Err why) o o' s s' said short = subst (λ (stop : Stop). VerifierStopped stop o o' s (reply said) s') (sym short.0) (elim short.1 [
  | inl did ↦ inl did
  | inr same ↦ inr (same.0, inl same.1)
])
