-- What the commands to the verifier do, and what each prints.
use Rattle.std.specs.Prelude.{◌≡◌, List, ℕ}
use Rattle.kl_script.specs.Commands.{VerifierCommandFields, add, replace, reactivate, stop, remove, now, begin, reply, state, lose, pick, release, settle, notice, noticed}
use Rattle.kl_session.specs.Outside.{Outside}
use Rattle.kl_session.specs.Calls.{VerifierFields}
use Rattle.kl_session.specs.Texts.{now_line}
use Rattle.kl_session.specs.Installs.{DoesAdd, DoesReplace, DoesReactivate}
use Rattle.kl_session.specs.Endings.{DoesStop, DoesRemove}
use Rattle.kl_session.specs.Polls.{DoesBegin}
use Rattle.kl_session.specs.Replies.{DoesReply}
use Rattle.kl_session.specs.States.{SaysState}
use Rattle.kl_session.specs.Losing.{DoesLose}
use Rattle.kl_session.specs.Releasing.{DoesRelease, DoesSettle}
use Rattle.kl_session.specs.Noticing.{SaysPicked, SaysNotice, DoesMark}

-- The command leads from the one state of the verifier to the other, and prints this line. The objects of the outside told the
-- one before it, and the other after it.
unfoldable pub VerifierDoes : Outside → Outside → VerifierFields → VerifierCommandFields → VerifierFields → List ℕ → Type 0
VerifierDoes o o' s (add a) s' line = DoesAdd o o' a s s' line
VerifierDoes o o' s (replace r) s' line = DoesReplace o o' r s s' line
VerifierDoes o o' s (reactivate agent) s' line = (o' ≡ o) × DoesReactivate agent s s' line
VerifierDoes o o' s (stop agent) s' line = (o' ≡ o) × DoesStop agent s s' line
VerifierDoes o o' s (remove agent) s' line = (o' ≡ o) × DoesRemove agent s s' line
VerifierDoes o o' s (now moment) s' line = (o' ≡ o) × (s' ≡ record { history = s.history; marks = s.marks; moment = moment }) × (line ≡ now_line moment)
VerifierDoes o o' s (begin b) s' line = DoesBegin o o' b s s' line
VerifierDoes o o' s (reply r) s' line = DoesReply o o' r s s' line
VerifierDoes o o' s (state agent) s' line = (o' ≡ o) × (s' ≡ s) × SaysState agent s line
VerifierDoes o o' s (lose p) s' line = (o' ≡ o) × DoesLose p s s' line
VerifierDoes o o' s pick s' line = (o' ≡ o) × (s' ≡ s) × SaysPicked s line
VerifierDoes o o' s (release agent) s' line = (o' ≡ o) × DoesRelease agent s s' line
VerifierDoes o o' s (settle c) s' line = (o' ≡ o) × DoesSettle c s s' line
VerifierDoes o o' s notice s' line = (o' ≡ o) × (s' ≡ s) × SaysNotice s line
VerifierDoes o o' s (noticed number) s' line = (o' ≡ o) × DoesMark number s s' line
