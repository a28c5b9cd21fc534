use Rattle.std.proofs.Common.{◌≡◌, inl, refl}
use Rattle.std.proofs.lemmas.Result.{IfOk-weaker, IfErr-weaker}
use Rattle.kl_script.specs.Commands.{add, replace, reactivate, stop, remove, now, lose, release, settle, noticed, reply_fields}
use Rattle.kl_session.specs.Outside.{outside}
use Rattle.kl_session.specs.Texts.{now_line}
use Rattle.kl_session.specs.Verifying.{VerifierDoes}
use Rattle.kl_session.specs.declared.stop.Stop.TheVariants.{Memory}
use Rattle.kl_session.specs.Inner.Stopping.{IsShort}
use Rattle.kl_session.proofs.Readings.{told_so}
use Rattle.kl_session.proofs.Obeying.{alone, unread, unbegun, unanswered}
use Rattle.kl_session.proofs.verifier.Verifier.obey.Goals as goal

pub returns-in-Add-clause-done : goal.returns-in-Add-clause-done
unfolding VerifierDoes
returns-in-Add-clause-done g c = rw c.in-Add.is (IfOk-weaker c.add.result _ _ (λ line did. did _ _ (told_so _ _ _ _ _)) c.add.ensures.done)

pub returns-in-Add-clause-stopped : goal.returns-in-Add-clause-stopped
unfolding VerifierDoes
returns-in-Add-clause-stopped g c =
    rw c.in-Add.is
    (unread c.add.result _ _ _ _ _ _ (add c.in-Add.add) _ (λ line did. did) (λ some. some)
    (IfErr-weaker c.add.result _ _ (λ stop short. short _ _ (told_so _ _ _ _ _)) c.add.ensures.short))

pub returns-in-Replace-clause-done : goal.returns-in-Replace-clause-done
unfolding VerifierDoes
returns-in-Replace-clause-done g c = rw c.in-Replace.is (IfOk-weaker c.replace.result _ _ (λ line did. did _ _ (told_so _ _ _ _ _)) c.replace.ensures.done)

pub returns-in-Replace-clause-stopped : goal.returns-in-Replace-clause-stopped
unfolding VerifierDoes
returns-in-Replace-clause-stopped g c =
    rw c.in-Replace.is
    (unread c.replace.result _ _ _ _ _ _ (replace c.in-Replace.replace) _ (λ line did. did) (λ some. some)
    (IfErr-weaker c.replace.result _ _ (λ stop short. short _ _ (told_so _ _ _ _ _)) c.replace.ensures.short))

pub returns-in-Reactivate-clause-done : goal.returns-in-Reactivate-clause-done
unfolding VerifierDoes
returns-in-Reactivate-clause-done g c = rw c.in-Reactivate.is (IfOk-weaker c.reactivate.result _ _ (λ line did. (refl, did)) c.reactivate.ensures.done)

pub returns-in-Reactivate-clause-stopped : goal.returns-in-Reactivate-clause-stopped
unfolding VerifierDoes
returns-in-Reactivate-clause-stopped g c = rw c.in-Reactivate.is (alone c.reactivate.result _ _ _ (reactivate c.in-Reactivate.agent) _ (λ line did. (refl, did)) c.reactivate.ensures.short)

pub returns-in-Stop-clause-done : goal.returns-in-Stop-clause-done
unfolding VerifierDoes
returns-in-Stop-clause-done g c = rw c.in-Stop.is (IfOk-weaker c.stop.result _ _ (λ line did. (refl, did)) c.stop.ensures.done)

pub returns-in-Stop-clause-stopped : goal.returns-in-Stop-clause-stopped
unfolding VerifierDoes
returns-in-Stop-clause-stopped g c = rw c.in-Stop.is (alone c.stop.result _ _ _ (stop c.in-Stop.agent) _ (λ line did. (refl, did)) c.stop.ensures.short)

pub returns-in-Remove-clause-done : goal.returns-in-Remove-clause-done
unfolding VerifierDoes
returns-in-Remove-clause-done g c = rw c.in-Remove.is (IfOk-weaker c.remove.result _ _ (λ line did. (refl, did)) c.remove.ensures.done)

pub returns-in-Remove-clause-stopped : goal.returns-in-Remove-clause-stopped
unfolding VerifierDoes
returns-in-Remove-clause-stopped g c = rw c.in-Remove.is (alone c.remove.result _ _ _ (remove c.in-Remove.agent) _ (λ line did. (refl, did)) c.remove.ensures.short)

pub returns-in-Now-clause-done : goal.returns-in-Now-clause-done
unfolding VerifierDoes
returns-in-Now-clause-done g c = rw c.in-Now.is (IfOk-weaker c.set_now.result _ _ (λ line said. (refl, c.set_now.ensures.set, said)) c.set_now.ensures.line)

pub returns-in-Now-clause-stopped : goal.returns-in-Now-clause-stopped
unfolding VerifierDoes
returns-in-Now-clause-stopped g c =
    let o = outside (g.Y.Keys.told c.args.keys.now) (g.N.Words.told c.args.nonces.now) (g.P.PatternMaker.told c.args.patterns.now) c.args.steps.now in
    let s = c.args.self.now in
    let s' = c.set_now.new.self in
    let said = c.in-Now.moment in
    rw c.in-Now.is
    (alone c.set_now.result o s s' (now said) (λ line. line ≡ now_line said) (λ line is. (refl, c.set_now.ensures.set, is))
    (IfErr-weaker c.set_now.result (λ stop. stop ≡ Memory) (λ stop. IsShort stop s s' (λ line. line ≡ now_line said)) (λ stop e. (e, inl (now_line said, refl))) c.set_now.ensures.short))

pub returns-in-Begin-clause-done : goal.returns-in-Begin-clause-done
unfolding VerifierDoes
returns-in-Begin-clause-done g c = rw c.in-Begin.is (IfOk-weaker c.begin.result _ _ (λ line did. did (g.Y.Keys.told c.args.keys.now) (g.P.PatternMaker.told c.args.patterns.now) c.args.steps.now) c.begin.ensures.done)

pub returns-in-Begin-clause-stopped : goal.returns-in-Begin-clause-stopped
returns-in-Begin-clause-stopped g c =
    let keys = g.Y.Keys.told c.args.keys.now in
    let n = c.args.steps.now in
    let made = g.P.PatternMaker.told c.args.patterns.now in
    rw c.in-Begin.is
    (IfErr-weaker c.begin.result _ _
    (λ why short. unbegun why (outside keys (g.N.Words.told c.args.nonces.now) made n) (outside keys (g.N.Words.told c.begin.new.nonces) made n) c.args.self.now c.begin.new.self c.in-Begin.begin (short keys made n))
    c.begin.ensures.stopped)

pub returns-in-Reply-clause-done : goal.returns-in-Reply-clause-done
unfolding VerifierDoes
returns-in-Reply-clause-done g c = rw c.in-Reply.is (IfOk-weaker c.reply.result _ _ (λ line did. did (g.N.Words.told c.args.nonces.now) (g.P.PatternMaker.told c.args.patterns.now)) c.reply.ensures.done)

pub returns-in-Reply-clause-stopped : goal.returns-in-Reply-clause-stopped
returns-in-Reply-clause-stopped g c =
    let words = g.N.Words.told c.args.nonces.now in
    let made = g.P.PatternMaker.told c.args.patterns.now in
    rw c.in-Reply.is
    (unanswered c.reply.result (outside (g.Y.Keys.told c.args.keys.now) words made c.args.steps.now) (outside (g.Y.Keys.told c.reply.new.keys) words made c.reply.new.steps)
    c.args.self.now c.reply.new.self (reply_fields c.in-Reply.reply) (IfErr-weaker c.reply.result _ _ (λ why short. short words made) c.reply.ensures.short))

pub returns-in-State-clause-done : goal.returns-in-State-clause-done
unfolding VerifierDoes
returns-in-State-clause-done g c = rw c.in-State.is (IfOk-weaker c.state.result _ _ (λ line said. (refl, refl, said)) c.state.ensures.says)

pub returns-in-Lose-clause-done : goal.returns-in-Lose-clause-done
unfolding VerifierDoes
returns-in-Lose-clause-done g c = rw c.in-Lose.is (IfOk-weaker c.lose.result _ _ (λ line did. (refl, did)) c.lose.ensures.done)

pub returns-in-Lose-clause-stopped : goal.returns-in-Lose-clause-stopped
unfolding VerifierDoes
returns-in-Lose-clause-stopped g c = rw c.in-Lose.is (alone c.lose.result _ _ _ (lose c.in-Lose.poll) _ (λ line did. (refl, did)) c.lose.ensures.short)

pub returns-in-Pick-clause-done : goal.returns-in-Pick-clause-done
unfolding VerifierDoes
returns-in-Pick-clause-done g c = rw c.in-Pick.is (IfOk-weaker c.pick.result _ _ (λ line said. (refl, refl, said)) c.pick.ensures.says)

pub returns-in-Release-clause-done : goal.returns-in-Release-clause-done
unfolding VerifierDoes
returns-in-Release-clause-done g c = rw c.in-Release.is (IfOk-weaker c.release.result _ _ (λ line did. (refl, did)) c.release.ensures.done)

pub returns-in-Release-clause-stopped : goal.returns-in-Release-clause-stopped
unfolding VerifierDoes
returns-in-Release-clause-stopped g c = rw c.in-Release.is (alone c.release.result _ _ _ (release c.in-Release.agent) _ (λ line did. (refl, did)) c.release.ensures.short)

pub returns-in-Settle-clause-done : goal.returns-in-Settle-clause-done
unfolding VerifierDoes
returns-in-Settle-clause-done g c = rw c.in-Settle.is (IfOk-weaker c.settle.result _ _ (λ line did. (refl, did)) c.settle.ensures.done)

pub returns-in-Settle-clause-stopped : goal.returns-in-Settle-clause-stopped
unfolding VerifierDoes
returns-in-Settle-clause-stopped g c = rw c.in-Settle.is (alone c.settle.result _ _ _ (settle c.in-Settle.settle) _ (λ line did. (refl, did)) c.settle.ensures.short)

pub returns-in-Notice-clause-done : goal.returns-in-Notice-clause-done
unfolding VerifierDoes
returns-in-Notice-clause-done g c = rw c.in-Notice.is (IfOk-weaker c.notice.result _ _ (λ line said. (refl, refl, said)) c.notice.ensures.says)

pub returns-in-Noticed-clause-done : goal.returns-in-Noticed-clause-done
unfolding VerifierDoes
returns-in-Noticed-clause-done g c = rw c.in-Noticed.is (IfOk-weaker c.noticed.result _ _ (λ line did. (refl, did)) c.noticed.ensures.done)

pub returns-in-Noticed-clause-stopped : goal.returns-in-Noticed-clause-stopped
unfolding VerifierDoes
returns-in-Noticed-clause-stopped g c = rw c.in-Noticed.is (alone c.noticed.result _ _ _ (noticed c.in-Noticed.number) _ (λ line did. (refl, did)) c.noticed.ensures.short)
