use Rattle.kl_script.proofs.Faults.{at_exit}
use Rattle.kl_script.proofs.Forms.{unread, no_verifier_name, verifier_so}
use Rattle.kl_script.proofs.Forms.{is_add, is_replace, is_reactivate, is_stop, is_remove, is_now, is_begin, is_reply, is_state, is_lose, is_release, is_settle, is_noticed}
use Rattle.kl_script.proofs.verifying.read_verifier.Goals as goal

pub returns-in_err-read_add-in-add-clause-none : goal.returns-in_err-read_add-in-add-clause-none
returns-in_err-read_add-in-add-clause-none c = λ is.
    unread (verifier_so c.in-Ok.arguments.now c.in-Ok.ensures.found) (is_add c.in-Ok.arguments.now) c.in-add.is
    (at_exit _ c.in_err-read_add-in-add.ensures.none _ c.from_residual.ensures.1 is)

pub returns-in_err-read_replace-in-replace-clause-none : goal.returns-in_err-read_replace-in-replace-clause-none
returns-in_err-read_replace-in-replace-clause-none c = λ is.
    unread (verifier_so c.in-Ok.arguments.now c.in-Ok.ensures.found) (is_replace c.in-Ok.arguments.now) c.in-replace.is
    (at_exit _ c.in_err-read_replace-in-replace.ensures.none _ c.from_residual-in_err-read_replace-in-replace.ensures.1 is)

pub returns-in_err-read_agent-in-reactivate-clause-none : goal.returns-in_err-read_agent-in-reactivate-clause-none
returns-in_err-read_agent-in-reactivate-clause-none c = λ _.
    unread (verifier_so c.in-Ok.arguments.now c.in-Ok.ensures.found) (is_reactivate c.in-Ok.arguments.now) c.in-reactivate.is
    c.in_err-read_agent-in-reactivate.ensures.none

pub returns-in_err-read_agent-in-stop-clause-none : goal.returns-in_err-read_agent-in-stop-clause-none
returns-in_err-read_agent-in-stop-clause-none c = λ _.
    unread (verifier_so c.in-Ok.arguments.now c.in-Ok.ensures.found) (is_stop c.in-Ok.arguments.now) c.in-stop.is
    c.in_err-read_agent-in-stop.ensures.none

pub returns-in_err-read_agent-in-remove-clause-none : goal.returns-in_err-read_agent-in-remove-clause-none
returns-in_err-read_agent-in-remove-clause-none c = λ _.
    unread (verifier_so c.in-Ok.arguments.now c.in-Ok.ensures.found) (is_remove c.in-Ok.arguments.now) c.in-remove.is
    c.in_err-read_agent-in-remove.ensures.none

pub returns-in_err-read_decimal-in-now-clause-none : goal.returns-in_err-read_decimal-in-now-clause-none
returns-in_err-read_decimal-in-now-clause-none c = λ _.
    unread (verifier_so c.in-Ok.arguments.now c.in-Ok.ensures.found) (is_now c.in-Ok.arguments.now) c.in-now.is
    c.in_err-read_decimal-in-now.ensures.none

pub returns-in_err-read_begin-in-begin-clause-none : goal.returns-in_err-read_begin-in-begin-clause-none
returns-in_err-read_begin-in-begin-clause-none c = λ is.
    unread (verifier_so c.in-Ok.arguments.now c.in-Ok.ensures.found) (is_begin c.in-Ok.arguments.now) c.in-begin.is
    (at_exit _ c.in_err-read_begin-in-begin.ensures.none _ c.from_residual-in_err-read_begin-in-begin.ensures.1 is)

pub returns-in_err-read_reply-in-reply-clause-none : goal.returns-in_err-read_reply-in-reply-clause-none
returns-in_err-read_reply-in-reply-clause-none c = λ is.
    unread (verifier_so c.in-Ok.arguments.now c.in-Ok.ensures.found) (is_reply c.in-Ok.arguments.now) c.in-reply.is
    (at_exit _ c.in_err-read_reply-in-reply.ensures.none _ c.from_residual-in_err-read_reply-in-reply.ensures.1 is)

pub returns-in_err-read_agent-in-state-clause-none : goal.returns-in_err-read_agent-in-state-clause-none
returns-in_err-read_agent-in-state-clause-none c = λ _.
    unread (verifier_so c.in-Ok.arguments.now c.in-Ok.ensures.found) (is_state c.in-Ok.arguments.now) c.in-state.is
    c.in_err-read_agent-in-state.ensures.none

pub returns-in_err-read_decimal-in-lose-clause-none : goal.returns-in_err-read_decimal-in-lose-clause-none
returns-in_err-read_decimal-in-lose-clause-none c = λ _.
    unread (verifier_so c.in-Ok.arguments.now c.in-Ok.ensures.found) (is_lose c.in-Ok.arguments.now) c.in-lose.is
    c.in_err-read_decimal-in-lose.ensures.none

pub returns-in_err-read_agent-in-release-clause-none : goal.returns-in_err-read_agent-in-release-clause-none
returns-in_err-read_agent-in-release-clause-none c = λ _.
    unread (verifier_so c.in-Ok.arguments.now c.in-Ok.ensures.found) (is_release c.in-Ok.arguments.now) c.in-release.is
    c.in_err-read_agent-in-release.ensures.none

pub returns-in_err-read_settle-in-settle-clause-none : goal.returns-in_err-read_settle-in-settle-clause-none
returns-in_err-read_settle-in-settle-clause-none c = λ is.
    unread (verifier_so c.in-Ok.arguments.now c.in-Ok.ensures.found) (is_settle c.in-Ok.arguments.now) c.in-settle.is
    (at_exit _ c.in_err-read_settle-in-settle.ensures.none _ c.from_residual-in_err-read_settle-in-settle.ensures.1 is)

pub returns-in_err-read_decimal-in-noticed-clause-none : goal.returns-in_err-read_decimal-in-noticed-clause-none
returns-in_err-read_decimal-in-noticed-clause-none c = λ _.
    unread (verifier_so c.in-Ok.arguments.now c.in-Ok.ensures.found) (is_noticed c.in-Ok.arguments.now) c.in-noticed.is
    c.in_err-read_decimal-in-noticed.ensures.none

pub returns-in_default-name-clause-none : goal.returns-in_default-name-clause-none
returns-in_default-name-clause-none c = λ _ said s.
    let no = c.in_default-name in
    let so = verifier_so c.in-Ok.arguments.now c.in-Ok.ensures.found said s in
    no_verifier_name no.not-add no.not-replace no.not-reactivate no.not-stop no.not-remove no.not-now no.not-begin no.not-reply no.not-state no.not-lose no.not-release no.not-settle no.not-noticed
    c.in-Ok.arguments.now said so.0 so.1
