use Rattle.kl_script.proofs.Faults.{at_exit}
use Rattle.kl_script.proofs.Forms.{unread, no_registrar_name, registrar_so, is_register, is_activate, is_record, is_forget}
use Rattle.kl_script.proofs.registering.read_registrar.Goals as goal

pub returns-in_err-read_register-in-register-clause-none : goal.returns-in_err-read_register-in-register-clause-none
returns-in_err-read_register-in-register-clause-none c = λ is.
    unread (registrar_so c.in-Ok.arguments.now c.in-Ok.ensures.found) (is_register c.in-Ok.arguments.now) c.in-register.is
    (at_exit _ c.in_err-read_register-in-register.ensures.none _ c.from_residual.ensures.1 is)

pub returns-in_err-read_activate-in-activate-clause-none : goal.returns-in_err-read_activate-in-activate-clause-none
returns-in_err-read_activate-in-activate-clause-none c = λ is.
    unread (registrar_so c.in-Ok.arguments.now c.in-Ok.ensures.found) (is_activate c.in-Ok.arguments.now) c.in-activate.is
    (at_exit _ c.in_err-read_activate-in-activate.ensures.none _ c.from_residual-in_err-read_activate-in-activate.ensures.1 is)

pub returns-in_err-read_agent-in-record-clause-none : goal.returns-in_err-read_agent-in-record-clause-none
returns-in_err-read_agent-in-record-clause-none c = λ _.
    unread (registrar_so c.in-Ok.arguments.now c.in-Ok.ensures.found) (is_record c.in-Ok.arguments.now) c.in-record.is
    c.in_err-read_agent-in-record.ensures.none

pub returns-in_err-read_agent-in-forget-clause-none : goal.returns-in_err-read_agent-in-forget-clause-none
returns-in_err-read_agent-in-forget-clause-none c = λ _.
    unread (registrar_so c.in-Ok.arguments.now c.in-Ok.ensures.found) (is_forget c.in-Ok.arguments.now) c.in-forget.is
    c.in_err-read_agent-in-forget.ensures.none

pub returns-in_default-name-clause-none : goal.returns-in_default-name-clause-none
returns-in_default-name-clause-none c = λ _ said s.
    let no = c.in_default-name in
    let so = registrar_so c.in-Ok.arguments.now c.in-Ok.ensures.found said s in
    no_registrar_name no.not-register no.not-activate no.not-record no.not-forget c.in-Ok.arguments.now said so.0 so.1
