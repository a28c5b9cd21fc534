use Rattle.std.proofs.Common.{string_bytes}
use Rattle.std.proofs.lemmas.Result.{IfOk-weaker, IfErr-weaker}
use Rattle.kl_registrar.specs.Calls.{Remove}
use Rattle.kl_session.specs.Registering.{ForgetAnswers}
use Rattle.kl_session.specs.Texts.{forgotten_line}
use Rattle.kl_session.proofs.Registered.{SaysOfForget, forget_told, call_done, call_short}
use Rattle.kl_session.proofs.registering.forget_agent.Goals as goal

pub returns-clause-done : goal.returns-clause-done
returns-clause-done c =
    let call = c.remove-answer in
    let told : SaysOfForget c.args.agent c.args.registrar.now call.new.self call.result =
    record { done = call.ensures.done; refused = call.ensures.refused; no_agent = call.ensures.no_agent; only = call.ensures.only } in
    IfOk-weaker c.say_done.result _ _
    (λ line said calls keeps. call_done {Answers = ForgetAnswers c.args.agent} (Remove c.args.agent) (forgotten_line c.args.agent) call.new.self call.result calls
    (forget_told c.args.agent c.args.registrar.now call.new.self call.result told calls keeps) (string_bytes line) said)
    c.say_done.ensures.line

pub returns-clause-short : goal.returns-clause-short
returns-clause-short c =
    let call = c.remove-answer in
    let told : SaysOfForget c.args.agent c.args.registrar.now call.new.self call.result =
    record { done = call.ensures.done; refused = call.ensures.refused; no_agent = call.ensures.no_agent; only = call.ensures.only } in
    IfErr-weaker c.say_done.result _ _
    (λ stop e calls keeps. call_short {Answers = ForgetAnswers c.args.agent} (Remove c.args.agent) (forgotten_line c.args.agent) call.new.self call.result calls
    (forget_told c.args.agent c.args.registrar.now call.new.self call.result told calls keeps) stop e)
    c.say_done.ensures.short
