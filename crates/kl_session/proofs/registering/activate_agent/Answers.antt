use Rattle.std.proofs.Common.{string_bytes}
use Rattle.std.proofs.lemmas.Result.{IfOk-weaker, IfErr-weaker}
use Rattle.kl_registrar.specs.Calls.{Activate}
use Rattle.kl_session.specs.Registering.{ActivateAnswers}
use Rattle.kl_session.specs.Texts.{active_line}
use Rattle.kl_session.proofs.Registered.{SaysOfActivate, at_tag, activate_told, call_done, call_short}
use Rattle.kl_session.proofs.registering.activate_agent.Goals as goal

pub returns-clause-done : goal.returns-clause-done
returns-clause-done c =
    let a = c.args.activate in
    let call = c.activate-answer in
    let told : SaysOfActivate a c.args.registrar.now call.new.self call.result =
    at_tag (λ x. SaysOfActivate x c.args.registrar.now call.new.self call.result) a _ c.as_str.ensures record {
      done = call.ensures.done;
      refused = call.ensures.refused;
      no_agent = call.ensures.no_agent;
      wrong_tag = call.ensures.wrong_tag;
      only = call.ensures.only;
    } in
    IfOk-weaker c.say_done.result _ _
    (λ line said calls keeps. call_done {Answers = ActivateAnswers a} (Activate a.agent a.tag) (active_line a.agent) call.new.self call.result calls
    (activate_told a c.args.registrar.now call.new.self call.result told calls keeps) (string_bytes line) said)
    c.say_done.ensures.line

pub returns-clause-short : goal.returns-clause-short
returns-clause-short c =
    let a = c.args.activate in
    let call = c.activate-answer in
    let told : SaysOfActivate a c.args.registrar.now call.new.self call.result =
    at_tag (λ x. SaysOfActivate x c.args.registrar.now call.new.self call.result) a _ c.as_str.ensures record {
      done = call.ensures.done;
      refused = call.ensures.refused;
      no_agent = call.ensures.no_agent;
      wrong_tag = call.ensures.wrong_tag;
      only = call.ensures.only;
    } in
    IfErr-weaker c.say_done.result _ _
    (λ stop e calls keeps. call_short {Answers = ActivateAnswers a} (Activate a.agent a.tag) (active_line a.agent) call.new.self call.result calls
    (activate_told a c.args.registrar.now call.new.self call.result told calls keeps) stop e)
    c.say_done.ensures.short
