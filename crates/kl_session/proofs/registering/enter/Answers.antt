use Rattle.std.proofs.Common.{string_bytes}
use Rattle.std.proofs.lemmas.Result.{IfOk-weaker, IfErr-weaker}
use Rattle.kl_session.proofs.Registered.{SaysOfRegister, at_parts, register_done, register_short}
use Rattle.kl_session.proofs.registering.enter.Goals as goal

pub returns-clause-done : goal.returns-clause-done
returns-clause-done g c =
    let r = c.args.register in
    let call = c.register-answer in
    let k = g.Y.Keys.told c.args.keys.now in
    let k' = g.Y.Keys.told call.new.keys in
    let told : SaysOfRegister (λ blob. blob.items) r c.args.secret k k' c.args.registrar.now call.new.self call.result =
    at_parts (λ x. SaysOfRegister (λ blob. blob.items) x c.args.secret k k' c.args.registrar.now call.new.self call.result) r _ _ _
    c.as_slice.ensures c.as_slice-2.ensures c.as_str.ensures record {
      done = call.ensures.done;
      refused = call.ensures.refused;
      full = call.ensures.full;
      unasked = call.ensures.unasked;
      asked = call.ensures.asked;
      only = call.ensures.only;
    } in
    IfOk-weaker c.say_blob.result _ _
    (λ line said calls keeps. register_done (λ blob. blob.items) r c.args.secret k k' c.args.registrar.now call.new.self call.result told calls keeps (string_bytes line) said)
    c.say_blob.ensures.line

pub returns-clause-short : goal.returns-clause-short
returns-clause-short g c =
    let r = c.args.register in
    let call = c.register-answer in
    let k = g.Y.Keys.told c.args.keys.now in
    let k' = g.Y.Keys.told call.new.keys in
    let told : SaysOfRegister (λ blob. blob.items) r c.args.secret k k' c.args.registrar.now call.new.self call.result =
    at_parts (λ x. SaysOfRegister (λ blob. blob.items) x c.args.secret k k' c.args.registrar.now call.new.self call.result) r _ _ _
    c.as_slice.ensures c.as_slice-2.ensures c.as_str.ensures record {
      done = call.ensures.done;
      refused = call.ensures.refused;
      full = call.ensures.full;
      unasked = call.ensures.unasked;
      asked = call.ensures.asked;
      only = call.ensures.only;
    } in
    IfErr-weaker c.say_blob.result _ _
    (λ stop e calls keeps. register_short (λ blob. blob.items) r c.args.secret k k' c.args.registrar.now call.new.self call.result told calls keeps stop e)
    c.say_blob.ensures.short
