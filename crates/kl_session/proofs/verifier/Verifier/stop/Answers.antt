use Rattle.std.proofs.lemmas.Result.{IfErr-weaker}
use Rattle.kl_core.specs.Books.{past}
use Rattle.kl_core.specs.Endings.{Stops, stop_makes}
use Rattle.kl_session.specs.Endings.{says_done}
use Rattle.kl_session.specs.Texts.{stopped_line}
use Rattle.kl_session.proofs.Commands.{Made, stop_plain, short_of, kept}
use Rattle.kl_session.proofs.verifier.Verifier.stop.Goals as goal

pub invariant_of-self : goal.invariant_of-self
invariant_of-self c =
    let b = c.self.inside in
    let call = c.stop-answer in
    let a = c.args.agent in
    let made : Made (Stops a) (stop_makes a) b.book call.new.self call.result =
    record { answers = call.ensures.answer; grown = call.ensures.history } in
    kept made (says_done (stopped_line a)) b.tickets.items b.shares.items (stop_plain a call.result (past b.book)) c.len-len.ensures.legal c.self.invariant

pub returns-clause-short : goal.returns-clause-short
returns-clause-short c =
    let b = c.self.inside in
    let call = c.stop-answer in
    let a = c.args.agent in
    let made : Made (Stops a) (stop_makes a) b.book call.new.self call.result =
    record { answers = call.ensures.answer; grown = call.ensures.history } in
    let short = short_of made (says_done (stopped_line a)) b.moment (stop_plain a call.result (past b.book)) in
    rw (← c.self.view_is) (IfErr-weaker c.say_done.result _ _ (λ stop e. (e, short)) c.say_done.ensures.short)
