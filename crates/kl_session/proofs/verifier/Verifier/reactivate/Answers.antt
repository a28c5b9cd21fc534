use Rattle.std.proofs.lemmas.Result.{IfErr-weaker}
use Rattle.kl_core.specs.Books.{past}
use Rattle.kl_core.specs.Installs.{Reactivates, reactivate_makes}
use Rattle.kl_session.specs.Installs.{says_installed}
use Rattle.kl_session.proofs.Commands.{Made, reactivate_plain, short_of, kept}
use Rattle.kl_session.proofs.verifier.Verifier.reactivate.Goals as goal

pub invariant_of-self : goal.invariant_of-self
invariant_of-self c =
    let b = c.self.inside in
    let call = c.reactivate-answer in
    let a = c.args.agent in
    let made : Made (Reactivates a) (reactivate_makes a) b.book call.new.self call.result =
    record { answers = call.ensures.answer; grown = call.ensures.history } in
    kept made (says_installed a) b.tickets.items b.shares.items (reactivate_plain a call.result (past b.book)) c.len-len.ensures.legal c.self.invariant

pub returns-clause-short : goal.returns-clause-short
returns-clause-short c =
    let b = c.self.inside in
    let call = c.reactivate-answer in
    let a = c.args.agent in
    let made : Made (Reactivates a) (reactivate_makes a) b.book call.new.self call.result =
    record { answers = call.ensures.answer; grown = call.ensures.history } in
    let short = short_of made (says_installed a) b.moment (reactivate_plain a call.result (past b.book)) in
    rw (← c.self.view_is) (IfErr-weaker c.say_installed.result _ _ (λ stop e. (e, short)) c.say_installed.ensures.short)
