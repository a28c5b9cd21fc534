use Rattle.std.proofs.Common.{inl, inr, subst}
use Rattle.std.proofs.lemmas.Result.{IfOk-weaker, IfErr-weaker}
use Rattle.kl_core.specs.Books.{past}
use Rattle.kl_core.specs.Installs.{Replaces, replace_makes}
use Rattle.kl_session.specs.Installs.{says_installed_or}
use Rattle.kl_session.specs.Inner.Naming.{IsPolicyFault}
use Rattle.kl_session.specs.Calls.{verifier_of}
use Rattle.kl_session.proofs.Readings.{some_made, replace_unnamed, replace_refused}
use Rattle.kl_session.proofs.Commands.{Made, replace_plain, done_of, short_of, kept}
use Rattle.kl_session.proofs.verifier.Verifier.replace.Goals as goal

pub invariant_of-self : goal.invariant_of-self
invariant_of-self g c =
    let b = c.self.inside in
    let call = c.replace-answer in
    let a = c.args.replace.agent in
    let x = c.in-Ok.policy in
    let made : Made (Replaces a x) (replace_makes a x) b.book call.new.self call.result =
    record { answers = call.ensures.answer; grown = call.ensures.history } in
    kept made (says_installed_or a) b.tickets.items b.shares.items (replace_plain a x call.result (past b.book)) c.len-len.ensures.legal c.self.invariant

pub returns-in-Ok-clause-done : goal.returns-in-Ok-clause-done
returns-in-Ok-clause-done g c =
    let b = c.self.inside in
    let call = c.replace-answer in
    let a = c.args.replace.agent in
    let x = c.in-Ok.policy in
    let made : Made (Replaces a x) (replace_makes a x) b.book call.new.self call.result =
    record { answers = call.ensures.answer; grown = call.ensures.history } in
    rw (← c.self.view_is)
    (IfOk-weaker c.say_installed_or.result _ _
    (λ line said o o' tells. inl (x, c.in-Ok.ensures.policy, c.in-Ok.ensures.reads o o' tells, done_of made (says_installed_or a) b.moment _ said))
    c.say_installed_or.ensures.line)

pub returns-in-Ok-clause-short : goal.returns-in-Ok-clause-short
returns-in-Ok-clause-short g c =
    let b = c.self.inside in
    let call = c.replace-answer in
    let a = c.args.replace.agent in
    let x = c.in-Ok.policy in
    let made : Made (Replaces a x) (replace_makes a x) b.book call.new.self call.result =
    record { answers = call.ensures.answer; grown = call.ensures.history } in
    let short = short_of made (says_installed_or a) b.moment (replace_plain a x call.result (past b.book)) in
    rw (← c.self.view_is)
    (IfErr-weaker c.say_installed_or.result _ _
    (λ stop e o o' tells. (
      e,
      elim short [
        | inl did ↦ inl (did.0, inl (x, c.in-Ok.ensures.policy, c.in-Ok.ensures.reads o o' tells, did.1))
        | inr none ↦ inr (none, some_made o o' c.self.inside.book.history c.args.replace.kind c.args.replace.policy x c.in-Ok.ensures.policy (c.in-Ok.ensures.reads o o' tells))
      ],
    ))
    c.say_installed_or.ensures.short)

pub returns-in-Err-clause-done : goal.returns-in-Err-clause-done
returns-in-Err-clause-done g c =
    rw (← c.self.view_is)
    (IfOk-weaker c.say_unnamed.result _ _
    (λ line said o o' tells. replace_refused o o' c.args.replace (verifier_of c.self.inside.book c.self.inside.moment) said.0 _
    (subst (IsPolicyFault o o' c.args.replace.kind c.args.replace.policy) said.1 (c.in-Err.ensures.fault o o' tells)) said.2)
    c.say_unnamed.ensures.line)

pub returns-in-Err-clause-short : goal.returns-in-Err-clause-short
returns-in-Err-clause-short g c =
    rw (← c.self.view_is)
    (IfErr-weaker c.say_unnamed.result _ _
    (λ stop e o o' tells. (e, replace_unnamed o o' c.args.replace (verifier_of c.self.inside.book c.self.inside.moment) c.in-Err.fault (c.in-Err.ensures.fault o o' tells)))
    c.say_unnamed.ensures.short)
