use Rattle.std.proofs.Common.{Ok, inl, refl}
use Rattle.std.proofs.lemmas.Result.{IfErr-weaker}
use Rattle.kl_core.specs.Shares.{Releases, release_makes}
use Rattle.kl_session.specs.Releasing.{says_released}
use Rattle.kl_session.specs.Texts.{released_line}
use Rattle.kl_session.proofs.Commands.{Made, done_of, handed_out}
use Rattle.kl_session.proofs.verifier.Verifier.release.Goals as goal

pub invariant_of-self-in-Ok : goal.invariant_of-self-in-Ok
invariant_of-self-in-Ok c =
    let b = c.self.inside in
    let released = c.in-Ok.ensures in
    rw (c.push_reserved.ensures.items, c.reserve.ensures.items)
    (handed_out b.book c.release-answer.new.self c.args.agent c.in-Ok.share b.tickets.items b.shares.items
    released.answer released.history c.len-len.ensures.legal c.self.invariant)

pub returns-in-Ok-clause-short : goal.returns-in-Ok-clause-short
returns-in-Ok-clause-short c =
    let b = c.self.inside in
    let released = c.in-Ok.ensures in
    let line = released_line c.in-Ok.share in
    let made : Made (Releases c.args.agent) release_makes b.book c.release-answer.new.self (Ok c.in-Ok.share) =
    record { answers = released.answer; grown = released.history } in
    rw (← c.self.view_is)
    (IfErr-weaker c.say_released-line.result _ _ (λ stop e. (e, inl (line, done_of made says_released b.moment line refl)))
    c.say_released-line.ensures.short)
