use Rattle.std.proofs.Common.{Ok, inl, refl}
use Rattle.std.proofs.lemmas.Result.{IfErr-weaker}
use Rattle.kl_core.specs.Begins.{BeginAnswers, begin_makes}
use Rattle.kl_session.specs.Polls.{says_polled}
use Rattle.kl_session.specs.Texts.{polled_line}
use Rattle.kl_session.proofs.Commands.{Made, done_of, joined}
use Rattle.kl_session.proofs.verifier.Verifier.begin_with.Goals as goal

pub invariant_of-self-in-Ok : goal.invariant_of-self-in-Ok
invariant_of-self-in-Ok c =
    let b = c.self.inside in
    let begun = c.in-Ok.ensures in
    rw (c.push_reserved.ensures.items, c.reserve.ensures.items)
    (joined b.book c.begin-answer.new.self c.args.agent c.args.nonce b.moment c.in-Ok.ticket b.tickets.items b.shares.items
    begun.answer begun.history c.len-len.ensures.legal c.self.invariant)

pub returns-in-Ok-clause-short : goal.returns-in-Ok-clause-short
returns-in-Ok-clause-short c =
    let b = c.self.inside in
    let begun = c.in-Ok.ensures in
    let line = polled_line c.in-Ok.ticket in
    let made : Made (BeginAnswers c.args.agent c.args.nonce b.moment) (begin_makes b.moment) b.book c.begin-answer.new.self (Ok c.in-Ok.ticket) =
    record { answers = begun.answer; grown = begun.history } in
    rw (← c.self.view_is)
    (IfErr-weaker c.say_polled-line.result _ _ (λ stop e. (e, inl (line, done_of made says_polled b.moment line refl)))
    c.say_polled-line.ensures.short)
