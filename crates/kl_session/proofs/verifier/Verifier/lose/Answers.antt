use Rattle.std.proofs.Common.{inr, string_bytes}
use Rattle.std.proofs.lemmas.Result.{IfOk-weaker}
use Rattle.kl_core.specs.Books.{past}
use Rattle.kl_session.specs.Calls.{verifier_of}
use Rattle.kl_session.specs.Losing.{DoesLose}
use Rattle.kl_session.specs.Texts.{closed_line}
use Rattle.kl_session.proofs.Opened.{tickets, taken_opened}
use Rattle.kl_session.proofs.Replied.{lost_kept, loses_poll, said_of, unsaid_of, finds_no_poll}
use Rattle.kl_session.proofs.verifier.Verifier.lose.Goals as goal

pub lose_poll-closed-requires : goal.lose_poll-closed-requires
lose_poll-closed-requires c =
    let b = c.self.inside in
    taken_opened tickets (past b.book) b.tickets.items c.take_numbered.new.kept.items c.in-Some.ticket c.in-Some.ensures.some c.self.invariant.tickets_are

pub invariant_of-self : goal.invariant_of-self
invariant_of-self c =
    let b = c.self.inside in
    let lost = c.lose_poll-closed in
    lost_kept b.book lost.new.book b.tickets.items c.take_numbered.new.kept.items b.shares.items c.in-Some.ticket lost.result.current
    c.in-Some.ensures.some lost.ensures.history lost.ensures.legal c.self.invariant

pub returns-in-Some-clause-done : goal.returns-in-Some-clause-done
returns-in-Some-clause-done c =
    let b = c.self.inside in
    let lost = c.lose_poll-closed in
    rw (← c.self.view_is)
    (said_of string_bytes c.say_closed.result (DoesLose c.args.poll (verifier_of b.book b.moment) (verifier_of lost.new.book b.moment)) (closed_line lost.result)
    (loses_poll b.book lost.new.book b.moment b.tickets.items c.take_numbered.new.kept.items c.in-Some.ticket c.args.poll lost.result
    c.self.invariant.tickets_are c.in-Some.ensures.some c.in-Some.ensures.number lost.ensures.closed lost.ensures.history)
    c.say_closed.ensures.line)

pub returns-in-Some-clause-short : goal.returns-in-Some-clause-short
returns-in-Some-clause-short c =
    let b = c.self.inside in
    let lost = c.lose_poll-closed in
    let s = verifier_of b.book b.moment in
    let s' = verifier_of lost.new.book b.moment in
    rw (← c.self.view_is)
    (unsaid_of c.say_closed.result s s' (DoesLose c.args.poll s s') (closed_line lost.result)
    (loses_poll b.book lost.new.book b.moment b.tickets.items c.take_numbered.new.kept.items c.in-Some.ticket c.args.poll lost.result
    c.self.invariant.tickets_are c.in-Some.ensures.some c.in-Some.ensures.number lost.ensures.closed lost.ensures.history)
    c.say_closed.ensures.short)

pub returns-in-None-clause-done : goal.returns-in-None-clause-done
returns-in-None-clause-done c =
    let b = c.self.inside in
    rw (← c.self.view_is)
    (IfOk-weaker c.say_refused.result _ _
    (λ line said. inr (finds_no_poll c.args.poll (verifier_of b.book b.moment) b.tickets.items (string_bytes line) c.self.invariant.tickets_are c.in-None.ensures.none said))
    c.say_refused.ensures.line)
