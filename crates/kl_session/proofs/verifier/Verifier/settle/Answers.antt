use Rattle.std.proofs.Common.{inr, string_bytes}
use Rattle.std.proofs.lemmas.Result.{IfOk-weaker}
use Rattle.kl_core.specs.Books.{past}
use Rattle.kl_session.specs.Calls.{verifier_of}
use Rattle.kl_session.specs.Releasing.{DoesSettle}
use Rattle.kl_session.specs.Texts.{settled_line}
use Rattle.kl_session.proofs.Opened.{shares, taken_opened}
use Rattle.kl_session.proofs.Replied.{settled_kept, settles_release, said_of, unsaid_of, finds_no_release}
use Rattle.kl_session.proofs.verifier.Verifier.settle.Goals as goal

pub settle_release-settlement-requires : goal.settle_release-settlement-requires
settle_release-settlement-requires c =
    let b = c.self.inside in
    taken_opened shares (past b.book) b.shares.items c.take_numbered.new.kept.items c.in-Some.share c.in-Some.ensures.some c.self.invariant.shares_are

pub invariant_of-self : goal.invariant_of-self
invariant_of-self c =
    let b = c.self.inside in
    let settled = c.settle_release-settlement in
    settled_kept b.book settled.new.book b.tickets.items b.shares.items c.take_numbered.new.kept.items c.in-Some.share c.outcome.result settled.result.current
    c.in-Some.ensures.some settled.ensures.history settled.ensures.legal c.self.invariant

pub returns-in-Some-clause-done : goal.returns-in-Some-clause-done
returns-in-Some-clause-done c =
    let b = c.self.inside in
    let settled = c.settle_release-settlement in
    rw (← c.self.view_is)
    (said_of string_bytes c.say_settled.result (DoesSettle c.args.settle (verifier_of b.book b.moment) (verifier_of settled.new.book b.moment)) (settled_line settled.result)
    (settles_release b.book settled.new.book b.moment b.shares.items c.take_numbered.new.kept.items c.in-Some.share c.args.settle c.outcome.result settled.result
    c.outcome.ensures c.self.invariant.shares_are c.in-Some.ensures.some c.in-Some.ensures.number settled.ensures.settled settled.ensures.history)
    c.say_settled.ensures.line)

pub returns-in-Some-clause-short : goal.returns-in-Some-clause-short
returns-in-Some-clause-short c =
    let b = c.self.inside in
    let settled = c.settle_release-settlement in
    let s = verifier_of b.book b.moment in
    let s' = verifier_of settled.new.book b.moment in
    rw (← c.self.view_is)
    (unsaid_of c.say_settled.result s s' (DoesSettle c.args.settle s s') (settled_line settled.result)
    (settles_release b.book settled.new.book b.moment b.shares.items c.take_numbered.new.kept.items c.in-Some.share c.args.settle c.outcome.result settled.result
    c.outcome.ensures c.self.invariant.shares_are c.in-Some.ensures.some c.in-Some.ensures.number settled.ensures.settled settled.ensures.history)
    c.say_settled.ensures.short)

pub returns-in-None-clause-done : goal.returns-in-None-clause-done
returns-in-None-clause-done c =
    let b = c.self.inside in
    rw (← c.self.view_is)
    (IfOk-weaker c.say_refused.result _ _
    (λ line said. inr (finds_no_release c.args.settle.number (verifier_of b.book b.moment) b.shares.items (string_bytes line) c.self.invariant.shares_are c.in-None.ensures.none said))
    c.say_refused.ensures.line)
