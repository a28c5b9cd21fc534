use Rattle.std.proofs.Common.{[], refl, ap, inl, inr, string_bytes, None}
use Rattle.std.proofs.lemmas.Result.{IfOk-weaker, IfErr-weaker}
use Rattle.kl_exclude.specs.Told.{MakerTold}
use Rattle.kl_io.specs.Calls.{no_calls}
use Rattle.kl_io.specs.Told.{WordsTold}
use Rattle.kl_core.specs.Books.{past}
use Rattle.kl_script.specs.Commands.{reply_fields}
use Rattle.kl_session.specs.Calls.{VerifierFields, verifier_of}
use Rattle.kl_session.specs.Outside.{Outside, outside}
use Rattle.kl_session.specs.Texts.{closed_line}
use Rattle.kl_session.specs.Replies.{fields_of}
use Rattle.kl_session.proofs.Opened.{tickets, taken_opened}
use Rattle.kl_session.proofs.Replied.{closed_kept, closes_session, finds_no_poll}
use Rattle.kl_session.proofs.verifier.Verifier.reply.Goals as goal

pub close_poll-closed-requires : goal.close_poll-closed-requires
close_poll-closed-requires g c =
    let b = c.self.inside in
    taken_opened tickets (past b.book) b.tickets.items c.take_numbered.new.kept.items c.in-Some.ticket c.in-Some.ensures.some c.self.invariant.tickets_are

pub invariant_of-self : goal.invariant_of-self
invariant_of-self g c =
    let b = c.self.inside in
    let told = g.Y.Keys.told in
    let words : WordsTold = record { left = None; calls = no_calls } in
    let maker : MakerTold = record { calls = no_calls; refused = []; asked = None } in
    closed_kept (outside (told c.args.keys.now) words maker c.args.steps.now) (outside (told c.close_poll-closed.new.keys) words maker c.close_poll-closed.new.steps)
    b.book c.close_poll-closed.new.book b.tickets.items c.take_numbered.new.kept.items b.shares.items c.in-Some.ticket c.args.reply.evidence c.close_poll-closed.result
    c.in-Some.ensures.some (c.close_poll-closed.ensures.closes words maker) c.close_poll-closed.ensures.legal c.self.invariant

pub returns-in-Some-clause-done : goal.returns-in-Some-clause-done
returns-in-Some-clause-done g c =
    let b = c.self.inside in
    let told = g.Y.Keys.told in
    let o : WordsTold → MakerTold → Outside = λ words maker. outside (told c.args.keys.now) words maker c.args.steps.now in
    let o' : WordsTold → MakerTold → Outside = λ words maker. outside (told c.close_poll-closed.new.keys) words maker c.close_poll-closed.new.steps in
    let s : VerifierFields = verifier_of b.book b.moment in
    let s' : VerifierFields = verifier_of c.close_poll-closed.new.book b.moment in
    let t = c.in-Some.ticket in
    let carries = ap (λ p. fields_of p c.args.reply.evidence) c.in-Some.ensures.number in
    rw (← c.self.view_is)
    (IfOk-weaker c.say_closed.result _ _
    (λ line said words maker. closes_session (o words maker) (o' words maker) (reply_fields c.args.reply) s s' t c.args.reply.evidence c.close_poll-closed.result (string_bytes line)
    (taken_opened tickets (past b.book) b.tickets.items c.take_numbered.new.kept.items t c.in-Some.ensures.some c.self.invariant.tickets_are)
    carries (c.close_poll-closed.ensures.closes words maker) refl said)
    c.say_closed.ensures.line)

pub returns-in-Some-clause-short : goal.returns-in-Some-clause-short
returns-in-Some-clause-short g c =
    let b = c.self.inside in
    let told = g.Y.Keys.told in
    let o : WordsTold → MakerTold → Outside = λ words maker. outside (told c.args.keys.now) words maker c.args.steps.now in
    let o' : WordsTold → MakerTold → Outside = λ words maker. outside (told c.close_poll-closed.new.keys) words maker c.close_poll-closed.new.steps in
    let s : VerifierFields = verifier_of b.book b.moment in
    let s' : VerifierFields = verifier_of c.close_poll-closed.new.book b.moment in
    let t = c.in-Some.ticket in
    let carries = ap (λ p. fields_of p c.args.reply.evidence) c.in-Some.ensures.number in
    rw (← c.self.view_is)
    (IfErr-weaker c.say_closed.result _ _
    (λ stop short words maker. (
      short,
      inl (
        closed_line c.close_poll-closed.result,
        closes_session (o words maker) (o' words maker) (reply_fields c.args.reply) s s' t c.args.reply.evidence c.close_poll-closed.result (closed_line c.close_poll-closed.result)
            (taken_opened tickets (past b.book) b.tickets.items c.take_numbered.new.kept.items t c.in-Some.ensures.some c.self.invariant.tickets_are)
            carries (c.close_poll-closed.ensures.closes words maker) refl refl,
      ),
    ))
    c.say_closed.ensures.short)

pub returns-in-None-clause-done : goal.returns-in-None-clause-done
returns-in-None-clause-done g c =
    let b = c.self.inside in
    let s : VerifierFields = verifier_of b.book b.moment in
    rw (← c.self.view_is)
    (IfOk-weaker c.say_refused.result _ _
    (λ line said words maker. inr (refl, finds_no_poll c.args.reply.poll s b.tickets.items (string_bytes line) c.self.invariant.tickets_are c.in-None.ensures.none said))
    c.say_refused.ensures.line)
