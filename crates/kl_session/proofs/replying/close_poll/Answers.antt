use Rattle.std.proofs.Common.{refl, inl, inr, ap}
use Rattle.kl_session.specs.Outside.{outside}
use Rattle.kl_session.proofs.Replied.{found_closes, dropped_closes}
use Rattle.kl_session.proofs.replying.close_poll.Goals as goal

pub returns-in-Ok-clause-closes : goal.returns-in-Ok-clause-closes
returns-in-Ok-clause-closes g c words maker =
    let told = g.Y.Keys.told in
    let e = c.in-Ok.ensures in
    found_closes (outside (told c.args.keys.now) words maker c.args.steps.now) (outside (told c.appraise_from.new.keys) words maker c.appraise_from.new.steps)
    c.args.book.now c.finish.new.book c.args.ticket c.args.evidence c.in-Ok.appraised c.finish.result e.ticket e.evidence c.finish.ensures.found e.signed e.question
    (elim e.unasked [ inl same ↦ inl (ap told same) | inr ask ↦ inr ask ]) refl refl (record { most = e.cost; unread = e.unread }) c.finish.ensures.closed c.finish.ensures.history

pub returns-in-Err-clause-closes : goal.returns-in-Err-clause-closes
returns-in-Err-clause-closes g c words maker =
    let told = g.Y.Keys.told in
    let e = c.in-Err.ensures in
    dropped_closes (outside (told c.args.keys.now) words maker c.args.steps.now) (outside (told c.appraise_from.new.keys) words maker c.appraise_from.new.steps)
    c.args.book.now c.drop_poll.new.book c.args.ticket c.in-Err.ticket c.args.evidence c.in-Err.why c.drop_poll.result e.back e.blamed
    (elim e.unasked [ inl same ↦ inl (ap told same) | inr ask ↦ inr ask ]) (elim e.once [ inl same ↦ inl (ap told same) | inr asked ↦ inr asked ])
    refl refl e.idle (record { most = e.cost; unread = e.unread }) c.drop_poll.ensures.closed c.drop_poll.ensures.history
