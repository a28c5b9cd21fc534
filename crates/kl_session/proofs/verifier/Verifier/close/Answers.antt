use Rattle.kl_session.proofs.Ended.{shares_stay, is_ended, same_marks}
use Rattle.kl_session.proofs.verifier.Verifier.close.Goals as goal

pub withdraw_all-requires : goal.withdraw_all-requires
withdraw_all-requires c =
    let b = c.self.inside in
    let dropped = c.drop_all.ensures.dropped in
    shares_stay b.book c.drop_all.new.book dropped.0 b.shares.items dropped.2 c.drop_all.ensures.legal c.self.invariant.shares_are

pub returns-clause-ended : goal.returns-clause-ended
returns-clause-ended c =
    rw (← c.self.view_is)
    (is_ended c.self.inside.book c.drop_all.new.book c.withdraw_all.new.book c.drop_all.ensures.dropped c.withdraw_all.ensures.withdrawn)

pub returns-clause-marks : goal.returns-clause-marks
returns-clause-marks c =
    rw (← c.self.view_is)
    (same_marks c.self.inside.book c.drop_all.new.book c.withdraw_all.new.book c.drop_all.ensures.dropped c.withdraw_all.ensures.withdrawn)
