use Rattle.std.proofs.Common.{Err, ap}
use Rattle.kl_session.proofs.Readings.{policy_in_terms}
use Rattle.kl_session.proofs.naming.terms_of.Goals as goal

pub returns-in-Err-Mask-clause-fault : goal.returns-in-Err-Mask-clause-fault
returns-in-Err-Mask-clause-fault g c = λ o o' tells.
    ((c.in-Ok.policy, c.in-Ok.ensures.policy, c.in-Ok.ensures.reads o o' tells), c.in-Err-Mask.ensures.mask (ap Err c.in-Err-Mask.field-0-is))

pub returns-in-Err-Static-clause-fault : goal.returns-in-Err-Static-clause-fault
returns-in-Err-Static-clause-fault g c = λ o o' tells.
    let none = rw c.into_vec-statics.ensures at (c.in-Err-Static.ensures.statics (ap Err c.in-Err-Static.field-0-is)) in
    ((c.in-Ok.policy, c.in-Ok.ensures.policy, c.in-Ok.ensures.reads o o' tells), c.in-Err-Static.ensures.statics_mask (ap Err c.in-Err-Static.field-0-is), none)

pub returns-in-Err-clause-fault : goal.returns-in-Err-clause-fault
returns-in-Err-clause-fault g c = λ o o' tells. policy_in_terms o o' c.args.book.now.history c.args.add c.in-Err.fault (c.in-Err.ensures.fault o o' tells)
