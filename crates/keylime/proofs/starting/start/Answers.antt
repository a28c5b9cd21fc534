use Rattle.keylime.proofs.starting.start.Goals as goal

pub returns-in-Ok-clause-other : goal.returns-in-Ok-clause-other
returns-in-Ok-clause-other g c = rw c.in-Ok.is (rw c.as_slice.ensures.value at c.answer.ensures.other)

pub returns-in-Ok-clause-unread : goal.returns-in-Ok-clause-unread
returns-in-Ok-clause-unread g c = rw c.in-Ok.is (rw c.as_slice.ensures.value at c.answer.ensures.unread)

pub returns-in-Ok-clause-unasked : goal.returns-in-Ok-clause-unasked
returns-in-Ok-clause-unasked g c = rw c.in-Ok.is (rw c.as_slice.ensures.value at c.answer.ensures.unasked)

pub returns-in-Ok-clause-unmade : goal.returns-in-Ok-clause-unmade
returns-in-Ok-clause-unmade g c = rw c.in-Ok.is (rw c.as_slice.ensures.value at c.answer.ensures.unmade)

pub returns-in-Ok-clause-undrawn : goal.returns-in-Ok-clause-undrawn
returns-in-Ok-clause-undrawn g c = rw c.in-Ok.is (rw c.as_slice.ensures.value at c.answer.ensures.undrawn)
