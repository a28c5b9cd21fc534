use Rattle.std.proofs.Common.{append_assoc}
use Rattle.kl_session.proofs.texts.closed_line.Goals as goal

pub returns-in-Verdict : goal.returns-in-Verdict
returns-in-Verdict c = rw c.in-Verdict.is (simp append_assoc c.line_of.ensures.ok)

pub returns-in-Restart : goal.returns-in-Restart
returns-in-Restart c = rw c.in-Restart.is (simp append_assoc c.line_of-in-Restart.ensures.ok)

pub returns-in-Lost : goal.returns-in-Lost
returns-in-Lost c = rw c.in-Lost.is (simp append_assoc c.line_of-in-Lost.ensures.ok)

pub returns-in-Dropped : goal.returns-in-Dropped
returns-in-Dropped c = rw c.in-Dropped.is (simp append_assoc c.line_of-in-Dropped.ensures.ok)
