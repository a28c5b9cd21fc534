use Rattle.std.proofs.Common.{append_assoc}
use Rattle.kl_session.proofs.texts.settled_line.Goals as goal

pub returns : goal.returns
returns c = simp append_assoc c.line_of.ensures.ok
