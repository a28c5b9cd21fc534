use Rattle.std.proofs.Common.{append_assoc}
use Rattle.kl_session.proofs.texts.standing_line.Goals as goal

pub returns : goal.returns
returns c = simp append_assoc (rw (← c.as_str-agent.ensures.value, ← c.name-name.ensures) c.line_of.ensures.ok)
