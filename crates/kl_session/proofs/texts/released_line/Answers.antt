use Rattle.std.proofs.Common.{append_assoc}
use Rattle.kl_session.proofs.texts.released_line.Goals as goal

pub returns : goal.returns
returns c =
    simp append_assoc
    (rw (← c.number-number.ensures, ← c.poll-poll.ensures, ← c.agent-agent.ensures, ← c.as_str-agent.ensures.value) c.line_of.ensures.ok)
