use Rattle.std.proofs.Common.{append_assoc}
use Rattle.kl_session.proofs.texts.polled_line.Goals as goal

pub returns : goal.returns
returns c =
    simp append_assoc
    (rw (
      ← c.poll-poll.ensures,
      ← c.generation-generation.ensures,
      ← c.from-from.ensures,
      ← c.agent-agent.ensures,
      ← c.as_str-agent.ensures.value,
      ← c.nonce.ensures,
      ← c.as_str-nonce.ensures.value,
    ) c.line_of.ensures.ok)
