use Rattle.std.proofs.Common.{append_assoc}
use Rattle.kl_session.proofs.registrar_texts.record_line.Goals as goal

pub returns : goal.returns
returns c =
    simp append_assoc
    (rw (
      ← c.as_str-agent.ensures.value,
      ← c.as_slice.ensures,
      ← c.in_ok-ek.ensures,
      ← c.as_slice-2.ensures,
      ← c.in_ok-ak.ensures,
      ← c.as_str.ensures,
      ← c.in_ok-contact.ensures.written,
    ) c.line_of.ensures.ok)
