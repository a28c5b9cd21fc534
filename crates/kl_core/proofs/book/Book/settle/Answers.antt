use Rattle.std.proofs.Common.{rules}
use Rattle.kl_core.proofs.book.Book.settle.Goals as goal

pub settle_open-requires-clause-given : goal.settle_open-requires-clause-given
settle_open-requires-clause-given c = (c.has_share.ensures.0 (search rules)).1

pub returns-clause-answer : goal.returns-clause-answer
returns-clause-answer c = (c.has_share.ensures.0 (search rules), c.settle_open.ensures.answer)
