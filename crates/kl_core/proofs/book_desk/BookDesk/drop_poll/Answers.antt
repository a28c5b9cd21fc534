use Rattle.kl_core.specs.Closes.{Drops, drop_makes}
use Rattle.kl_core.proofs.Telling.{book_calls}
use Rattle.kl_core.proofs.book_desk.BookDesk.drop_poll.Goals as goal

pub returns : goal.returns
returns c = record {
  event = book_calls _ _ (drop_makes c.args.ticket c.args.why c.drop_poll-answer.result) (Drops c.args.ticket c.args.why c.drop_poll-answer.result) c.drop_poll-answer.ensures.history c.len-len.ensures.legal c.drop_poll-answer.ensures.answer;
}
