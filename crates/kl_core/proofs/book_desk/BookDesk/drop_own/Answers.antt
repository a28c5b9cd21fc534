use Rattle.kl_core.specs.Closes.{OwnDrops, drop_makes}
use Rattle.kl_core.proofs.Telling.{book_calls}
use Rattle.kl_core.proofs.book_desk.BookDesk.drop_own.Goals as goal

pub returns : goal.returns
returns c = record {
  event = book_calls _ _ (drop_makes c.args.ticket c.args.why c.drop_own-answer.result) (OwnDrops c.args.ticket c.args.why c.drop_own-answer.result) c.drop_own-answer.ensures.history c.len-len.ensures.legal c.drop_own-answer.ensures.answer;
}
