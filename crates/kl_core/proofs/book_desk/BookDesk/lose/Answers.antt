use Rattle.kl_core.specs.Closes.{Loses, lose_makes}
use Rattle.kl_core.proofs.Telling.{book_calls}
use Rattle.kl_core.proofs.book_desk.BookDesk.lose.Goals as goal

pub returns : goal.returns
returns c = record {
  event = book_calls _ _ (lose_makes c.args.ticket c.args.why c.lose-answer.result) (Loses c.args.ticket c.args.why c.lose-answer.result) c.lose-answer.ensures.history c.len-len.ensures.legal c.lose-answer.ensures.answer;
}
