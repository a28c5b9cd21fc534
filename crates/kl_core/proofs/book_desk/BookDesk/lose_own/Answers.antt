use Rattle.kl_core.specs.Closes.{OwnLoses, lose_makes}
use Rattle.kl_core.proofs.Telling.{book_calls}
use Rattle.kl_core.proofs.book_desk.BookDesk.lose_own.Goals as goal

pub returns : goal.returns
returns c = record {
  event = book_calls _ _ (lose_makes c.args.ticket c.args.why c.lose_own-answer.result) (OwnLoses c.args.ticket c.args.why c.lose_own-answer.result) c.lose_own-answer.ensures.history c.len-len.ensures.legal c.lose_own-answer.ensures.answer;
}
