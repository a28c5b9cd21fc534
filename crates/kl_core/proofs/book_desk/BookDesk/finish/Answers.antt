use Rattle.kl_core.specs.Closes.{Finishes, finish_makes}
use Rattle.kl_core.proofs.Telling.{book_calls}
use Rattle.kl_core.proofs.book_desk.BookDesk.finish.Goals as goal

pub returns : goal.returns
returns c = record {
  event = book_calls _ _ (finish_makes c.args.done c.finish-answer.result) (Finishes c.args.done c.finish-answer.result) c.finish-answer.ensures.history c.len-len.ensures.legal c.finish-answer.ensures.answer;
}
