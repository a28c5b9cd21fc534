use Rattle.kl_core.specs.Closes.{OwnFinishes, finish_makes}
use Rattle.kl_core.proofs.Telling.{book_calls}
use Rattle.kl_core.proofs.book_desk.BookDesk.finish_own.Goals as goal

pub returns : goal.returns
returns c = record {
  event = book_calls _ _ (finish_makes c.args.done c.finish_own-answer.result) (OwnFinishes c.args.done c.finish_own-answer.result) c.finish_own-answer.ensures.history c.len-len.ensures.legal c.finish_own-answer.ensures.answer;
}
