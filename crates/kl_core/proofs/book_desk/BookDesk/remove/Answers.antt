use Rattle.kl_core.specs.Endings.{Removes, remove_makes}
use Rattle.kl_core.proofs.Telling.{book_calls}
use Rattle.kl_core.proofs.book_desk.BookDesk.remove.Goals as goal

pub returns : goal.returns
returns c = record {
  event = book_calls _ _ (remove_makes c.args.agent.now c.remove-answer.result) (Removes c.args.agent.now c.remove-answer.result) c.remove-answer.ensures.history c.len-len.ensures.legal c.remove-answer.ensures.answer;
}
