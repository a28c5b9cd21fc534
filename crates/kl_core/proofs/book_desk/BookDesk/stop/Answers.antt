use Rattle.kl_core.specs.Endings.{Stops, stop_makes}
use Rattle.kl_core.proofs.Telling.{book_calls}
use Rattle.kl_core.proofs.book_desk.BookDesk.stop.Goals as goal

pub returns : goal.returns
returns c = record {
  event = book_calls _ _ (stop_makes c.args.agent.now c.stop-answer.result) (Stops c.args.agent.now c.stop-answer.result) c.stop-answer.ensures.history c.len-len.ensures.legal c.stop-answer.ensures.answer;
}
