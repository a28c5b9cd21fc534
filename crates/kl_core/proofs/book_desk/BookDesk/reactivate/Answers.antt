use Rattle.kl_core.specs.Installs.{Reactivates, reactivate_makes}
use Rattle.kl_core.proofs.Telling.{book_calls}
use Rattle.kl_core.proofs.book_desk.BookDesk.reactivate.Goals as goal

pub returns : goal.returns
returns c = record {
  event = book_calls _ _ (reactivate_makes c.args.agent.now c.reactivate-answer.result) (Reactivates c.args.agent.now c.reactivate-answer.result) c.reactivate-answer.ensures.history c.len-len.ensures.legal c.reactivate-answer.ensures.answer;
}
