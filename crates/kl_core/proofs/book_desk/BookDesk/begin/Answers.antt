use Rattle.kl_core.specs.Begins.{BeginAnswers, begin_makes}
use Rattle.kl_core.proofs.Telling.{book_calls}
use Rattle.kl_core.proofs.book_desk.BookDesk.begin.Goals as goal

pub returns : goal.returns
returns c = record {
  event = book_calls _ _ (begin_makes c.args.now c.begin-answer.result) (BeginAnswers c.args.agent.now c.args.nonce c.args.now c.begin-answer.result) c.begin-answer.ensures.history c.len-len.ensures.legal c.begin-answer.ensures.answer;
}
