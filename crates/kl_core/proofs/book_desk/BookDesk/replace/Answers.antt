use Rattle.kl_core.specs.Installs.{Replaces, replace_makes}
use Rattle.kl_core.proofs.Telling.{book_calls}
use Rattle.kl_core.proofs.book_desk.BookDesk.replace.Goals as goal

pub returns : goal.returns
returns c = record {
  event = book_calls _ _ (replace_makes c.args.agent.now c.args.policy c.replace-answer.result) (Replaces c.args.agent.now c.args.policy c.replace-answer.result) c.replace-answer.ensures.history c.len-len.ensures.legal c.replace-answer.ensures.answer;
}
