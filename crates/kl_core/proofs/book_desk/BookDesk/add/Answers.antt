use Rattle.kl_core.specs.Installs.{Adds, add_makes}
use Rattle.kl_core.proofs.Telling.{book_calls}
use Rattle.kl_core.proofs.book_desk.BookDesk.add.Goals as goal

pub returns : goal.returns
returns c = record {
  event = book_calls _ _ (add_makes c.args.agent c.args.terms c.add-answer.result) (Adds c.args.agent c.args.terms c.add-answer.result) c.add-answer.ensures.history c.len-len.ensures.legal c.add-answer.ensures.answer;
}
