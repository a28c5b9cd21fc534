use Rattle.kl_core.specs.Shares.{Settles, settle_makes}
use Rattle.kl_core.proofs.Telling.{book_calls}
use Rattle.kl_core.proofs.book_desk.BookDesk.settle.Goals as goal

pub returns : goal.returns
returns c = record {
  event = book_calls _ _ (settle_makes c.args.share c.args.outcome c.settle-answer.result) (Settles c.args.share c.args.outcome c.settle-answer.result) c.settle-answer.ensures.history c.len-len.ensures.legal c.settle-answer.ensures.answer;
}
