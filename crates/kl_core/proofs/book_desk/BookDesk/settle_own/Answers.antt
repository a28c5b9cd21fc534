use Rattle.kl_core.specs.Shares.{OwnSettles, settle_makes}
use Rattle.kl_core.proofs.Telling.{book_calls}
use Rattle.kl_core.proofs.book_desk.BookDesk.settle_own.Goals as goal

pub returns : goal.returns
returns c = record {
  event = book_calls _ _ (settle_makes c.args.share c.args.outcome c.settle_own-answer.result) (OwnSettles c.args.share c.args.outcome c.settle_own-answer.result) c.settle_own-answer.ensures.history c.len-len.ensures.legal c.settle_own-answer.ensures.answer;
}
