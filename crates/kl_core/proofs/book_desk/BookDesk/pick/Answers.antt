use Rattle.kl_core.specs.Picks.{PickAnswers}
use Rattle.kl_core.proofs.Telling.{book_reads}
use Rattle.kl_core.proofs.book_desk.BookDesk.pick.Goals as goal

pub returns : goal.returns
returns c = record { event = book_reads _ (PickAnswers c.args.now c.pick-answer.result) c.len-len.ensures.legal c.pick-answer.ensures }
