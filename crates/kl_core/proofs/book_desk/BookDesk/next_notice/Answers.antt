use Rattle.kl_core.specs.Notices.{NoticeAnswers}
use Rattle.kl_core.proofs.Telling.{book_tells}
use Rattle.kl_core.proofs.book_desk.BookDesk.next_notice.Goals as goal

pub returns : goal.returns
returns c = record { event = book_tells _ (NoticeAnswers c.next_notice-answer.result) c.len-len.ensures.legal c.next_notice-answer.ensures }
