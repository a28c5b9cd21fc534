use Rattle.kl_core.specs.Notices.{MarkAnswers, marks_of}
use Rattle.kl_core.proofs.Telling.{book_marks}
use Rattle.kl_core.proofs.book_desk.BookDesk.mark_delivered.Goals as goal

pub returns : goal.returns
returns c = record {
  event = book_marks _ _ (marks_of c.mark_delivered-answer.result) (MarkAnswers c.args.number c.mark_delivered-answer.result) c.mark_delivered-answer.ensures.marks c.len-len.ensures.legal c.mark_delivered-answer.ensures.answer;
}
