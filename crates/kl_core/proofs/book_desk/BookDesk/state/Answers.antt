use Rattle.kl_core.specs.States.{StateAnswers}
use Rattle.kl_core.proofs.Telling.{book_reads}
use Rattle.kl_core.proofs.book_desk.BookDesk.state.Goals as goal

pub returns : goal.returns
returns c = record { event = book_reads _ (StateAnswers c.args.agent.now c.state-answer.result) c.len-len.ensures.legal c.state-answer.ensures }
