use Rattle.kl_core.specs.Shares.{Releases, release_makes}
use Rattle.kl_core.proofs.Telling.{book_calls}
use Rattle.kl_core.proofs.book_desk.BookDesk.release.Goals as goal

pub returns : goal.returns
returns c = record {
  event = book_calls _ _ (release_makes c.release-answer.result) (Releases c.args.agent.now c.release-answer.result) c.release-answer.ensures.history c.len-len.ensures.legal c.release-answer.ensures.answer;
}
