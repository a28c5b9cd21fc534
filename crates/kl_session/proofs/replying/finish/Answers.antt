use Rattle.std.proofs.Common.{subst}
use Rattle.kl_history.specs.Legal.{Legal}
use Rattle.kl_core.specs.Books.{BookFields}
use Rattle.kl_session.proofs.Replied.{found_in}
use Rattle.kl_session.proofs.replying.finish.Goals as goal

pub returns-clause-found : goal.returns-clause-found
returns-clause-found c =
    let done = c.args.done in
    found_in c.args.book.now.history done.ticket.poll done.evidence done.signed done.finding c.in-Ok.closed.current (subst (λ (b : BookFields). Legal b.history) c.in-Ok.ensures.history c.len-len.ensures.legal)
