-- What is kept of it is what the invariant says.
use Rattle.kl_core.proofs.book.Book.entry.Goals as goal

pub returns : goal.returns
returns c = rw (← c.self.view_is, c.kept.ensures) (c.self.invariant.0.agents_are c.args.agent.now)
