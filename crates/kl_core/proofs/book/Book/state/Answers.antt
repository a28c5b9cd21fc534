use Rattle.std.proofs.Common.{rules}
use Rattle.kl_history.specs.Records.{past_of}
use Rattle.kl_core.proofs.Standing.{state_stands}
use Rattle.kl_core.proofs.book.Book.state.Goals as goal

pub returns-in-Some : goal.returns-in-Some
returns-in-Some c =
    let b = c.self.inside in
    rw (← c.self.view_is, c.op.ensures)
    (state_stands b.records.items (past_of b.records.items) c.args.agent.now _ c.in-Some.entry.now (c.self.invariant.0.agents_are c.args.agent.now) (search rules))
