use Rattle.kl_history.specs.Records.{past_of}
use Rattle.kl_core.proofs.Picked.{pick_answers}
use Rattle.kl_core.proofs.book.Book.pick.Goals as goal

pub returns : goal.returns
returns c =
    let b = c.self.inside in
    rw (← c.self.view_is, c.first_due.ensures.first)
    (pick_answers b.records.items (past_of b.records.items) b.polls c.args.now c.self.invariant.0.polls_are b.agents c.self.invariant.0.agents_are c.first_due.ensures.ordered)
