use Rattle.std.proofs.Common.{rules}
use Rattle.kl_history.specs.Records.{past_of}
use Rattle.kl_core.proofs.Standing.{opening_at}
use Rattle.kl_core.proofs.book.Book.opening.Goals as goal

pub returns-in-Some : goal.returns-in-Some
returns-in-Some c =
    let b = c.self.inside in
    rw (← c.self.view_is)
    (opening_at b.records.items (past_of b.records.items) c.args.poll _ c.in-Some.opening.now (c.self.invariant.0.polls_are c.args.poll) (search rules))
