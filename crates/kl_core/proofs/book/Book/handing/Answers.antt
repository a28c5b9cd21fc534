use Rattle.std.proofs.Common.{rules}
use Rattle.kl_history.specs.Records.{past_of}
use Rattle.kl_core.proofs.Giving.{handed_at}
use Rattle.kl_core.proofs.book.Book.handing.Goals as goal

pub returns-in-Some : goal.returns-in-Some
returns-in-Some c =
    let b = c.self.inside in
    rw (← c.self.view_is)
    (handed_at b.records.items (past_of b.records.items) c.args.number _ c.in-Some.handed.now (c.self.invariant.2.releases_are c.args.number) (search rules))
