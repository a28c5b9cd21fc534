use Rattle.std.proofs.Common.{reverse}
use Rattle.kl_states.specs.declared.outcome.DropWhy.TheVariants.{End}
use Rattle.kl_history.specs.declared.record.Record.TheVariants.{Dropped}
use Rattle.kl_session.proofs.Opened.{tickets, Ending}
use Rattle.kl_session.proofs.closing.drop_all.Given as goal

-- those that were dropped stand before those that are left, the next of which is the last of the row turned round
abbrev pub invariant-loop-ticket : goal.invariant-loop-ticket
invariant-loop-ticket l = Ending tickets (λ p. Dropped p End) l.fn.book l.book l.fn.tickets.items (reverse l.row.items)

abbrev pub decreases-loop-ticket : goal.decreases-loop-ticket
decreases-loop-ticket l = goal.left-loop-ticket l
