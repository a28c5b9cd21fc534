use Rattle.std.proofs.Common.{reverse}
use Rattle.kl_core.specs.Books.{past}
use Rattle.kl_session.specs.Closing.{withdrawn}
use Rattle.kl_session.proofs.Opened.{shares, Ending}
use Rattle.kl_session.proofs.closing.withdraw_all.Given as goal

-- those that were withdrawn stand before those that are left, the next of which is the last of the row turned round
abbrev pub invariant-loop-share : goal.invariant-loop-share
invariant-loop-share l = Ending shares (withdrawn (past l.fn.book)) l.fn.book l.book l.fn.shares.items (reverse l.row.items)

abbrev pub decreases-loop-share : goal.decreases-loop-share
decreases-loop-share l = goal.left-loop-share l
