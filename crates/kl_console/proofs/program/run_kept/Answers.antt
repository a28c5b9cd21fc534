use Rattle.std.proofs.Common.{sym, subst}
use Rattle.kl_console.specs.Run.{IsStatus}
use Rattle.kl_console.proofs.Statuses.{ends_as, is_status}
use Rattle.kl_console.proofs.program.run_kept.Goals as goal

pub returns-clause-ends : goal.returns-clause-ends
returns-clause-ends g c = rw c.status.ensures (ends_as _ _ _ c.play-end.result.0 c.play-end.ensures.ends c.play-end.ensures.read c.play-end.ensures.write)

pub returns-clause-statuses : goal.returns-clause-statuses
returns-clause-statuses g c = subst IsStatus (sym c.status.ensures) (is_status c.play-end.result.0)
