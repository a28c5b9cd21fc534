use Rattle.kl_history.proofs.Examples.{list_continued, rebooted}
use Rattle.kl_history.proofs.worked.worked_lists.Goals as goal

pub returns-clause-rebooted : goal.returns-clause-rebooted
returns-clause-rebooted c = rebooted

pub returns-clause-continued : goal.returns-clause-continued
returns-clause-continued c = list_continued
