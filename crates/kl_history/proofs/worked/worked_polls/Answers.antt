use Rattle.kl_history.proofs.Examples.{added_once_more, first_pass, invalid_quote, late_failure, late_pass, pass_without_share, second_failure}
use Rattle.kl_history.proofs.worked.worked_polls.Goals as goal

pub returns-clause-first_pass : goal.returns-clause-first_pass
returns-clause-first_pass c = first_pass

pub returns-clause-late_pass : goal.returns-clause-late_pass
returns-clause-late_pass c = late_pass

pub returns-clause-late_failure : goal.returns-clause-late_failure
returns-clause-late_failure c = late_failure

pub returns-clause-invalid_quote : goal.returns-clause-invalid_quote
returns-clause-invalid_quote c = invalid_quote

pub returns-clause-second_failure : goal.returns-clause-second_failure
returns-clause-second_failure c = second_failure

pub returns-clause-added_again : goal.returns-clause-added_again
returns-clause-added_again c = added_once_more

pub returns-clause-without_v : goal.returns-clause-without_v
returns-clause-without_v c = pass_without_share
