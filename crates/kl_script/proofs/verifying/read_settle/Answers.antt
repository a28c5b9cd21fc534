use Rattle.kl_script.proofs.Settles.{settle_cut, settle_uncut}
use Rattle.kl_script.proofs.verifying.read_settle.Goals as goal

pub returns-in_err-number-clause-none : goal.returns-in_err-number-clause-none
returns-in_err-number-clause-none c = λ _ said s. settle_uncut c.args.arguments.now said c.in_err-number.ensures.none s

pub returns-in_err-number-2-clause-none : goal.returns-in_err-number-2-clause-none
returns-in_err-number-2-clause-none c = λ _ said s.
    let cut = c.in_ok-number.ensures.found in
    c.in_err-number-2.ensures.none said.number (settle_cut _ _ _ said cut.0 cut.1 s).0

pub returns-in_default-clause-none : goal.returns-in_default-clause-none
returns-in_default-clause-none c = λ _ said s.
    let cut = c.in_ok-number.ensures.found in
    c.in_default.ensures.none said.delivery (settle_cut _ _ _ said cut.0 cut.1 s).1
