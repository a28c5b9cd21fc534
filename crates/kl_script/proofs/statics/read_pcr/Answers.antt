use Rattle.kl_script.proofs.Fixed.{pcr_bound}
use Rattle.kl_script.proofs.statics.read_pcr.Goals as goal

pub returns-then-pcr-gt-LAST_PCR-clause-none : goal.returns-then-pcr-gt-LAST_PCR-clause-none
returns-then-pcr-gt-LAST_PCR-clause-none c = λ pcr.
    pcr_bound c.args.written.now c.in_ok-pcr.pcr pcr c.in_ok-pcr.ensures.found.0 c.if-pcr-gt-LAST_PCR.true c.in_ok-pcr.ensures.found.1
