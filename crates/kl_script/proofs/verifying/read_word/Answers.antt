use Rattle.kl_script.proofs.Forms.{no_verifier_word}
use Rattle.kl_script.proofs.verifying.read_word.Goals as goal

pub returns-in_default-clause-none : goal.returns-in_default-clause-none
returns-in_default-clause-none c = no_verifier_word c.args.line.now c.requires c.in_default.not-pick c.in_default.not-notice
