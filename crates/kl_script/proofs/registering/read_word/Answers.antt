use Rattle.kl_script.proofs.Forms.{no_registrar_word}
use Rattle.kl_script.proofs.registering.read_word.Goals as goal

pub returns-in_default-clause-none : goal.returns-in_default-clause-none
returns-in_default-clause-none c = no_registrar_word c.args.line.now c.requires c.in_default.not-records
