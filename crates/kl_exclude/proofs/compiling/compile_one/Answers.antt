use Rattle.kl_exclude.proofs.Beginnings.{regex_is_pattern}
use Rattle.kl_exclude.proofs.compiling.compile_one.Goals as goal

pub returns-in-Ok-clause-read : goal.returns-in-Ok-clause-read
returns-in-Ok-clause-read g c = regex_is_pattern c.args.text.now c.in-Ok.made c.in-Ok.ensures.made
