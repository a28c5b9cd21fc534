use Rattle.kl_exclude.proofs.Beginnings.{stands_of_config}
use Rattle.kl_exclude.proofs.program.parse.Goals as goal

pub returns-in-Ok : goal.returns-in-Ok
returns-in-Ok c = stands_of_config _ c.default.ensures c.args.text.now c.in-Ok.parsed.hir _ c.in-Ok.ensures.ok
