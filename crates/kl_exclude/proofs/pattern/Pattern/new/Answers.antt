use Rattle.kl_exclude.proofs.Beginnings.{regex_stands}
use Rattle.kl_exclude.proofs.pattern.Pattern.new.Goals as goal

pub invariant_of-result : goal.invariant_of-result
invariant_of-result c = regex_stands _ c.args.regex c.requires
