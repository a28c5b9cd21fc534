-- What is taken is what a look-up finds.
use Rattle.std.proofs.Common.{ap, ◌∙◌, codes, option_map}
use Rattle.serde_json.proofs.Views.{view-lookup}
use Rattle.serde_json.specs.View.{view}
use Rattle.kl_policy.proofs.json_digests.take_digests.Goals as goal

pub returns : goal.returns
returns c = ap (option_map view) c.remove.ensures.value ∙ view-lookup (codes "digests") c.args.members.entries
