-- A look-up in the table is a look-up in its map.
use Rattle.std.proofs.Common.{◌∙◌, sym, ap}
use Rattle.std.specs.FinMap as finite_map
use Rattle.kl_digests.proofs.Tables.{get-table_map}
use Rattle.kl_digests.proofs.digests.DigestMap.find.Goals as goal

pub returns : goal.returns
returns c = c.get.ensures.value ∙ sym (get-table_map c.self.inside.map c.args.path.now) ∙ ap (λ m. finite_map.get m c.args.path.now) c.self.view_is
