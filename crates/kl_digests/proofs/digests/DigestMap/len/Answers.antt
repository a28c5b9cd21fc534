-- A table has as many entries as its map has paths.
use Rattle.std.proofs.Common.{◌∙◌, sym, ap}
use Rattle.std.specs.FinMap as finite_map
use Rattle.kl_digests.proofs.Tables.{len-table_map}
use Rattle.kl_digests.proofs.digests.DigestMap.len.Goals as goal

pub returns : goal.returns
returns c = c.len.ensures.len ∙ sym (len-table_map c.self.inside.map c.len.ensures.unique) ∙ ap finite_map.len c.self.view_is
