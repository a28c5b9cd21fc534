-- The table with a path more is the map with it.
use Rattle.std.proofs.Common.{ap, ◌∙◌, string_bytes, arith}
use Rattle.std.proofs.lemmas.Map.Text.{text_keys}
use Rattle.std.specs.FinMap as finite_map
use Rattle.kl_digests.specs.Digests.{DigestMap}
use Rattle.kl_digests.proofs.Tables.{table_map_insert}
use Rattle.kl_digests.proofs.digests.DigestMap.put.Goals as goal

pub returns-in-Ok-clause-added : goal.returns-in-Ok-clause-added
returns-in-Ok-clause-added c =
    table_map_insert c.self.inside.map c.insert.new.self (string_bytes c.args.path) c.args.known (λ q. grind (arith, text_keys))
    ∙ ap (λ (m : DigestMap). finite_map.insert m (string_bytes c.args.path) c.args.known) c.self.view_is
