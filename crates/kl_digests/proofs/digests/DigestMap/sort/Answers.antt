-- Each path keeps its digests.
use Rattle.std.proofs.Common.{rules, ◌∙◌}
use Rattle.std.proofs.lemmas.Map.Made.{map_same_pairs}
use Rattle.kl_digests.proofs.Tables.{same_table}
use Rattle.kl_digests.proofs.digests.DigestMap.sort.Goals as goal

pub returns : goal.returns
returns c =
    same_table c.self.inside.map c.retain.new.self (map_same_pairs _ (λ v. v) _ (λ k v b w f' t. search rules) _ _ c.retain.ensures.filtered) ∙ c.self.view_is
