use Rattle.std.proofs.Common.{◌∙◌}
use Rattle.kl_entry.proofs.Pieces.{pieces, joined}
use Rattle.kl_entry.proofs.entry_data.EntryData.lay_out.Goals as goal

pub returns : goal.returns
returns c =
    joined _ _ _ _ _ _ _ _ _ _ _ _ _ _ c.put-at.ensures.bytes c.put-at-2.ensures.bytes c.put-at-3.ensures.bytes c.put-at-4.ensures.bytes c.put-at-5.ensures.bytes c.put-at-6.ensures.bytes c.put-self-inside.ensures.bytes
    ∙ pieces c.args.entry.now c.to_le_bytes.result c.as_bytes-alg.result.now c.as_slice-digest.result.now c.to_le_bytes-2.result c.as_bytes-path.result.now (c.as_bytes-alg.ensures.value ∙ c.alg.ensures.value) (c.as_slice-digest.ensures.value ∙ c.digest.ensures.value) (c.as_bytes-path.ensures.value ∙ c.path.ensures.value) c.to_le_bytes.ensures c.to_le_bytes-2.ensures
