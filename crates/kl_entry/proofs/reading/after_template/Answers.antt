use Rattle.std.proofs.Common.{◌≡◌, get_or, arith}
use Rattle.kl_entry.proofs.Parts.{cut_after}
use Rattle.kl_entry.proofs.reading.after_template.Goals as goal

pub range_from-requires : goal.range_from-requires
range_from-requires c =
    λ _. let space : get_or c.as_bytes.result.now 6 0 ≡ 32 = omega arith in
    cut_after c.args.text.now c.as_bytes.result.now 6 32 c.as_bytes.ensures.utf8 c.as_bytes.ensures.value (omega arith) space (omega arith)
