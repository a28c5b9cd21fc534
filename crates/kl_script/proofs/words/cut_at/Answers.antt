use Rattle.kl_script.proofs.Bytes.{cut_found, cut_missed, boundary}
use Rattle.kl_script.proofs.words.cut_at.Goals as goal

pub range_from-requires : goal.range_from-requires
range_from-requires c = λ _.
    boundary c.args.separator c.args.text.now c.as_bytes-bytes.result.now c.as_bytes-bytes.ensures.value c.in-Some.at c.as_bytes-bytes.ensures.utf8 c.in-Some.ensures c.requires

pub returns-in-Some-clause-found : goal.returns-in-Some-clause-found
returns-in-Some-clause-found c =
    cut_found c.args.separator c.args.text.now c.as_bytes-bytes.result.now c.as_bytes-bytes.ensures.value c.range.result.now c.range_from.result.now c.in-Some.at c.in-Some.ensures c.range.ensures.value c.range_from.ensures.value

pub returns-in-None-clause-none : goal.returns-in-None-clause-none
returns-in-None-clause-none c = cut_missed c.args.separator c.args.text.now c.as_bytes-bytes.result.now c.as_bytes-bytes.ensures.value c.in-None.ensures
