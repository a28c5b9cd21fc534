use Rattle.std.proofs.Common.{arith}
use Rattle.std.proofs.lemmas.List.{length-take}
use Rattle.kl_entry.proofs.Parts.{cut_after, hash_found, hash_missed}
use Rattle.kl_entry.proofs.reading.split_hash.Goals as goal

pub slice_bounds-decode-end : goal.slice_bounds-decode-end
slice_bounds-decode-end c = omega (arith, length-take 40 c.as_bytes-bytes.result.now, c.if-bytes-le-HASH_DIGITS.false)

pub decode-requires : goal.decode-requires
decode-requires c = omega (arith, length-take 40 c.as_bytes-bytes.result.now, c.if-bytes-le-HASH_DIGITS.false)

pub returns-then-not-decode-clause-none : goal.returns-then-not-decode-clause-none
returns-then-not-decode-clause-none c = λ digits rest. hash_missed c.args.text.now c.as_bytes-bytes.result.now digits rest c.as_bytes-bytes.ensures.value c.if-bytes-le-HASH_DIGITS.false c.if-not-decode.ensures.none

pub range_from-requires : goal.range_from-requires
range_from-requires c = λ _. cut_after c.args.text.now c.as_bytes-bytes.result.now 40 32 c.as_bytes-bytes.ensures.utf8 c.as_bytes-bytes.ensures.value c.if-bytes-le-HASH_DIGITS.false c.if-bytes-ne32.false (omega arith)

pub returns-clause-text : goal.returns-clause-text
returns-clause-text c =
    hash_found c.args.text.now c.as_bytes-bytes.result.now c.decode.new.room c.range_from.result.now c.as_bytes-bytes.ensures.value c.if-bytes-le-HASH_DIGITS.false c.if-bytes-ne32.false c.if-not-decode.ensures.read c.range_from.ensures.value
