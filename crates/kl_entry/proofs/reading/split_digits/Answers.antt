-- The digits are what stands before the first space.
use Rattle.std.proofs.Common.{sym, subst}
use Rattle.kl_entry.specs.Lines.{IsDigestText}
use Rattle.kl_entry.proofs.Parts.{space_missed, digits_same, space_boundary}
use Rattle.kl_entry.proofs.reading.split_digits.Goals as goal

pub returns-in_default-clause-none : goal.returns-in_default-clause-none
returns-in_default-clause-none c = λ digits rest is spelled. space_missed c.args.text.now c.as_bytes-bytes.result.now digits rest c.as_bytes-bytes.ensures.value c.in_default.ensures spelled

pub range_from-requires : goal.range_from-requires
range_from-requires c = λ _. space_boundary c.args.text.now c.as_bytes-bytes.result.now c.in-Some.space c.as_bytes-bytes.ensures.utf8 c.as_bytes-bytes.ensures.value c.in-Some.ensures

pub returns-in-None-clause-none : goal.returns-in-None-clause-none
returns-in-None-clause-none c = λ digits rest is spelled.
    let same = digits_same c.args.text.now c.as_bytes-bytes.result.now digits rest c.in-Some.space c.as_bytes-bytes.ensures.value c.in-Some.ensures is spelled in
    c.in-None.ensures.none (subst IsDigestText (sym same) is)
