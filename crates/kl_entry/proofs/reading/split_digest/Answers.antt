use Rattle.std.proofs.Common.{◌≡◌, List, ℕ, take, ap, sym, ◌∙◌, arith, subst}
use Rattle.kl_entry.proofs.Cuts.{range_from_start}
use Rattle.kl_entry.specs.Lines.{IsName}
use Rattle.kl_entry.proofs.Parts.{cut_after, name_is, name_missed, digits_missed}
use Rattle.kl_entry.proofs.reading.split_digest.Goals as goal
use Rattle.kl_entry.proofs.reading.split_digest.Goals.{then-len-eq0-via-then-len-eq0, then-len-eq0-via-else-len-eq0+then-len-gt-MAX_NAME, then-len-eq0-via-else-len-eq0+else-len-gt-MAX_NAME+then-len-bytes, then-len-eq0-via-else-len-eq0+else-len-gt-MAX_NAME+else-len-bytes+then-bytes-len-ne58}

pub returns-then-len-eq0-clause-none : goal.returns-then-len-eq0-clause-none
returns-then-len-eq0-clause-none c =
    λ name digits rest is _ spelled.
    let cut = name_missed c.as_bytes-bytes.result.now name digits rest c.name_len-len.result c.name_len-len.ensures is (c.as_bytes-bytes.ensures.value ∙ spelled) in
    elim c.then-len-eq0.branch [
      | then-len-eq0-via-then-len-eq0 w ↦ omega (arith, cut.0)
      | then-len-eq0-via-else-len-eq0+then-len-gt-MAX_NAME w ↦ omega (arith, cut.1)
      | then-len-eq0-via-else-len-eq0+else-len-gt-MAX_NAME+then-len-bytes w ↦ omega (arith, cut.2)
      | then-len-eq0-via-else-len-eq0+else-len-gt-MAX_NAME+else-len-bytes+then-bytes-len-ne58 w ↦ w.if-bytes-len-ne58.true cut.3
    ]

pub range_from-requires : goal.range_from-requires
range_from-requires c = λ _. cut_after c.args.text.now c.as_bytes-bytes.result.now c.name_len-len.result 58 c.as_bytes-bytes.ensures.utf8 c.as_bytes-bytes.ensures.value (omega arith) c.if-bytes-len-ne58.false (omega arith)

pub returns-in-Some-clause-name : goal.returns-in-Some-clause-name
returns-in-Some-clause-name c =
    let same : c.range.result.now ≡ take c.name_len-len.result c.as_bytes-bytes.result.now =
    c.range.ensures.value ∙ range_from_start c.args.text.now c.name_len-len.result ∙ ap (λ (t : List ℕ). take c.name_len-len.result t) (sym c.as_bytes-bytes.ensures.value) in
    subst IsName (sym same) (name_is c.as_bytes-bytes.result.now c.name_len-len.result c.name_len-len.ensures (omega (arith, c.if-len-eq0.false)) c.if-len-gt-MAX_NAME.false c.if-len-bytes.false)

pub returns-in-None-clause-none : goal.returns-in-None-clause-none
returns-in-None-clause-none c = λ name digits rest. digits_missed c.args.text.now c.as_bytes-bytes.result.now c.range_from.result.now name digits rest c.name_len-len.result c.as_bytes-bytes.ensures.value c.name_len-len.ensures c.range_from.ensures.value c.in-None.ensures.none
