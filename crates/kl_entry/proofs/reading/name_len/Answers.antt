use Rattle.std.proofs.Common.{◌≡◌, length, get_or, false, sym, ◌∙◌, arith}
use Rattle.std.proofs.lemmas.List.Sums.{prefix_len_is}
use Rattle.kl_entry.specs.Lines.{is_name_byte}
use Rattle.kl_entry.proofs.reading.name_len.Goals as goal

pub returns-then-not-stands_in_name : goal.returns-then-not-stands_in_name
returns-then-not-stands_in_name c =
    let none : is_name_byte (get_or c.args.bytes.now c.loop-i.i 0) ≡ false = sym c.if-not-stands_in_name.ensures in
    sym (prefix_len_is is_name_byte c.args.bytes.now c.loop-i.i 0 (omega arith) c.loop-i.invariant (λ _. none))

pub returns : goal.returns
returns c =
    let all : c.loop-i.i ≡ length c.args.bytes.now = omega arith in
    sym all ∙ sym (prefix_len_is is_name_byte c.args.bytes.now c.loop-i.i 0 (omega arith) c.loop-i.invariant (λ lt. absurd (omega arith)))
