use Rattle.std.proofs.Common.{◌≡◌, ◌<◌, length, [], ap, sym, ◌∙◌}
use Rattle.kl_entry.specs.Lines.{lines_of}
use Rattle.kl_entry.proofs.Cuts.{line_found, line_missed, line_empty, boundary, fewer}
use Rattle.kl_entry.proofs.line_iterator.LinesIterator.next.Goals as goal

pub range_from-self-inside-requires : goal.range_from-self-inside-requires
range_from-self-inside-requires c = λ _. boundary c.self.inside.left.now c.as_bytes.result.now c.in-Some.at c.as_bytes.ensures.utf8 c.as_bytes.ensures.value c.in-Some.ensures

pub returns-in-Some-clause-steps : goal.returns-in-Some-clause-steps
returns-in-Some-clause-steps c =
    ap lines_of (sym c.self.view_is) ∙ line_found c.self.inside.left.now c.as_bytes.result.now c.range.result.now c.range_from-self-inside.result.now c.in-Some.at c.as_bytes.ensures.value c.in-Some.ensures c.range.ensures.value c.range_from-self-inside.ensures.value

pub returns-in-Some-clause-goes : goal.returns-in-Some-clause-goes
returns-in-Some-clause-goes c =
    let less : length (lines_of c.range_from-self-inside.result.now) < length (lines_of c.args.self.now) =
    fewer c.args.self.now c.range_from-self-inside.result.now c.range.result.now (returns-in-Some-clause-steps c) in
    record { on = λ f. (tt, tt, less); keeps = tt; rests = λ f. tt }

pub returns-in-None-clause-steps : goal.returns-in-None-clause-steps
returns-in-None-clause-steps c =
    let none : lines_of c.args.self.now ≡ [] = ap lines_of (sym c.self.view_is) ∙ line_empty c.self.inside.left.now (sym c.if-is_empty.ensures) in
    (none, none)

pub returns-in-None-2-clause-steps : goal.returns-in-None-2-clause-steps
returns-in-None-2-clause-steps c =
    ap lines_of (sym c.self.view_is) ∙ line_missed c.self.inside.left.now c.as_bytes.result.now c.as_bytes.ensures.value c.in-None.ensures (sym c.if-is_empty.ensures)

pub returns-in-None-2-clause-goes : goal.returns-in-None-2-clause-goes
returns-in-None-2-clause-goes c =
    let less : length (lines_of []) < length (lines_of c.args.self.now) = fewer c.args.self.now [] c.self.inside.left.now (returns-in-None-2-clause-steps c) in
    record { on = λ f. (tt, tt, less); keeps = tt; rests = λ f. tt }
