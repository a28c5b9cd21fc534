use Rattle.std.proofs.Common.{◌≡◌, ◌-◌, ◌+◌, ◌<◌, drop, length-take, ap, arith}
use Rattle.kl_entry.specs.Lines.{HasNo}
use Rattle.kl_console.proofs.Pieces.{HasNo-append, newline_moved, rest_of_part}
use Rattle.kl_console.proofs.line_reader.LineReader.take_piece.Goals as goal

pub returns-in_ok-extend_from_slice-in-Some-clause-bytes :
    goal.returns-in_ok-extend_from_slice-in-Some-clause-bytes
returns-in_ok-extend_from_slice-in-Some-clause-bytes c =
    let chunk : c.deref.result.now ≡ c.self.inside.chunk.items = c.deref.ensures.value in
    let found = rw chunk at c.in-Some.ensures.found in
    let grown = rw chunk at c.in_ok-extend_from_slice-in-Some.ensures.items in
    let ahead = drop c.self.inside.start c.self.inside.chunk.items in
    let inside : c.in-Some.at < c.self.inside.end - c.self.inside.start =
    omega (arith, found.inside, length-take (c.self.inside.end - c.self.inside.start) ahead) in
    rw (grown, ← c.self.view_is, rest_of_part c.self.inside.chunk.items c.self.inside.start c.self.inside.end (c.in-Some.at + 1) (omega arith))
    (newline_moved c.self.inside.line.items _ c.in-Some.at found)

pub returns-in_ok-extend_from_slice-in-Some-clause-no_newline :
    goal.returns-in_ok-extend_from_slice-in-Some-clause-no_newline
returns-in_ok-extend_from_slice-in-Some-clause-no_newline c = λ none.
    rw c.in_ok-extend_from_slice-in-Some.ensures.items
    (let own : HasNo 10 c.self.inside.line.items = rw (ap (λ r. r.line) c.self.view_is) none in
    HasNo-append 10 _ _ own c.in-Some.ensures.found.before)

pub returns-in_ok-extend_from_slice-in-None-clause-no_newline :
    goal.returns-in_ok-extend_from_slice-in-None-clause-no_newline
returns-in_ok-extend_from_slice-in-None-clause-no_newline c = λ none.
    rw c.in_ok-extend_from_slice-in-None.ensures.items
    (let own : HasNo 10 c.self.inside.line.items = rw (ap (λ r. r.line) c.self.view_is) none in
    HasNo-append 10 _ _ own c.in-None.ensures.none)
