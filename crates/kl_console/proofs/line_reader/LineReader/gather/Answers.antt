use Rattle.std.proofs.Common.{◌≡◌, false, Ok, Err, refl, rules}
use Rattle.kl_console.specs.Inner.Reading.{Fits}
use Rattle.kl_console.proofs.Failing.{not_err}
use Rattle.kl_console.proofs.Gathering.{Asked, Moved, gathers_on, reads_broken, reads_last, reads_over}
use Rattle.kl_console.proofs.line_reader.LineReader.gather.Goals as goal

pub returns-then-is_over-clause-reads : goal.returns-then-is_over-clause-reads
returns-then-is_over-clause-reads g c =
    let piece = c.in_ok-whole.ensures in
    let over = c.is_over.ensures.over c.if-is_over.true in
    reads_over _ _ _ _ c.take_piece.new.self c.in_ok-whole.whole c.turns.invariant piece.bytes piece.passed piece.no_newline over

pub returns-then-not-branch-clause-reads : goal.returns-then-not-branch-clause-reads
returns-then-not-branch-clause-reads g c =
    let piece = c.in_ok-whole.ensures in
    let whole = c.if-whole.false in
    let bytes = rw whole at piece.bytes in
    let fits : Fits false c.take_piece.new.self = rw whole at (c.is_over.ensures.fits c.if-is_over.false) in
    let moved : Moved c.turns.self c.take_piece.new.self =
    record { all = bytes; none = piece.rest whole; kept = piece.passed; whole = piece.no_newline; fits = fits } in
    let asked : Asked _ (g.S.Source.told c.fill.new.source) c.take_piece.new.self c.fill.new.self =
    record { given = c.fill.ensures.bytes; once = c.fill.ensures.once; line = c.fill.ensures.line; passed = c.fill.ensures.passed } in
    let end = c.in_ok-fill.ensures.end c.if-not-branch.true in
    reads_last _ _ _ _ _ _ _ c.turns.invariant moved asked end.0 end.1

pub turns-preserved : goal.turns-preserved
turns-preserved g c =
    let piece = c.in_ok-whole.ensures in
    let whole = c.if-whole.false in
    let bytes = rw whole at piece.bytes in
    let fits : Fits false c.take_piece.new.self = rw whole at (c.is_over.ensures.fits c.if-is_over.false) in
    let moved : Moved c.turns.self c.take_piece.new.self =
    record { all = bytes; none = piece.rest whole; kept = piece.passed; whole = piece.no_newline; fits = fits } in
    let asked : Asked _ (g.S.Source.told c.fill.new.source) c.take_piece.new.self c.fill.new.self =
    record { given = c.fill.ensures.bytes; once = c.fill.ensures.once; line = c.fill.ensures.line; passed = c.fill.ensures.passed } in
    let faultless = c.in_ok-fill.ensures.failed.unmet (not_err (Ok c.in_ok-fill.field-0) _ _ refl) in
    gathers_on _ _ _ _ _ _ _ c.turns.invariant moved asked (c.in_ok-fill.ensures.some c.if-not-branch.false) faultless c.fill.ensures.place

pub returns-in_err-fill-clause-reads : goal.returns-in_err-fill-clause-reads
returns-in_err-fill-clause-reads g c =
    let piece = c.in_ok-whole.ensures in
    let whole = c.if-whole.false in
    let bytes = rw whole at piece.bytes in
    let fits : Fits false c.take_piece.new.self = rw whole at (c.is_over.ensures.fits c.if-is_over.false) in
    let is : c.from_residual-in_err-fill.result ≡ Err c.in_err-fill.field-0.0 = search rules in
    let moved : Moved c.turns.self c.take_piece.new.self =
    record { all = bytes; none = piece.rest whole; kept = piece.passed; whole = piece.no_newline; fits = fits } in
    let asked : Asked _ (g.S.Source.told c.fill.new.source) c.take_piece.new.self c.fill.new.self =
    record { given = c.fill.ensures.bytes; once = c.fill.ensures.once; line = c.fill.ensures.line; passed = c.fill.ensures.passed } in
    rw is (reads_broken _ _ _ _ _ _ _ c.in_err-fill.field-0.0 c.turns.invariant moved asked c.in_err-fill.ensures.err)
