use Rattle.std.proofs.Common.{refl, rules, ◌≡◌, Err}
use Rattle.kl_console.proofs.Playing.{turn_line, turn_last, turn_last_stops, turn_end, turn_over, turn_over_stops, turn_broken, turn_short}
use Rattle.kl_console.proofs.turns.turn.Goals as goal

pub returns-in-Ok-Line-clause-plays : goal.returns-in-Ok-Line-clause-plays
returns-in-Ok-Line-clause-plays g c = λ before s stands p.
    let reads = rw c.in-Ok-Line.field-0-is at c.in-Ok-Line.ensures.reads in
    let (s', after, answers) = c.answer.ensures.answers s stands in
    (s', after, turn_line _ _ _ _ c.next.new.self c.answer.new.reader s s' _ c.answer.result p reads c.answer.ensures.ahead c.answer.ensures.passed answers)

pub returns-in_ok-answer-in-Ok-Last-clause-plays : goal.returns-in_ok-answer-in-Ok-Last-clause-plays
returns-in_ok-answer-in-Ok-Last-clause-plays g c = λ before s stands p.
    let reads = rw c.in-Ok-Last.field-0-is at c.in-Ok-Last.ensures.reads in
    let (s', after, answers) = c.in_ok-answer-in-Ok-Last.ensures.answers s stands in
    (s', after, turn_last _ _ _ _ c.next.new.self s s' _ _ p reads answers)

pub returns-in_err-answer-in-Ok-Last-clause-plays : goal.returns-in_err-answer-in-Ok-Last-clause-plays
returns-in_err-answer-in-Ok-Last-clause-plays g c = λ before s stands p.
    let reads = rw c.in-Ok-Last.field-0-is at c.in-Ok-Last.ensures.reads in
    let is : c.from_residual.result ≡ Err c.in_err-answer-in-Ok-Last.field-0.0 = search rules in
    let (s', after, answers) = c.in_err-answer-in-Ok-Last.ensures.answers s stands in
    (s', after, rw is (turn_last_stops _ _ _ _ c.next.new.self s s' _ _ p reads answers))

pub returns-in-Ok-End-clause-plays : goal.returns-in-Ok-End-clause-plays
returns-in-Ok-End-clause-plays g c = λ before s stands p.
    let reads = rw c.in-Ok-End.field-0-is at c.in-Ok-End.ensures.reads in
    (s, stands, turn_end _ _ _ _ c.next.new.self s _ p reads refl refl)

pub returns-in_ok-complain-in-Ok-TooLong-clause-plays : goal.returns-in_ok-complain-in-Ok-TooLong-clause-plays
returns-in_ok-complain-in-Ok-TooLong-clause-plays g c = λ before s stands p.
    let reads = rw c.in-Ok-TooLong.field-0-is at c.in-Ok-TooLong.ensures.reads in
    (s, stands, turn_over _ _ _ _ c.next.new.self s _ p reads refl c.in_ok-complain-in-Ok-TooLong.ensures.prints)

pub returns-in_err-complain-in-Ok-TooLong-clause-plays : goal.returns-in_err-complain-in-Ok-TooLong-clause-plays
returns-in_err-complain-in-Ok-TooLong-clause-plays g c = λ before s stands p.
    let reads = rw c.in-Ok-TooLong.field-0-is at c.in-Ok-TooLong.ensures.reads in
    let is : c.from_residual-in_err-complain-in-Ok-TooLong.result ≡ Err c.in_err-complain-in-Ok-TooLong.field-0.0 = search rules in
    (s, stands, rw is (turn_over_stops _ _ _ _ c.next.new.self s _ _ p reads refl c.in_err-complain-in-Ok-TooLong.ensures.prints))

pub returns-in-Err-Failed-clause-plays : goal.returns-in-Err-Failed-clause-plays
returns-in-Err-Failed-clause-plays g c = λ before s stands p.
    let reads = rw c.in-Err-Failed.field-0-is at c.in-Err-Failed.ensures.reads in
    (s, stands, turn_broken _ _ _ _ c.next.new.self s _ p reads refl refl)

pub returns-in-Err-Memory-clause-plays : goal.returns-in-Err-Memory-clause-plays
returns-in-Err-Memory-clause-plays g c = λ before s stands p.
    let reads = rw c.in-Err-Memory.field-0-is at c.in-Err-Memory.ensures.reads in
    (s, stands, turn_short _ _ _ _ c.next.new.self s _ p reads refl refl)
