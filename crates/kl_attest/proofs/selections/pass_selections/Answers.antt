use Rattle.std.proofs.lemmas.Result.{err_from_is_err_and}
use Rattle.kl_attest.specs.Inner.Seen.{place_of}
use Rattle.kl_attest.specs.Inner.Seen.{selection_of}
use Rattle.kl_attest.specs.Inner.Reading.{listed_at, behind}
use Rattle.kl_attest.proofs.Steps.{goes_on, ends, is_done}
use Rattle.kl_attest.proofs.selections.pass_selections.Goals as goal

pub returns-in_err-after : goal.returns-in_err-after
returns-in_err-after c =
    let p = err_from_is_err_and c.from_residual.result c.from_residual.ensures.1 in
    rw (p.1, p.2) (ends c.in_err-after.field-0.0 c.args.count c.loop.counter (place_of c.loop.rest) (behind (listed_at c.args.count (place_of c.args.first))) c.loop-test.true c.in_err-after.ensures c.loop.invariant)

pub loop-preserved : goal.loop-preserved
loop-preserved c = goes_on c.args.count c.loop.counter (place_of c.loop.rest) (selection_of c.in_ok-after.field-0-0) (place_of c.in_ok-after.after) (behind (listed_at c.args.count (place_of c.args.first))) c.loop-test.true c.in_ok-after.ensures c.loop.invariant

pub returns : goal.returns
returns c = is_done c.args.count c.loop.counter (place_of c.loop.rest) (behind (listed_at c.args.count (place_of c.args.first))) c.loop-test.false c.loop.invariant
