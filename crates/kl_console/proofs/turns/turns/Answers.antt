use Rattle.std.proofs.Common.{Ok, Err, refl, ap, ◌∙◌, arith}
use Rattle.kl_session.specs.Calls.{empty}
use Rattle.kl_console.proofs.Failing.{fails_as, fails_behind, not_err, of_err}
use Rattle.kl_console.proofs.Playing.{ends_at_once, played_bounds, played_first}
use Rattle.kl_console.proofs.turns.turns.Goals as goal

pub returns-in_default-clause-ends : goal.returns-in_default-clause-ends
returns-in_default-clause-ends g c = (empty, c.requires, ends_at_once _ empty refl)

pub turns-init : goal.turns-init
turns-init g c = record {
  played = (empty, c.requires, played_first _ c.in-Ok.reader empty c.in-Ok.ensures.ahead c.in-Ok.ensures.passed refl);
  read = refl;
  written = refl;
  script_place = refl;
  out_place = refl;
}

pub returns-in-Err-clause-ends : goal.returns-in-Err-clause-ends
returns-in-Err-clause-ends g c = let (s, stands, p) = c.turns.invariant.played in c.in-Err.ensures.plays _ s stands p

pub returns-in-Err-clause-read : goal.returns-in-Err-clause-read
returns-in-Err-clause-read g c =
    fails_as _ _ _ _ (λ e. of_err (Err c.in-Err.end) _ _ refl e) (λ e. ap Err e) (fails_behind _ _ _ _ c.turns.invariant.read c.in-Err.ensures.read)

pub returns-in-Err-clause-write : goal.returns-in-Err-clause-write
returns-in-Err-clause-write g c =
    fails_as _ _ _ _ (λ e. of_err (Err c.in-Err.end) _ _ refl e) (λ e. ap Err e) (fails_behind _ _ _ _ c.turns.invariant.written c.in-Err.ensures.write)

pub overflow_add-number : goal.overflow_add-number
overflow_add-number g c = let (s, stands, p) = c.turns.invariant.played in omega (arith, (played_bounds _ _ _ _ _ p).1)

pub turns-smaller : goal.turns-smaller
turns-smaller g c =
    let (s, stands, p) = c.turns.invariant.played in
    let (s', after, on) = c.in-Ok-turn.ensures.plays _ s stands p in
    omega (arith, c.in-Ok-turn.ensures.later, (played_bounds _ _ _ _ _ on).0)

pub turns-preserved : goal.turns-preserved
turns-preserved g c =
    let i = c.turns.invariant in
    let (s, stands, p) = i.played in
    record {
      played = c.in-Ok-turn.ensures.plays _ s stands p;
      read = c.in-Ok-turn.ensures.read.unmet (not_err (Ok tt) _ _ refl) ∙ i.read;
      written = c.in-Ok-turn.ensures.write.unmet (not_err (Ok tt) _ _ refl) ∙ i.written;
      script_place = c.turn.ensures.places.0 ∙ i.script_place;
      out_place = c.turn.ensures.places.1 ∙ i.out_place;
    }
