use Rattle.std.proofs.Common.{◌≡◌, ◌-◌}
use Rattle.kl_attest.specs.Inner.Seen.{place_of}
use Rattle.kl_attest.specs.Inner.Reading.{listed_at, behind}
use Rattle.kl_attest.proofs.selections.pass_selections.Given as goal

abbrev pub invariant-loop : goal.invariant-loop
invariant-loop l = behind (listed_at (l.count - l.counter) (place_of l.rest)) ≡ behind (listed_at l.count (place_of l.first))
