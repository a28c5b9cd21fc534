use Rattle.kl_attest.specs.Inner.Seen.{place_of}
use Rattle.kl_attest.proofs.Lone.{Seeks}
use Rattle.kl_attest.proofs.selections.Selections.lone.Given as goal

abbrev pub invariant-loop : goal.invariant-loop
invariant-loop l = Seeks l.end l.counter (place_of l.rest) l.found l.self
