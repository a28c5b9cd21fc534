use Rattle.std.proofs.Common.{◌≡◌, ◌++◌}
use Rattle.kl_registrar.specs.Inner.Listing.{actives}
use Rattle.kl_registrar.proofs.registrar.active_ids.Given as goal

-- those so far are before those that are left
abbrev pub invariant-loop-id : goal.invariant-loop-id
invariant-loop-id l = l.ids.items ++ actives l.id-iterator ≡ actives l.records.entries
