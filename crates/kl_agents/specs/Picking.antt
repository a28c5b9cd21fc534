-- Which of the agents that are kept is polled next.
use Rattle.std.specs.Prelude.{ℕ, ◌+◌, ◌*◌, ◌^◌, min, Bool, true, ◌&&◌, ltb, leb, if◌then◌else◌, List, [], ◌∷◌, Option, Some, None, is_none}
use Rattle.std.specs.Option.{option_map_or}
use Rattle.std.specs.Ordering.{nat_cmp}
use Rattle.std.specs.BTreeMap.{BTreeMap, get}
use Rattle.kl_agents.specs.declared.entry.Entry.{Entry}
use Rattle.kl_agents.specs.declared.entry.Begun.{Begun}
use Rattle.kl_agents.specs.declared.entry.Opening.{Opening}
use Rattle.kl_agents.specs.declared.picking.Due.{Due}

-- the moment from which an agent is due
abbrev pub due_of : Entry → ℕ
due_of e = option_map_or (λ (b : Begun). min (b.at + 2000 * 2 ^ min e.losses 5) 18446744073709551615) e.latest 0

-- its last poll is not open
abbrev pub is_free : BTreeMap ℕ Opening → Entry → Bool
is_free openings e = option_map_or (λ (b : Begun). is_none (get nat_cmp openings b.poll)) e.latest true

-- it may be polled, and is due at this moment
abbrev pub waits : BTreeMap ℕ Opening → ℕ → Entry → Bool
waits openings now e = is_none e.end && (leb (due_of e) now && is_free openings e)

-- the moment is earlier than that of one that is due
abbrev pub is_sooner : ℕ → Option Due → Bool
is_sooner since None = true
is_sooner since (Some d) = ltb since d.since

-- of one that is due, and what is due behind it, the first
abbrev pub sooner : Due → Option Due → Due
sooner d None = d
sooner d (Some other) = if ltb other.since d.since then other else d

-- the first that is due of these
abbrev pub first_due : BTreeMap ℕ Opening → ℕ → List (List ℕ × Entry) → Option Due
first_due openings now [] = None
first_due openings now (e ∷ es) =
    if waits openings now e.1 then Some (sooner (record { agent = e.0; since = due_of e.1 }) (first_due openings now es)) else first_due openings now es
