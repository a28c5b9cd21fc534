-- Which boots of agents are marked as reached.
use Rattle.std.specs.Prelude.{◌≡◌, ℕ, List, Bool, true, false, is_some}
use Rattle.std.specs.Option.{unwrap_or}
use Rattle.std.specs.declared.cmp.Ordering.{Ordering}
use Rattle.std.specs.Ordering.{nat_cmp, ordering_then}
use Rattle.std.specs.Cmp.Lexicographic.{slice_cmp}
use Rattle.std.specs.BTreeMap.{BTreeMap, get}
use Rattle.kl_appraise.specs.declared.judged.Boot.{Boot}
use Rattle.kl_agents.specs.declared.reached.Target.{Target}

-- by agent, then by the generation with which it was added, then by boot
abbrev pub target_cmp : Target → Target → Ordering
target_cmp s t = ordering_then (slice_cmp nat_cmp s.agent t.agent) (ordering_then (nat_cmp s.added t.added) (ordering_then (nat_cmp s.reset t.reset) (nat_cmp s.restart t.restart)))

-- a boot of an agent that was added with this generation
abbrev pub target_of : List ℕ → ℕ → Boot → Target
target_of a added b = record { agent = a; added = added; reset = b.reset; restart = b.restart }

-- there is a place for its mark
abbrev pub has_place : BTreeMap Target Bool → Target → Bool
has_place m t = is_some (get target_cmp m t)

-- it is marked
abbrev pub is_marked : BTreeMap Target Bool → Target → Bool
is_marked m t = unwrap_or (get target_cmp m t) false

-- a place more, and the same marks
pub record Reserves (old new : BTreeMap Target Bool) (t : Target) : Type 0 where
  pub place : has_place new t ≡ true
  pub places : (s : Target) → has_place old s ≡ true → has_place new s ≡ true
  pub marks : (s : Target) → is_marked new s ≡ is_marked old s
