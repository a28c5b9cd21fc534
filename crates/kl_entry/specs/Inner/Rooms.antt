-- A room of fixed size of which the first bytes are in use.
use Rattle.std.specs.Prelude.{◌≡◌, ℕ, ◌≤◌, List, length, take}
use Rattle.kl_entry.specs.declared.entry_data.EntryData.TheInside.{Inside}

pub record IsInRoom (r : Inside) : Type 0 where
  pub fits : r.len ≤ 16512
  pub sized : length r.bytes ≡ 16512

abbrev pub used : Inside → List ℕ
used r = take r.len r.bytes
